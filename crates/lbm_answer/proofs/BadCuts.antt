-- The first entry of a list of rows at which there can be no cut.
use Rattle.std.proofs.Common.{◌≡◌, ℕ, Bool, true, false, List, length, refl, inl, inr}
use Rattle.std.specs.Prelude.{◌⊎◌, ◌&&◌, Option, Some, None, nat_lt, slice_index, Err}
use Rattle.std.proofs.lemmas.Bool.{cases_Bool, lt-ltb, ltb-true}
use Rattle.lbm_space.specs.Torus.{Torus, rows}
use Rattle.lbm_space.specs.Cuttings.{IsGoodCut, IsBadCut, row_before}
use Rattle.lbm_space.specs.declared.cutting.CutEnd.{CutEnd}
use Rattle.lbm_space.specs.declared.cutting.CutEnd.TheVariants.{BadCut, Memory}
use Rattle.lbm_cell.proofs.Least.{IsLeast, least_failing-some, least_failing-at}
use Rattle.lbm_answer.specs.Causes.{cut_end}
use Rattle.lbm_answer.specs.Outcome.{is_good_cut, bad_cut}
use Rattle.lbm_answer.specs.Jobs.{Cuts}

-- ---- the test

passes : (row_count : ℕ) (entries : List ℕ) (k : ℕ) → IsGoodCut row_count entries k → is_good_cut row_count entries k ≡ true
passes row_count entries k good = rw (lt-ltb _ _ good.0, lt-ltb _ _ good.1) refl

both : (a b : Bool) → (a && b) ≡ true → (a ≡ true) × (b ≡ true)
both true true e = (refl, refl)
both true false e = absurd cc
both false b e = absurd cc

passed : (row_count : ℕ) (entries : List ℕ) (k : ℕ) → is_good_cut row_count entries k ≡ true → IsGoodCut row_count entries k
passed row_count entries k test =
    let parts = both (nat_lt (row_before entries k) (slice_index entries k)) (nat_lt (slice_index entries k) row_count) test in
    (ltb-true _ _ parts.0, ltb-true _ _ parts.1)

-- ---- the first one

pub bad_cut-at : (t : Torus) (entries : List ℕ) (k : ℕ) → IsBadCut (rows t) entries k → bad_cut t (Some entries) ≡ Some k
bad_cut-at t entries k bad =
    let test = is_good_cut (rows t) entries in
    let failed : test k ≡ false = elim (cases_Bool (test k)) [
      | inl good ↦ absurd (bad.bad (passed (rows t) entries k good))
      | inr e ↦ e
    ] in
    least_failing-at (length entries) test k (record {
      known = bad.known;
      failed = failed;
      passed = λ j below. passes (rows t) entries j (bad.earlier j below);
    })

pub bad_cut-some : (t : Torus) (entries : List ℕ) (k : ℕ) → bad_cut t (Some entries) ≡ Some k → IsBadCut (rows t) entries k
bad_cut-some t entries k is =
    let test = is_good_cut (rows t) entries in
    let least : IsLeast (length entries) test k = least_failing-some (length entries) test k is in
    record {
      known = least.known;
      earlier = λ j below. passed (rows t) entries j (least.passed j below);
      bad = λ good. (let pass : test k ≡ true = passes (rows t) entries k good in let fail : test k ≡ false = least.failed in absurd cc);
    }

cases_Option : (found : Option ℕ) → (found ≡ None) ⊎ ((k : ℕ) × (found ≡ Some k))
cases_Option None = inl refl
cases_Option (Some k) = inr (k, refl)

pub bad_cut-none : (t : Torus) (entries : List ℕ) → ((k : ℕ) → IsBadCut (rows t) entries k → ⊥) → bad_cut t (Some entries) ≡ None
bad_cut-none t entries none = elim (cases_Option (bad_cut t (Some entries))) [
  | inl e ↦ e
  | inr found ↦ absurd (none found.0 (bad_cut-some t entries found.0 found.1))
]

-- ---- what the cutting of rows answers

pub Cuts-end : (t : Torus) (entries : List ℕ) (why : CutEnd) → ((k : ℕ) → why ≡ BadCut k → IsBadCut (rows t) entries k) → Cuts t (Some entries) (Err (cut_end why))
Cuts-end t entries (BadCut k) bad = bad_cut-at t entries k (bad k refl)
Cuts-end t entries Memory bad = tt
