-- The least number that fails a test.
use Rattle.std.proofs.Common.{◌≡◌, ℕ, zero, suc, ◌<◌, Bool, true, false, refl, arith, inl, inr, subst}
use Rattle.std.specs.Prelude.{Option, Some, None, ◌⊎◌, if◌then◌else◌}
use Rattle.std.proofs.lemmas.Bool.{cases_lt}
use Rattle.lbm_cell.specs.Least.{least_failing}

-- one step of the search
abbrev sought : Option ℕ → Bool → ℕ → Option ℕ
sought found passed n = elim found [
  | Some k ↦ Some k
  | None ↦ (if passed then None else Some n)
]

sought-none : (found : Option ℕ) (passed : Bool) (n : ℕ) → sought found passed n ≡ None → (found ≡ None) × (passed ≡ true)
sought-none (Some k) passed n e = absurd cc
sought-none None true n e = (refl, refl)
sought-none None false n e = absurd cc

sought-some : (found : Option ℕ) (passed : Bool) (n k : ℕ) → sought found passed n ≡ Some k → (found ≡ Some k) ⊎ ((found ≡ None) × (passed ≡ false) × (n ≡ k))
sought-some (Some j) passed n k e = inl e
sought-some None true n k e = absurd cc
sought-some None false n k e = inr (refl, refl, cc)

-- where there is none each number passes
pub least_failing-none : (n : ℕ) (test : ℕ → Bool) → least_failing n test ≡ None → (k : ℕ) → k < n → test k ≡ true
least_failing-none zero test e k below = absurd (omega arith)
least_failing-none (suc n) test e k below =
    let parts : (least_failing n test ≡ None) × (test n ≡ true) = sought-none (least_failing n test) (test n) n e in
    elim (cases_lt k n) [
      | inl front ↦ least_failing-none n test parts.0 k front
      | inr last ↦ (let same : n ≡ k = omega arith in subst (λ (j : ℕ). test j ≡ true) same parts.1)
    ]

-- the answer fails, and each number below it passes
pub record IsLeast (n : ℕ) (test : ℕ → Bool) (k : ℕ) : Type 0 where
  pub known : k < n
  pub failed : test k ≡ false
  pub passed : (j : ℕ) → j < k → test j ≡ true

pub least_failing-some : (n : ℕ) (test : ℕ → Bool) (k : ℕ) → least_failing n test ≡ Some k → IsLeast n test k
least_failing-some zero test k e = absurd cc
least_failing-some (suc n) test k e = elim (sought-some (least_failing n test) (test n) n k e) [
  | inl before ↦ (let least = least_failing-some n test k before in record { known = omega (arith, least.known); failed = least.failed; passed = least.passed })
  | inr here ↦ record {
    known = omega (arith, here.2);
    failed = subst (λ (j : ℕ). test j ≡ false) here.2 here.1;
    passed = λ j below. least_failing-none n test here.0 j (omega (arith, here.2));
  }
]

-- and that is the only answer
pub least_failing-all : (n : ℕ) (test : ℕ → Bool) → ((k : ℕ) → k < n → test k ≡ true) → least_failing n test ≡ None
least_failing-all zero test passed = refl
least_failing-all (suc n) test passed =
    let front : least_failing n test ≡ None = least_failing-all n test (λ k below. passed k (omega arith)) in
    let last : test n ≡ true = passed n (omega arith) in
    rw (front, last) refl

pub least_failing-at : (n : ℕ) (test : ℕ → Bool) (k : ℕ) → IsLeast n test k → least_failing n test ≡ Some k
least_failing-at zero test k least = absurd (omega (arith, least.known))
least_failing-at (suc n) test k least = elim (cases_lt k n) [
  | inl front ↦ (
      let before : least_failing n test ≡ Some k = least_failing-at n test k (record { known = front; failed = least.failed; passed = least.passed }) in
      rw before refl)
  | inr last ↦ (
      let same : k ≡ n = omega (arith, least.known) in
      let front : least_failing n test ≡ None = least_failing-all n test (λ j below. least.passed j (omega arith)) in
      let here : test n ≡ false = subst (λ (j : ℕ). test j ≡ false) same least.failed in
      rw (front, here, same) refl)
]
