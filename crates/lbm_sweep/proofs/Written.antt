-- What a write of n places to one of several rows leaves.
use Rattle.std.proofs.Common.{◌≡◌, ◌≢◌, ◌⊎◌, ℕ, ℤ, pos, ◌+◌, ◌<◌, ◌≤◌, inl, inr, List, [], length, get_or, take, replicate, sym, ap, ◌∙◌, arith, length-take}
use Rattle.std.proofs.lemmas.Bool.{cases_eq}
use Rattle.std.proofs.lemmas.List.{places, get_or-set_other, length-set, length-replicate, get_or-replicate}
use Rattle.lbm_arrays.specs.Ranges.{over, with_run}
use Rattle.lbm_arrays.proofs.Ranges.{length-over, run_at}
use Rattle.lbm_cell.specs.Rows.{entry}
use Rattle.lbm_sweep.specs.Blocks.{IsSized}

pub zeros_sized : (q len : ℕ) → IsSized q len (replicate q (replicate len (pos 0)))
zeros_sized q len = record {
  count = length-replicate q (replicate len (pos 0));
  lengths = λ k known. ap length (get_or-replicate q k (replicate len (pos 0)) [] known) ∙ length-replicate len (pos 0);
}

over_here : (xs vs : List ℤ) (at j : ℕ) (d : ℤ) → at + length vs ≤ length xs → j < length vs → get_or (over xs at vs) (at + j) d ≡ get_or vs j d
over_here xs vs at j d l h = grind (arith, places)

over_before : (xs vs : List ℤ) (at p : ℕ) (d : ℤ) → at + length vs ≤ length xs → p < at → get_or (over xs at vs) p d ≡ get_or xs p d
over_before xs vs at p d l h = grind (arith, places)

over_behind : (xs vs : List ℤ) (at p : ℕ) (d : ℤ) → at + length vs ≤ length xs → at + length vs ≤ p → get_or (over xs at vs) p d ≡ get_or xs p d
over_behind xs vs at p d l h = grind (arith, places)

front_get : (vs : List ℤ) (n j : ℕ) (d : ℤ) → j < n → get_or (take n vs) j d ≡ get_or vs j d
front_get vs n j d l = grind (arith, places)

module _ (rs : List (List ℤ)) (k at n q len : ℕ) (vs : List ℤ) (sized : IsSized q len rs) (here : k < q) (fits : at + n ≤ len) (long : n ≤ length vs) where
  abbrev now : List (List ℤ)
  now = with_run rs k at (take n vs)

  count : length (take n vs) ≡ n
  count = length-take n vs ∙ omega arith

  within : at + length (take n vs) ≤ length (get_or rs k [])
  within = let a = count in let b = sized.lengths k here in omega arith

  exists : k < length rs
  exists = let a = sized.count in omega arith

  pub run_sized : IsSized q len now
  run_sized = record {
    count = length-set rs k (over (get_or rs k []) at (take n vs)) ∙ sized.count;
    lengths = λ d l. elim (cases_eq d k) [
      | inl same ↦ ap (λ e. length (get_or now e [])) same ∙ ap length (run_at rs k at (take n vs) exists) ∙ length-over (get_or rs k []) (take n vs) at within ∙ sized.lengths k here
      | inr other ↦ ap length (get_or-set_other rs k d (over (get_or rs k []) at (take n vs)) [] other) ∙ sized.lengths d l
    ];
  }

  pub run_here : (j : ℕ) → j < n → entry now k (at + j) ≡ get_or vs j (pos 0)
  run_here j l = let a = count in
      ap (λ r. get_or r (at + j) (pos 0)) (run_at rs k at (take n vs) exists) ∙ over_here (get_or rs k []) (take n vs) at j (pos 0) within (omega arith) ∙ front_get vs n j (pos 0) l

  pub run_other : (d p : ℕ) → d ≢ k → entry now d p ≡ entry rs d p
  run_other d p other = ap (λ r. get_or r p (pos 0)) (get_or-set_other rs k d (over (get_or rs k []) at (take n vs)) [] other)

  pub run_off : (d p : ℕ) → (p < at) ⊎ (at + n ≤ p) → entry now d p ≡ entry rs d p
  run_off d p off = elim (cases_eq d k) [
    | inr other ↦ run_other d p other
    | inl same ↦ ap (λ e. entry now e p) same ∙ ap (λ r. get_or r p (pos 0)) (run_at rs k at (take n vs) exists)
        ∙ elim off [ inl b ↦ over_before (get_or rs k []) (take n vs) at p (pos 0) within b | inr e ↦ (let a = count in over_behind (get_or rs k []) (take n vs) at p (pos 0) within (omega arith)) ]
        ∙ ap (λ e. entry rs e p) (sym same)
  ]
