-- What ranges hold once a run of one of them is written.
use Rattle.std.proofs.Common.{◌≡◌, ◌≢◌, ℕ, ◌+◌, ◌<◌, ◌≤◌, List, [], length, get_or, ap, ◌∙◌, inl, inr, arith, length-set}
use Rattle.std.proofs.lemmas.Bool.{cases_eq}
use Rattle.std.proofs.lemmas.List.{places, get_or-set_other}
use Rattle.lbm_arrays.specs.Ranges.{over, with_run}
use Rattle.lbm_arrays.proofs.Ranges.{length-over, run_at}

-- the values stand where they were written
pub get-over_inside : {X : Type 0} (xs vs : List X) (at i : ℕ) (d : X) → at + length vs ≤ length xs → i < length vs → get_or (over xs at vs) (at + i) d ≡ get_or vs i d
get-over_inside xs vs at i d room here = grind (arith, places)

-- and all else is as before
pub get-over_before : {X : Type 0} (xs vs : List X) (at i : ℕ) (d : X) → at + length vs ≤ length xs → i < at → get_or (over xs at vs) i d ≡ get_or xs i d
get-over_before xs vs at i d room before = grind (arith, places)

pub get-over_after : {X : Type 0} (xs vs : List X) (at i : ℕ) (d : X) → at + length vs ≤ length xs → at + length vs ≤ i → get_or (over xs at vs) i d ≡ get_or xs i d
get-over_after xs vs at i d room after = grind (arith, places)

pub length-with_run : {X : Type 0} (rs : List (List X)) (k at : ℕ) (vs : List X) → length (with_run rs k at vs) ≡ length rs
length-with_run rs k at vs = length-set rs k (over (get_or rs k []) at vs)

pub run_elsewhere : {X : Type 0} (rs : List (List X)) (k at j : ℕ) (vs : List X) → j ≢ k → get_or (with_run rs k at vs) j [] ≡ get_or rs j []
run_elsewhere rs k at j vs other = get_or-set_other rs k j (over (get_or rs k []) at vs) [] other

pub length-run_range : {X : Type 0} (rs : List (List X)) (k at j : ℕ) (vs : List X) → k < length rs → at + length vs ≤ length (get_or rs k []) → length (get_or (with_run rs k at vs) j []) ≡ length (get_or rs j [])
length-run_range rs k at j vs here room = elim (cases_eq j k) [
  | inl same ↦ rw same (ap length (run_at rs k at vs here) ∙ length-over (get_or rs k []) vs at room)
  | inr other ↦ ap length (run_elsewhere rs k at j vs other)
]
