-- Small states stay small.
use Rattle.std.proofs.Common.{List, ◌≡◌, ◌≢◌, ℕ, zero, suc, ◌+◌, ◌*◌, ◌/◌, ◌%◌, ◌^◌, ◌<◌, ◌≤◌, ℤ, pos, ◌+ℤ◌, Bool, true, false, unsigned_abs, length, get_or, refl, ap, sym, ◌∙◌, arith, inl, inr, subst}
use Rattle.std.specs.Prelude.{Option, Some, None, not, ◌&&◌, if◌then◌else◌}
use Rattle.std.proofs.lemmas.Int.{ints}
use Rattle.std.proofs.lemmas.Bool.{cases_Bool, eq-eqb}
use Rattle.std.proofs.lemmas.Nat.{div_below, mod_below, mul-add-lt}
use Rattle.std.proofs.lemmas.List.{get_or_default}
use Rattle.lbm_space.specs.Stencil.{Stencil, opposite}
use Rattle.lbm_space.specs.Torus.{cells}
use Rattle.lbm_cell.specs.Moments.{in_limits}
use Rattle.lbm_cell.specs.Collision.{RelaxationRates, push, collision, reflection}
use Rattle.lbm_cell.proofs.Sizes.{unsigned_abs-add}
use Rattle.lbm_cell.proofs.Limits.{InLimits-from_test, collision_small, population_small}
use Rattle.lbm_cell.proofs.FirstSizes.{first_population_small}
use Rattle.lbm_model.specs.State.{FlowState, population}
use Rattle.lbm_model.specs.Case.{FlowCase, IsCase, first_density, is_solid, is_moving, source, target, gain}
use Rattle.lbm_model.specs.Flow.{IsStateOf, post, fluid_first, wall_first, first_in, first, next, is_sound, out_of_limits, run, reached, range, RunEnd}
use Rattle.lbm_model.specs.Small.{IsNarrow, size_limit, IsSmall, FirstIsNarrow, NarrowIsSmall, NextIsSmall, ReachedIsNarrow}
use Rattle.lbm_model.proofs.Gains.{push_small}
use Rattle.lbm_cell.proofs.Least.{least_failing-none}
use Rattle.lbm_model.proofs.Neighbours.{target-source, source_known}
use Rattle.lbm_model.proofs.Mass.{population-state_of, length-state_of, IsStateOf-next, goes_on}

-- a gain is 0 toward a solid cell, and small toward a fluid one
gain_small : (case : FlowCase) (x i : ℕ) → IsCase case → i < case.stencil.directions → unsigned_abs (gain case x i) + 2 ^ 28 ≤ size_limit case (target case x i)
gain_small case x i allowed known =
    let size : unsigned_abs (push case.stencil case.wall i) < 2 ^ 15 = push_small case.stencil case.wall i allowed.set allowed.wall known in
    by_cases (is_moving case x) (is_solid case (target case x i)) (push case.stencil case.wall i) size
  where
    by_cases : (moves solid : Bool) (z : ℤ) → unsigned_abs z < 2 ^ 15 → unsigned_abs (if moves && not solid then z else pos 0) + 2 ^ 28 ≤ (if solid then 2 ^ 28 else 2 ^ 28 + 2 ^ 15)
    by_cases true true z size = omega arith
    by_cases true false z size = omega arith
    by_cases false true z size = omega arith
    by_cases false false z size = omega arith

-- a limit is at least 2^28
pub limit_most : (case : FlowCase) (x : ℕ) → 2 ^ 28 ≤ size_limit case x
limit_most case x = by_cases (is_solid case x)
  where
    by_cases : (solid : Bool) → 2 ^ 28 ≤ (if solid then 2 ^ 28 else 2 ^ 28 + 2 ^ 15)
    by_cases true = omega arith
    by_cases false = omega arith

-- what a solid cell and a fluid cell send
pub post-solid : (case : FlowCase) (x : ℕ) (f : ℕ → ℤ) (i : ℕ) → is_solid case x ≡ true → post case x f i ≡ reflection case.stencil f i +ℤ gain case x i
post-solid case x f i solid = rw solid refl

pub post-resting : (case : FlowCase) (x : ℕ) (f : ℕ → ℤ) (i : ℕ) → is_solid case x ≡ true → is_moving case x ≡ false → post case x f i ≡ reflection case.stencil f i
post-resting case x f i solid still =
    let none : gain case x i ≡ pos 0 = rw still refl in
    rw solid (omega (arith, ints, none))

pub post-fluid : (case : FlowCase) (x : ℕ) (f : ℕ → ℤ) (i : ℕ) → is_solid case x ≡ false → post case x f i ≡ collision case.stencil case.rates case.force f i
post-fluid case x f i fluid = rw fluid refl

-- the same, for a number that is known by the stencil v of the case
pub is_post-solid : (case : FlowCase) (x : ℕ) (f : ℕ → ℤ) (i : ℕ) (v : Stencil) (z : ℤ) → case.stencil ≡ v → is_solid case x ≡ true → z ≡ reflection v f i +ℤ gain case x i → z ≡ post case x f i
is_post-solid case x f i v z set solid is = is ∙ ap (λ (s : Stencil). reflection s f i +ℤ gain case x i) (sym set) ∙ sym (post-solid case x f i solid)

pub is_post-resting : (case : FlowCase) (x : ℕ) (f : ℕ → ℤ) (i : ℕ) (v : Stencil) (z : ℤ) → case.stencil ≡ v → is_solid case x ≡ true → is_moving case x ≡ false → z ≡ reflection v f i → z ≡ post case x f i
is_post-resting case x f i v z set solid still is = is ∙ ap (λ (s : Stencil). reflection s f i) (sym set) ∙ sym (post-resting case x f i solid still)

pub is_post-fluid : (case : FlowCase) (x : ℕ) (f : ℕ → ℤ) (i : ℕ) (v : Stencil) (r : RelaxationRates) (u : List ℤ) (z : ℤ) → case.stencil ≡ v → r ≡ case.rates → u ≡ case.force → is_solid case x ≡ false → z ≡ collision v r u f i → z ≡ post case x f i
is_post-fluid case x f i v r u z set rates force fluid is =
    is ∙ ap (λ (s : Stencil). collision s r u f i) (sym set) ∙ ap (λ (r : RelaxationRates). collision case.stencil r u f i) rates ∙ ap (λ (u : List ℤ). collision case.stencil case.rates u f i) force ∙ sym (post-fluid case x f i fluid)

-- what a cell sends is within the limit of the cell that it is sent to
pub post_small : (case : FlowCase) (x i : ℕ) (f : ℕ → ℤ) → IsCase case → is_sound case x f ≡ true → ((k : ℕ) → k < case.stencil.directions → unsigned_abs (f k) ≤ size_limit case x) → i < case.stencil.directions →
    unsigned_abs (post case x f i) ≤ size_limit case (target case x i)
post_small case x i f allowed sound small known = elim (cases_Bool (is_solid case x)) [
  | inl solid ↦ (
      let turned : unsigned_abs (reflection case.stencil f i) ≤ 2 ^ 28 = rw solid at (small (opposite case.stencil i) (allowed.set.opposite_exists i known)) in
      rw solid (omega (arith, unsigned_abs-add (reflection case.stencil f i) (gain case x i), turned, gain_small case x i allowed known)))
  | inr fluid ↦ (
      let limits : in_limits case.stencil f ≡ true = rw fluid at sound in
      let moved = collision_small case.stencil case.rates case.force f i allowed.set allowed.rates allowed.force (InLimits-from_test case.stencil f limits) known in
      rw fluid (omega (arith, moved, limit_most case (target case x i))))
]

-- the next state of a small state in limits is small
pub small-next : NextIsSmall
small-next case s allowed small sound = record {
  within = λ x i known_x known.
      let y = source case x i in
      let known_y : y < cells case.torus = source_known case x i allowed known_x known in
      let sent : population (next case s) x i ≡ post case y (population s y) i =
      population-state_of case.stencil.directions (cells case.torus) (λ x i. post case (source case x i) (population s (source case x i)) i) x i known_x known in
      let size : unsigned_abs (post case y (population s y) i) ≤ size_limit case (target case y i) =
      post_small case y i (population s y) allowed (least_failing-none (cells case.torus) (λ x. is_sound case x (population s x)) sound y known_y) (λ k known_k. small.within y k known_y known_k) known in
      rw sent (subst (λ (z : ℕ). unsigned_abs (post case y (population s y) i) ≤ size_limit case z) (target-source case x i allowed known_x known) size);
}

-- the first population of a fluid cell
fluid_small : (case : FlowCase) (x i : ℕ) → IsCase case → x < cells case.torus → is_solid case x ≡ false → i < case.stencil.directions → unsigned_abs (fluid_first case x i) < 2 ^ 28
fluid_small case x i allowed known_x fluid known =
    let d = first_density case x in
    let within : x < length case.densities = omega (arith, allowed.densities.one_each) in
    let some : d ≢ 0 = λ none. (let solid : is_solid case x ≡ true = eq-eqb d 0 none in absurd cc) in
    let thin : 442368 ≤ d = allowed.densities.not_thin x 0 within some in
    let dense : d ≤ 4194304 = allowed.densities.not_dense x 0 within in
    first_population_small case.stencil (pos d) case.momentum i allowed.set (omega (arith, ints)) (omega (arith, ints)) allowed.momentum.small known

wall_small : (case : FlowCase) (x i : ℕ) → IsCase case → x < cells case.torus → i < case.stencil.directions → unsigned_abs (wall_first case x i) < 2 ^ 28
wall_small case x i allowed known_x known = elim (cases_Bool (is_solid case (source case x i))) [
  | inl solid ↦ rw solid (omega arith)
  | inr fluid ↦ rw fluid (fluid_small case (source case x i) i allowed (source_known case x i allowed known_x known) fluid known)
]

-- a population by its place
by_place : (s : FlowState) (n k : ℕ) → 0 < s.directions → k < n * s.directions → (k / s.directions < n) × (k % s.directions < s.directions) × (population s (k / s.directions) (k % s.directions) ≡ get_or s.numbers k (pos 0))
by_place s n k some known =
    let q = s.directions in
    let place : k / q * q + k % q ≡ k = omega arith in
    (div_below k q n some known, mod_below k q some, ap (λ (j : ℕ). get_or s.numbers j (pos 0)) place)

-- a state of whole cells in which no population of a cell is large is narrow
narrow : (s : FlowState) (n : ℕ) → 0 < s.directions → length s.numbers ≡ n * s.directions → ((x i : ℕ) → x < n → i < s.directions → unsigned_abs (population s x i) ≤ 2 ^ 28) → IsNarrow s
narrow s n some size each = λ k d known.
    let within : k < n * s.directions = rw (← size) known in
    let place = by_place s n k some within in
    let number : get_or s.numbers k d ≡ population s (k / s.directions) (k % s.directions) = get_or_default s.numbers k d (pos 0) known ∙ sym place.2 in
    rw number (each (k / s.directions) (k % s.directions) place.0 place.1)

-- the first state is narrow
pub narrow-first : FirstIsNarrow
narrow-first case allowed =
    narrow (first case) (cells case.torus) allowed.set.some_direction (length-state_of case.stencil.directions (cells case.torus) (first_in case)) (λ x i known_x known.
    let is : population (first case) x i ≡ first_in case x i = population-state_of case.stencil.directions (cells case.torus) (first_in case) x i known_x known in
    let size : unsigned_abs (first_in case x i) < 2 ^ 28 = elim (cases_Bool (is_solid case x)) [
      | inl solid ↦ rw solid (wall_small case x i allowed known_x known)
      | inr fluid ↦ rw fluid (fluid_small case x i allowed known_x fluid known)
    ] in
    rw is (omega (arith, size)))

-- a narrow state is small
pub small-narrow : NarrowIsSmall
small-narrow case s allowed state light = record {
  within = λ x i known_x known.
      let width : i < s.directions = rw state.directions known in
      let place : x * s.directions + i < length s.numbers = rw state.numbers (omega (arith, mul-add-lt x s.directions i (cells case.torus) known_x width)) in
      omega (arith, light (x * s.directions + i) (pos 0) place, limit_most case x);
}

-- a run that reaches a state begins in limits
pub on_the_way : (worst : Option ℕ) (time : ℕ) (rest : RunEnd) (end : FlowState) → elim worst [ Some x ↦ range time x | None ↦ rest ] ≡ reached end → worst ≡ None
on_the_way (Some x) time rest end e = absurd cc
on_the_way None time rest end e = refl

pub small-run : (case : FlowCase) (s end : FlowState) (time steps : ℕ) → IsCase case → IsStateOf case s → IsSmall case s → run case s time steps ≡ reached end →
    IsStateOf case end × IsSmall case end × (out_of_limits case end ≡ None)
small-run case s end time zero allowed state small e =
    let same : s ≡ end = (let h : reached s ≡ reached end = goes_on (out_of_limits case s) time (reached s) end e in cc) in
    let limits : out_of_limits case s ≡ None = on_the_way (out_of_limits case s) time (reached s) end e in
    (subst (IsStateOf case) same state, subst (IsSmall case) same small, subst (λ (z : FlowState). out_of_limits case z ≡ None) same limits)
small-run case s end time (suc steps) allowed state small e =
    let limits : out_of_limits case s ≡ None = on_the_way (out_of_limits case s) time (run case (next case s) (time + 1) steps) end e in
    let h : run case (next case s) (time + 1) steps ≡ reached end = goes_on (out_of_limits case s) time (run case (next case s) (time + 1) steps) end e in
    small-run case (next case s) end (time + 1) steps allowed (IsStateOf-next case s) (small-next case s allowed small limits) h

-- a small state in limits is narrow
narrow-limits : (case : FlowCase) (s : FlowState) → IsCase case → IsStateOf case s → IsSmall case s → out_of_limits case s ≡ None → IsNarrow s
narrow-limits case s allowed state small limits =
    let some : 0 < s.directions = rw state.directions allowed.set.some_direction in
    narrow s (cells case.torus) some state.numbers (λ x i known_x width.
    let known : i < case.stencil.directions = rw (← state.directions) width in
    let sound : is_sound case x (population s x) ≡ true = least_failing-none (cells case.torus) (λ x. is_sound case x (population s x)) limits x known_x in
    let within : unsigned_abs (population s x i) ≤ size_limit case x = small.within x i known_x known in
    elim (cases_Bool (is_solid case x)) [
      | inl solid ↦ rw solid at within
      | inr fluid ↦ (
          let inside : in_limits case.stencil (population s x) ≡ true = rw fluid at sound in
          omega (arith, population_small case.stencil (population s x) i (InLimits-from_test case.stencil (population s x) inside) known))
    ])

-- the state that a run reaches is narrow
pub narrow-reached : ReachedIsNarrow
narrow-reached case s end time steps allowed state light e =
    let there = small-run case s end time steps allowed state (small-narrow case s allowed state light) e in
    narrow-limits case end allowed there.0 there.1 there.2
