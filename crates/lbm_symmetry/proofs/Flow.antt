-- The flow of a moved case is the flow of the case, moved.
use Rattle.std.proofs.Common.{◌≡◌, ℕ, zero, suc, ◌+◌, ◌*◌, ◌<◌, ◌≤◌, Bool, true, false, not, ◌&&◌, ◌||◌, eqb, List, [], ◌∷◌, length, get_or, ℤ, pos, ◌+ℤ◌, refl, sym, ap, subst, ◌∙◌, inl, inr, arith, lit<}
use Rattle.std.specs.Prelude.{if◌then◌else◌, nat_eq, Option, Some, None, ◌⊎◌}
use Rattle.std.specs.List.{list_any, filter, range_with_len}
use Rattle.std.proofs.lemmas.Bool.{eq-eqb, eqb-true}
use Rattle.std.proofs.lemmas.List.Folds.{list_any_at}
use Rattle.std.proofs.lemmas.List.FromFn.{get_or-map-range_with_len, get_or-range_with_len, length-range_with_len}
use Rattle.std.proofs.lemmas.Map.Views.{any-filter_same}
use Rattle.lbm_space.specs.Sum.{sum_below}
use Rattle.lbm_space.specs.Stencil.{Stencil, part, velocity, opposite}
use Rattle.lbm_space.specs.Torus.{Torus, cells, back}
use Rattle.lbm_space.proofs.Back.{HasCells, HasCells-from_space, IsUnit, back_within}
use Rattle.lbm_space.proofs.Sums.{sum_below-same, sum_below-reindex}
use Rattle.lbm_cell.specs.Moments.{density, momentum, momentum_part, in_limits}
use Rattle.lbm_cell.specs.Collision.{collision, reflection, push, first_population}
use Rattle.lbm_cell.proofs.Least.{least_failing-none, least_failing-all}
use Rattle.lbm_model.specs.State.{FlowState, population, mass}
use Rattle.lbm_model.specs.Case.{FlowCase, first_density, is_solid, is_moving, source, target, gain}
use Rattle.lbm_model.specs.Flow.{IsStateOf, state_by, post, next, fluid_first, wall_first, first_in, first, is_sound, out_of_limits, run, RunEnd, reached, range}
use Rattle.lbm_model.specs.Drift.{total_momentum}
use Rattle.lbm_model.proofs.Neighbours.{source_known}
use Rattle.lbm_model.proofs.Mass.{mass-by_cell, goes_on}
use Rattle.lbm_model.proofs.SmallStates.{on_the_way}
use Rattle.lbm_model.proofs.States.{state_by-same, IsStateOf-state_by, population-state_by}
use Rattle.lbm_symmetry.specs.Motions.{Motion, IsMotion, signed, moved_vector, moved_torus, moved_cell, former_cell}
use Rattle.lbm_symmetry.specs.Sets.{former_direction}
use Rattle.lbm_symmetry.specs.Moved.{moved_case, moved_state}
use Rattle.lbm_symmetry.specs.Laws.{CanMove, all_momentum}
use Rattle.lbm_symmetry.proofs.Axes.{each_axis, cells-moved}
use Rattle.lbm_symmetry.proofs.Cells.{HasCells-moved, moved_cell_below, former_cell_below, moved-former_cell, former_cell-moved, former_cell-back}
use Rattle.lbm_symmetry.proofs.Directions.{undone, Turns, turns}
use Rattle.lbm_symmetry.proofs.Rule.{AreMoved, density-moved, momentum-moved, momentum_part-moved, sum-signed, in_limits-moved, push-moved, collision-moved, reflection-moved, first_population-moved}

and_true : (b : Bool) → (b && true) ≡ b
and_true true = refl
and_true false = refl

-- where a run stops, its state is out of limits or the run from the next one stops there
stopped : (worst : Option ℕ) (time end x : ℕ) (rest : RunEnd) → elim worst [ Some k ↦ range time k | None ↦ rest ] ≡ range end x →
    ((k : ℕ) × (worst ≡ Some k) × (time ≡ end)) ⊎ ((worst ≡ None) × (rest ≡ range end x))
stopped (Some k) time end x rest e = inl (k, refl, cc)
stopped None time end x rest e = inr (refl, e)

-- and the other way round
goes : (worst : Option ℕ) (time : ℕ) (rest : RunEnd) → worst ≡ None → elim worst [ Some k ↦ range time k | None ↦ rest ] ≡ rest
goes (Some k) time rest e = absurd cc
goes None time rest e = refl

stops : (worst : Option ℕ) (time k : ℕ) (rest : RunEnd) → worst ≡ Some k → elim worst [ Some k ↦ range time k | None ↦ rest ] ≡ range time k
stops (Some j) time k rest e = let same : j ≡ k = cc in ap (range time) same
stops None time k rest e = absurd cc

module _ (m : Motion) (case : FlowCase) (can : CanMove m case) where
  abbrev v : Stencil
  v = case.stencil

  abbrev moved : FlowCase
  moved = moved_case m case

  -- which cell was moved to y, and which direction to j
  abbrev former : ℕ → ℕ
  former y = former_cell m case.torus y

  abbrev from : ℕ → ℕ
  from j = former_direction m v j

  abbrev to : ℕ → ℕ
  to i = former_direction (undone m) v i

  some : HasCells case.torus
  some = HasCells-from_space case.torus can.allowed.space

  some_moved : HasCells moved.torus
  some_moved = HasCells-moved v.dimension m case.torus can.motion some

  turning : Turns m v from to
  turning = turns m v can.motion can.allowed.set can.symmetric

  pub count : cells moved.torus ≡ cells case.torus
  count = cells-moved v.dimension m case.torus can.motion

  pub former_known : (y : ℕ) → y < cells moved.torus → former y < cells case.torus
  former_known y known = former_cell_below v.dimension m case.torus can.motion some y known

  from_known : (j : ℕ) → j < v.directions → from j < v.directions
  from_known j known = turning.from_known j known

  -- ---- cells and their neighbours

  pub first_density-moved : (y : ℕ) → y < cells moved.torus → first_density moved y ≡ first_density case (former y)
  first_density-moved y known = get_or-map-range_with_len (λ z. first_density case (former z)) 0 (cells moved.torus) y y 0 known (omega arith)

  is_solid-moved : (y : ℕ) → y < cells moved.torus → is_solid moved y ≡ is_solid case (former y)
  is_solid-moved y known = ap (λ (n : ℕ). nat_eq n 0) (first_density-moved y known)

  is_moving-moved : (y : ℕ) → y < cells moved.torus → is_moving moved y ≡ is_moving case (former y)
  is_moving-moved y known =
      let n = cells moved.torus in
      let moves : ℕ → Bool = λ z. is_moving case (former z) in
      let listed : list_any (λ z. nat_eq y z) (range_with_len 0 n) ≡ true =
      list_any_at (λ z. nat_eq y z) (range_with_len 0 n) y 0 (rw (length-range_with_len 0 n) known)
      (eq-eqb y (get_or (range_with_len 0 n) y 0) (let at = get_or-range_with_len 0 n y 0 known in omega (arith, at))) in
      any-filter_same (λ z. nat_eq y z) moves (moves y) (λ z same. ap moves (sym (eqb-true y z same))) (range_with_len 0 n)
      ∙ ap (λ (b : Bool). moves y && b) listed ∙ and_true (moves y)

  unit : (i : ℕ) → i < v.directions → IsUnit (velocity v i)
  unfolding IsUnit
  unit i known = λ a axis. can.allowed.set.unit_parts i a known axis

  source_known-moved : (y j : ℕ) → y < cells moved.torus → j < v.directions → source moved y j < cells moved.torus
  source_known-moved y j known_y known = back_within moved.torus (velocity v j) y some_moved (unit j known) known_y

  source-moved : (y j : ℕ) → y < cells moved.torus → j < v.directions → former (source moved y j) ≡ source case (former y) (from j)
  source-moved y j known_y known =
      ap (λ (c : List ℤ). former (back moved.torus c y)) (turning.velocities j known)
      ∙ former_cell-back v.dimension m case.torus can.motion some (velocity v (from j)) y (unit (from j) (from_known j known)) known_y

  target-moved : (y j : ℕ) → y < cells moved.torus → j < v.directions → former (target moved y j) ≡ target case (former y) (from j)
  target-moved y j known_y known = source-moved y (opposite v j) known_y (can.allowed.set.opposite_exists j known) ∙ ap (source case (former y)) (turning.opposites j known)

  -- ---- what a cell sends

  gain-moved : (y j : ℕ) → y < cells moved.torus → j < v.directions → gain moved y j ≡ gain case (former y) (from j)
  gain-moved y j known_y known =
      let z : ℕ = target moved y j in
      let known_z : z < cells moved.torus = source_known-moved y (opposite v j) known_y (can.allowed.set.opposite_exists j known) in
      let by = λ (moves solid : Bool) (g : ℤ). if moves && not solid then g else pos 0 in
      ap (λ (b : Bool). by b (is_solid moved z) (push v moved.wall j)) (is_moving-moved y known_y)
      ∙ ap (λ (b : Bool). by (is_moving case (former y)) b (push v moved.wall j)) (is_solid-moved z known_z ∙ ap (is_solid case) (target-moved y j known_y known))
      ∙ ap (by (is_moving case (former y)) (is_solid case (target case (former y) (from j)))) (push-moved v.dimension m v from to can.motion can.allowed.set turning case.wall j known)

  post-moved : (f g : ℕ → ℤ) (y j : ℕ) → AreMoved v from f g → y < cells moved.torus → j < v.directions → post moved y g j ≡ post case (former y) f (from j)
  post-moved f g y j are known_y known =
      let by = λ (solid : Bool) (turned added sent : ℤ). if solid then turned +ℤ added else sent in
      ap (λ (b : Bool). by b (reflection v g j) (gain moved y j) (collision v case.rates moved.force g j)) (is_solid-moved y known_y)
      ∙ ap (λ (z : ℤ). by (is_solid case (former y)) z (gain moved y j) (collision v case.rates moved.force g j)) (reflection-moved v.dimension m v from to can.motion can.allowed.set turning f g j are known)
      ∙ ap (λ (z : ℤ). by (is_solid case (former y)) (reflection v f (from j)) z (collision v case.rates moved.force g j)) (gain-moved y j known_y known)
      ∙ ap (by (is_solid case (former y)) (reflection v f (from j)) (gain case (former y) (from j))) (collision-moved v.dimension m v from to can.motion can.allowed.set turning case.rates case.force f g j are known)

  -- ---- states

  population-moved : (s : FlowState) (y j : ℕ) → y < cells moved.torus → j < v.directions → population (moved_state m case s) y j ≡ population s (former y) (from j)
  population-moved s y j known_y known = population-state_by moved (λ z k. population s (former z) (from k)) y j known_y known

  held : (s : FlowState) (y : ℕ) → y < cells moved.torus → AreMoved v from (population s (former y)) (population (moved_state m case s) y)
  held s y known_y = record { same = λ j known. population-moved s y j known_y known }

  pub next-moved : (s : FlowState) → next moved (moved_state m case s) ≡ moved_state m case (next case s)
  next-moved s =
      let pulled : ℕ → ℕ → ℤ = λ x i. post case (source case x i) (population s (source case x i)) i in
      state_by-same moved (λ y j. post moved (source moved y j) (population (moved_state m case s) (source moved y j)) j) (λ y j. population (next case s) (former y) (from j)) (λ y j known_y known.
      let z : ℕ = source moved y j in
      let known_z : z < cells moved.torus = source_known-moved y j known_y known in
      post-moved (population s (former z)) (population (moved_state m case s) z) z j (held s z known_z) known_z known
      ∙ ap (λ (x : ℕ). post case x (population s x) (from j)) (source-moved y j known_y known)
      ∙ sym (population-state_by case pulled (former y) (from j) (former_known y known_y) (from_known j known)))

  fluid_first-moved : (y j : ℕ) → y < cells moved.torus → j < v.directions → fluid_first moved y j ≡ fluid_first case (former y) (from j)
  fluid_first-moved y j known_y known =
      ap (λ (n : ℕ). first_population v (pos n) moved.momentum j) (first_density-moved y known_y)
      ∙ first_population-moved v.dimension m v from to can.motion can.allowed.set turning (pos (first_density case (former y))) case.momentum j known

  wall_first-moved : (y j : ℕ) → y < cells moved.torus → j < v.directions → wall_first moved y j ≡ wall_first case (former y) (from j)
  wall_first-moved y j known_y known =
      let z : ℕ = source moved y j in
      let known_z : z < cells moved.torus = source_known-moved y j known_y known in
      let by = λ (solid : Bool) (f : ℤ). if solid then pos 0 else f in
      ap (λ (b : Bool). by b (fluid_first moved z j)) (is_solid-moved z known_z)
      ∙ ap (by (is_solid case (former z))) (fluid_first-moved z j known_z known)
      ∙ ap (λ (x : ℕ). by (is_solid case x) (fluid_first case x (from j))) (source-moved y j known_y known)

  pub first-moved : first moved ≡ moved_state m case (first case)
  first-moved =
      let by = λ (solid : Bool) (w f : ℤ). if solid then w else f in
      state_by-same moved (first_in moved) (λ y j. population (first case) (former y) (from j)) (λ y j known_y known.
      ap (λ (b : Bool). by b (wall_first moved y j) (fluid_first moved y j)) (is_solid-moved y known_y)
      ∙ ap (λ (w : ℤ). by (is_solid case (former y)) w (fluid_first moved y j)) (wall_first-moved y j known_y known)
      ∙ ap (by (is_solid case (former y)) (wall_first case (former y) (from j))) (fluid_first-moved y j known_y known)
      ∙ sym (population-state_by case (first_in case) (former y) (from j) (former_known y known_y) (from_known j known)))

  -- ---- runs

  is_sound-moved : (s : FlowState) (y : ℕ) → y < cells moved.torus → is_sound moved y (population (moved_state m case s) y) ≡ is_sound case (former y) (population s (former y))
  is_sound-moved s y known_y =
      ap (λ (b : Bool). b || in_limits v (population (moved_state m case s) y)) (is_solid-moved y known_y)
      ∙ ap (λ (b : Bool). is_solid case (former y) || b) (in_limits-moved v.dimension m v from to can.motion can.allowed.set turning (population s (former y)) (population (moved_state m case s) y) (held s y known_y))

  pub limits-moved : (s : FlowState) → out_of_limits case s ≡ None → out_of_limits moved (moved_state m case s) ≡ None
  limits-moved s none =
      least_failing-all (cells moved.torus) (λ y. is_sound moved y (population (moved_state m case s) y)) (λ y known_y.
      is_sound-moved s y known_y ∙ least_failing-none (cells case.torus) (λ x. is_sound case x (population s x)) none (former y) (former_known y known_y))

  pub limits-former : (s : FlowState) → out_of_limits moved (moved_state m case s) ≡ None → out_of_limits case s ≡ None
  limits-former s none =
      least_failing-all (cells case.torus) (λ x. is_sound case x (population s x)) (λ x known_x.
      let y : ℕ = moved_cell m case.torus x in
      let known_y : y < cells moved.torus = moved_cell_below v.dimension m case.torus can.motion some x in
      ap (λ (z : ℕ). is_sound case z (population s z)) (sym (former_cell-moved v.dimension m case.torus can.motion some x known_x))
      ∙ sym (is_sound-moved s y known_y)
      ∙ least_failing-none (cells moved.torus) (λ z. is_sound moved z (population (moved_state m case s) z)) none y known_y)

  pub run-moved : (s end : FlowState) (time steps : ℕ) → run case s time steps ≡ reached end → run moved (moved_state m case s) time steps ≡ reached (moved_state m case end)
  run-moved s end time zero e =
      let limits : out_of_limits case s ≡ None = on_the_way (out_of_limits case s) time (reached s) end e in
      let h : reached s ≡ reached end = goes_on (out_of_limits case s) time (reached s) end e in
      let same : s ≡ end = cc in
      goes (out_of_limits moved (moved_state m case s)) time (reached (moved_state m case s)) (limits-moved s limits) ∙ ap (λ (z : FlowState). reached (moved_state m case z)) same
  run-moved s end time (suc steps) e =
      let limits : out_of_limits case s ≡ None = on_the_way (out_of_limits case s) time (run case (next case s) (time + 1) steps) end e in
      let h : run case (next case s) (time + 1) steps ≡ reached end = goes_on (out_of_limits case s) time (run case (next case s) (time + 1) steps) end e in
      goes (out_of_limits moved (moved_state m case s)) time (run moved (next moved (moved_state m case s)) (time + 1) steps) (limits-moved s limits)
      ∙ ap (λ (z : FlowState). run moved z (time + 1) steps) (next-moved s) ∙ run-moved (next case s) end (time + 1) steps h

  -- a state out of limits, moved, is out of limits in some cell
  some_cell : (s : FlowState) (k : ℕ) → out_of_limits case s ≡ Some k → (y : ℕ) × (out_of_limits moved (moved_state m case s) ≡ Some y)
  some_cell s k worst = go (out_of_limits moved (moved_state m case s)) refl
    where
      go : (o : Option ℕ) → out_of_limits moved (moved_state m case s) ≡ o → (y : ℕ) × (o ≡ Some y)
      go (Some y) is = (y, refl)
      go None is = absurd (let none : out_of_limits case s ≡ None = limits-former s is in cc)

  pub range-moved : (s : FlowState) (time steps end x : ℕ) → run case s time steps ≡ range end x → (y : ℕ) × (run moved (moved_state m case s) time steps ≡ range end y)
  range-moved s time zero end x e = elim (stopped (out_of_limits case s) time end x (reached s) e) [
    | inl here ↦ (
        let cell = some_cell s here.0 here.1 in
        (cell.0, stops (out_of_limits moved (moved_state m case s)) time cell.0 (reached (moved_state m case s)) cell.1 ∙ ap (λ (t : ℕ). range t cell.0) here.2))
    | inr later ↦ (let no : reached s ≡ range end x = later.1 in absurd cc)
  ]
  range-moved s time (suc steps) end x e = elim (stopped (out_of_limits case s) time end x (run case (next case s) (time + 1) steps) e) [
    | inl here ↦ (
        let cell = some_cell s here.0 here.1 in
        (cell.0, stops (out_of_limits moved (moved_state m case s)) time cell.0 (run moved (next moved (moved_state m case s)) (time + 1) steps) cell.1 ∙ ap (λ (t : ℕ). range t cell.0) here.2))
    | inr later ↦ (
        let rest = range-moved (next case s) (time + 1) steps end x later.1 in (
          rest.0,
          goes (out_of_limits moved (moved_state m case s)) time (run moved (next moved (moved_state m case s)) (time + 1) steps) (limits-moved s later.0)
              ∙ ap (λ (z : FlowState). run moved z (time + 1) steps) (next-moved s) ∙ rest.1,
        ))
  ]

  -- a case that stays as it is begins, and goes on, with states that stay as they are
  pub symmetric-first : moved ≡ case → moved_state m case (first case) ≡ first case
  symmetric-first same = sym first-moved ∙ ap first same

  pub symmetry_stays : (s end : FlowState) (time steps : ℕ) → moved ≡ case → moved_state m case s ≡ s → run case s time steps ≡ reached end → moved_state m case end ≡ end
  symmetry_stays s end time steps same still e =
      let there : run moved s time steps ≡ reached (moved_state m case end) = ap (λ (z : FlowState). run moved z time steps) (sym still) ∙ run-moved s end time steps e in
      let here : run case s time steps ≡ reached (moved_state m case end) = subst (λ (c : FlowCase). run c s time steps ≡ reached (moved_state m case end)) same there in
      cc

  -- ---- moments

  pub density-at : (s : FlowState) (y : ℕ) → y < cells moved.torus → density v (population (moved_state m case s) y) ≡ density v (population s (former y))
  density-at s y known_y = density-moved v.dimension m v from to can.motion can.allowed.set turning (population s (former y)) (population (moved_state m case s) y) (held s y known_y)

  pub momentum-at : (s : FlowState) (y : ℕ) → y < cells moved.torus → momentum v (population (moved_state m case s) y) ≡ moved_vector m (momentum v (population s (former y)))
  momentum-at s y known_y = momentum-moved v.dimension m v from to can.motion can.allowed.set turning (population s (former y)) (population (moved_state m case s) y) (held s y known_y)

  -- a sum over all cells
  sum-cells : (f : ℕ → ℤ) → sum_below (cells moved.torus) (λ y. f (former y)) ≡ sum_below (cells case.torus) f
  sum-cells f =
      let to_cell : ℕ → ℕ = moved_cell m case.torus in
      sum_below-reindex (cells moved.torus) former to_cell f
      (λ y known. rw count (former_known y known))
      (λ x _. moved_cell_below v.dimension m case.torus can.motion some x)
      (λ y known. moved-former_cell v.dimension m case.torus can.motion some y known)
      (λ x known. former_cell-moved v.dimension m case.torus can.motion some x (rw (← count) known))
      ∙ ap (λ (n : ℕ). sum_below n f) count

  pub mass-moved : (s : FlowState) → IsStateOf case s → mass (moved_state m case s) ≡ mass s
  mass-moved s state =
      let z : FlowState = moved_state m case s in
      let whole : IsStateOf moved z = IsStateOf-state_by moved (λ y j. population s (former y) (from j)) in
      mass-by_cell z (cells moved.torus) whole.numbers
      ∙ sum_below-same (cells moved.torus) (λ y. sum_below v.directions (population z y)) (λ y. sum_below v.directions (population s (former y))) (λ y known_y. density-at s y known_y)
      ∙ sum-cells (λ x. sum_below v.directions (population s x))
      ∙ sym (mass-by_cell s (cells case.torus) state.numbers ∙ ap (λ (k : ℕ). sum_below (cells case.torus) (λ x. sum_below k (population s x))) state.directions)

  total_momentum-moved : (s : FlowState) (a : ℕ) → a < 3 → total_momentum moved (moved_state m case s) a ≡ signed (m.reversed a) (total_momentum case s (m.axis a))
  total_momentum-moved s a axis =
      let r : Bool = m.reversed a in
      let carried : ℕ → ℤ = λ x. momentum_part v (population s x) (m.axis a) in
      sum_below-same (cells moved.torus) (λ y. momentum_part v (population (moved_state m case s) y) a) (λ y. signed r (carried (former y)))
      (λ y known_y. momentum_part-moved v.dimension m v from to can.motion can.allowed.set turning (population s (former y)) (population (moved_state m case s) y) a (held s y known_y) axis)
      ∙ sum-cells (λ x. signed r (carried x))
      ∙ sum-signed r (cells case.torus) carried

  pub all_momentum-moved : (s : FlowState) → all_momentum moved (moved_state m case s) ≡ moved_vector m (all_momentum case s)
  all_momentum-moved s =
      let at : (b : ℕ) → b < 3 → part (all_momentum case s) b ≡ total_momentum case s b = each_axis (λ (b : ℕ). part (all_momentum case s) b ≡ total_momentum case s b) refl refl refl in
      let each : (a : ℕ) → a < 3 → total_momentum moved (moved_state m case s) a ≡ signed (m.reversed a) (part (all_momentum case s) (m.axis a)) = λ a axis.
      total_momentum-moved s a axis ∙ ap (signed (m.reversed a)) (sym (at (m.axis a) (can.motion.known a axis))) in
      ap (λ (x : ℤ). x ∷ total_momentum moved (moved_state m case s) 1 ∷ total_momentum moved (moved_state m case s) 2 ∷ []) (each 0 (lit< tt))
      ∙ ap (λ (y : ℤ). signed (m.reversed 0) (part (all_momentum case s) (m.axis 0)) ∷ y ∷ total_momentum moved (moved_state m case s) 2 ∷ []) (each 1 (lit< tt))
      ∙ ap (λ (z : ℤ). signed (m.reversed 0) (part (all_momentum case s) (m.axis 0)) ∷ signed (m.reversed 1) (part (all_momentum case s) (m.axis 1)) ∷ z ∷ []) (each 2 (lit< tt))
