-- How far the momentum of a flow may drift.
use Rattle.std.proofs.Common.{◌≡◌, ℕ, zero, suc, ◌+◌, ◌-◌, ◌*◌, ◌≤◌, ℤ, pos, ◌+ℤ◌, ◌-ℤ◌, ◌*ℤ◌, true, false, unsigned_abs, ap, ◌∙◌, arith}
use Rattle.std.specs.Prelude.{None}
use Rattle.std.proofs.lemmas.Int.{ints}
use Rattle.lbm_space.specs.Sum.{sum_below}
use Rattle.lbm_space.specs.Stencil.{part, velocity}
use Rattle.lbm_space.specs.Torus.{cells}
use Rattle.lbm_space.proofs.Sums.{sum_below-same, sum_below-swap}
use Rattle.lbm_space.proofs.Back.{HasCells-from_space}
use Rattle.lbm_cell.specs.Moments.{in_limits, momentum_part}
use Rattle.lbm_cell.specs.Collision.{collision}
use Rattle.lbm_cell.proofs.Bounds.{sum_below_size}
use Rattle.lbm_sets.specs.Drift.{impulse, forward_directions, collision_drift}
use Rattle.lbm_sets.proofs.Momentum.{sum_below-subtract, momentum-same}
use Rattle.lbm_sets.proofs.Drift.{drift-collision}
use Rattle.lbm_model.specs.State.{FlowState, population}
use Rattle.lbm_model.specs.Case.{FlowCase, IsCase, is_solid, source}
use Rattle.lbm_model.specs.Flow.{post, next, is_sound, out_of_limits, run, reached}
use Rattle.lbm_model.specs.Drift.{total_momentum, flow_drift, IsOpen, DriftOfStep, DriftOfRun}
use Rattle.lbm_cell.proofs.Least.{least_failing-none}
use Rattle.lbm_model.proofs.Mass.{population-state_of, arrivals, goes_on}
use Rattle.lbm_model.proofs.SmallStates.{post-fluid, on_the_way}

-- the momentum of the next state is that of what all cells send
total_momentum-next : (case : FlowCase) (s : FlowState) (a : ℕ) → IsCase case →
    total_momentum case (next case s) a ≡ sum_below (cells case.torus) (λ x. momentum_part case.stencil (post case x (population s x)) a)
total_momentum-next case s a allowed =
    let some = HasCells-from_space case.torus allowed.space in
    let n = cells case.torus in
    let q = case.stencil.directions in
    let pulled : ℕ → ℕ → ℤ = λ x i. post case (source case x i) (population s (source case x i)) i in
    let carried : ℕ → ℕ → ℤ = λ x i. part (velocity case.stencil i) a *ℤ post case x (population s x) i in
    let by_source : total_momentum case (next case s) a ≡ sum_below n (λ x. sum_below q (λ i. carried (source case x i) i)) =
    sum_below-same n (λ x. momentum_part case.stencil (population (next case s) x) a) (λ x. sum_below q (λ i. carried (source case x i) i))
    (λ x known_x. momentum-same case.stencil a (population (next case s) x) (pulled x) (λ i known. population-state_of q n pulled x i known_x known)) in
    let arrived : sum_below q (λ i. sum_below n (λ x. carried (source case x i) i)) ≡ sum_below q (λ i. sum_below n (λ x. carried x i)) =
    sum_below-same q (λ i. sum_below n (λ x. carried (source case x i) i)) (λ i. sum_below n (λ x. carried x i)) (λ i known. arrivals case (λ x. carried x i) i allowed.set some known) in
    by_source ∙ sum_below-swap n q (λ x i. carried (source case x i) i) ∙ arrived ∙ sum_below-swap q n (λ i x. carried x i)

sum_below-constant : (n : ℕ) (z : ℤ) → sum_below n (λ _. z) ≡ pos n *ℤ z
sum_below-constant zero z = omega (arith, ints)
sum_below-constant (suc n) z = omega (arith, ints, sum_below-constant n z)

-- the drift of a step is that of all its collisions
drift-collisions : (case : FlowCase) (s : FlowState) (a : ℕ) → IsCase case → IsOpen case →
    flow_drift case s (next case s) 1 a ≡ sum_below (cells case.torus) (λ x. collision_drift case.stencil case.rates case.force (population s x) a)
drift-collisions case s a allowed open_case =
    let n = cells case.torus in
    let v = case.stencil in
    let impulse_of_cell : ℤ = impulse v case.force a in
    let held : ℕ → ℤ = λ x. momentum_part v (population s x) a in
    let sent : ℕ → ℤ = λ x. momentum_part v (collision v case.rates case.force (population s x)) a in
    let after : total_momentum case (next case s) a ≡ sum_below n sent =
    total_momentum-next case s a allowed
    ∙ sum_below-same n (λ x. momentum_part v (post case x (population s x)) a) sent
    (λ x known. momentum-same v a (post case x (population s x)) (collision v case.rates case.force (population s x)) (λ i _. post-fluid case x (population s x) i (open_case x known))) in
    let outer = sum_below-subtract n (λ x. sent x -ℤ held x) (λ _. impulse_of_cell) in
    let inner = sum_below-subtract n sent held in
    let constant = sum_below-constant n impulse_of_cell in
    let once : 1 * n ≡ n = omega arith in
    let one_step : pos (1 * n) *ℤ impulse_of_cell ≡ pos n *ℤ impulse_of_cell = ap (λ (k : ℕ). pos k *ℤ impulse_of_cell) once in
    omega (arith, ints, after, outer, inner, constant, one_step)

pub drift-step : DriftOfStep
drift-step case s a allowed open_case sound known =
    let n = cells case.torus in
    let v = case.stencil in
    let forward : ℕ = forward_directions v a in
    rw (drift-collisions case s a allowed open_case)
    (sum_below_size n (forward - 1) (λ x. collision_drift v case.rates case.force (population s x) a) (λ x inside.
    let checked : is_sound case x (population s x) ≡ true = least_failing-none n (λ x. is_sound case x (population s x)) sound x inside in
    let fluid : is_solid case x ≡ false = open_case x inside in
    let within : in_limits v (population s x) ≡ true = rw fluid at checked in
    omega (arith, drift-collision v case.rates case.force (population s x) a allowed.set allowed.rates within known)))

-- no step drifts by nothing, and the drifts of steps add up
none : (m impulse : ℤ) (n : ℕ) → unsigned_abs (m -ℤ m -ℤ pos (0 * n) *ℤ impulse) ≤ 0
none m impulse n = let no_cell : 0 * n ≡ 0 = omega arith in rw no_cell (omega (arith, ints))

one_more : (first second last impulse : ℤ) (steps n k : ℕ) → unsigned_abs (second -ℤ first -ℤ pos (1 * n) *ℤ impulse) ≤ n * k → unsigned_abs (last -ℤ second -ℤ pos (steps * n) *ℤ impulse) ≤ steps * n * k →
    unsigned_abs (last -ℤ first -ℤ pos (suc steps * n) *ℤ impulse) ≤ suc steps * n * k
one_more first second last impulse steps n k now later =
    let sum : pos (suc steps * n) *ℤ impulse ≡ pos (1 * n) *ℤ impulse +ℤ pos (steps * n) *ℤ impulse = omega (arith, ints) in
    omega (arith, ints, sum, now, later)

pub drift-run : DriftOfRun
drift-run case s end time zero a allowed open_case e known =
    let same : s ≡ end = (let h : reached s ≡ reached end = goes_on (out_of_limits case s) time (reached s) end e in cc) in
    let least = none (total_momentum case s a) (impulse case.stencil case.force a) (cells case.torus) in
    rw (← same) (omega (arith, least))
drift-run case s end time (suc steps) a allowed open_case e known =
    let limits : out_of_limits case s ≡ None = on_the_way (out_of_limits case s) time (run case (next case s) (time + 1) steps) end e in
    let h : run case (next case s) (time + 1) steps ≡ reached end = goes_on (out_of_limits case s) time (run case (next case s) (time + 1) steps) end e in
    one_more (total_momentum case s a) (total_momentum case (next case s) a) (total_momentum case end a) (impulse case.stencil case.force a) steps (cells case.torus) (forward_directions case.stencil a - 1)
    (drift-step case s a allowed open_case limits known) (drift-run case (next case s) end (time + 1) steps a allowed open_case h known)
