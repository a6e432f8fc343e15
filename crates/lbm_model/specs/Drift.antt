-- How far the momentum of a flow may drift.
use Rattle.std.specs.Prelude.{◌≡◌, ℕ, ◌-◌, ◌*◌, ◌<◌, ◌≤◌, IsFalse, ℤ, pos, ◌-ℤ◌, ◌*ℤ◌, unsigned_abs, None}
use Rattle.lbm_space.specs.Sum.{sum_below}
use Rattle.lbm_space.specs.Torus.{cells}
use Rattle.lbm_cell.specs.Moments.{momentum_part}
use Rattle.lbm_sets.specs.Drift.{impulse, forward_directions}
use Rattle.lbm_model.specs.State.{FlowState, population}
use Rattle.lbm_model.specs.Case.{FlowCase, IsCase, is_solid}
use Rattle.lbm_model.specs.Flow.{next, out_of_limits, run, reached}

-- a part of the sum of the momenta of all cells
abbrev pub total_momentum : FlowCase → FlowState → ℕ → ℤ
total_momentum case s a = sum_below (cells case.torus) (λ x. momentum_part case.stencil (population s x) a)

-- what a number of steps from s to end adds to it beyond the impulses of the force on the cells
abbrev pub flow_drift : FlowCase → FlowState → FlowState → ℕ → ℕ → ℤ
flow_drift case s end steps a = total_momentum case end a -ℤ total_momentum case s a -ℤ pos (steps * cells case.torus) *ℤ impulse case.stencil case.force a

-- no cell is solid
abbrev pub IsOpen : FlowCase → Type 0
IsOpen case = (x : ℕ) → x < cells case.torus → IsFalse (is_solid case x)

-- in a step it is on each axis at most one less, for each cell, than the number of directions that lead forward along it
abbrev pub DriftOfStep : Type 0
DriftOfStep = (case : FlowCase) (s : FlowState) (a : ℕ) → IsCase case → IsOpen case → out_of_limits case s ≡ None → a < case.stencil.dimension →
    unsigned_abs (flow_drift case s (next case s) 1 a) ≤ cells case.torus * (forward_directions case.stencil a - 1)

-- so in a run it is at most that once for each step
abbrev pub DriftOfRun : Type 0
DriftOfRun = (case : FlowCase) (s end : FlowState) (time steps a : ℕ) → IsCase case → IsOpen case → run case s time steps ≡ reached end → a < case.stencil.dimension →
    unsigned_abs (flow_drift case s end steps a) ≤ steps * cells case.torus * (forward_directions case.stencil a - 1)
