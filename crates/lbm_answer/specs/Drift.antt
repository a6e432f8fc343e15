-- How far the momentum that is told may be from that of the first state and the impulses of the force.
use Rattle.std.specs.Prelude.{ℕ, ◌-◌, ◌*◌, ◌<◌, ◌≤◌, ℤ, pos, ◌-ℤ◌, ◌*ℤ◌, unsigned_abs}
use Rattle.lbm_space.specs.Torus.{cells}
use Rattle.lbm_sets.specs.Drift.{impulse, forward_directions}
use Rattle.lbm_model.specs.State.{FlowState}
use Rattle.lbm_model.specs.Case.{FlowCase}
use Rattle.lbm_model.specs.Drift.{total_momentum, IsOpen}

-- Where no cell is solid, the sum of all momenta is on each axis that of the state s and so many impulses for each cell, but for
-- at most one less, for each step and cell, than the number of directions that lead forward along the axis.
abbrev pub IsWithinDrift : FlowCase → FlowState → (steps : ℕ) → (told : ℕ → ℤ) → Type 0
IsWithinDrift case s steps told = IsOpen case → (a : ℕ) → a < case.stencil.dimension →
    unsigned_abs (told a -ℤ total_momentum case s a -ℤ pos (steps * cells case.torus) *ℤ impulse case.stencil case.force a)
    ≤ steps * cells case.torus * (forward_directions case.stencil a - 1)
