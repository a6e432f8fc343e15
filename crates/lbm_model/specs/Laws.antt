-- Laws of every flow.
use Rattle.std.specs.Prelude.{◌≡◌, ℕ, List, [], ℤ, pos, ◌+ℤ◌, ◌*ℤ◌}
use Rattle.lbm_space.specs.Stencil.{Stencil, IsVelocitySet}
use Rattle.lbm_space.specs.Torus.{IsSpace}
use Rattle.lbm_cell.specs.Moments.{density}
use Rattle.lbm_cell.specs.Collision.{RelaxationRates, collision, reflection}
use Rattle.lbm_model.specs.State.{FlowState, mass}
use Rattle.lbm_model.specs.Case.{FlowCase, all_gain}
use Rattle.lbm_model.specs.Flow.{IsStateOf, next, run, reached}

-- what the laws of mass ask: a velocity set, a box of cells, and the populations of each cell
pub record IsFlow (case : FlowCase) (s : FlowState) : Type 0 where
  pub set : IsVelocitySet case.stencil
  pub space : IsSpace case.torus
  pub state : IsStateOf case s

-- a step adds the gain of the walls to the mass, and nothing else
abbrev pub MassOfStep : Type 0
MassOfStep = (case : FlowCase) (s : FlowState) → IsFlow case s → mass (next case s) ≡ mass s +ℤ all_gain case

-- so a run adds the gain once for each step
abbrev pub MassOfRun : Type 0
MassOfRun = (case : FlowCase) (s end : FlowState) (time steps : ℕ) → IsFlow case s → run case s time steps ≡ reached end → mass end ≡ mass s +ℤ (pos steps *ℤ all_gain case)

-- and a case without moving cells has no gain
abbrev pub NoGainAtRest : Type 0
NoGainAtRest = (case : FlowCase) → case.moving ≡ [] → all_gain case ≡ pos 0

-- a collision keeps the density of its cell, whatever the rates and the force
abbrev pub DensityOfCollision : Type 0
DensityOfCollision = (v : Stencil) (r : RelaxationRates) (g : List ℤ) (f : ℕ → ℤ) → IsVelocitySet v → density v (collision v r g f) ≡ density v f

-- and so does full-way bounce-back
abbrev pub DensityOfReflection : Type 0
DensityOfReflection = (v : Stencil) (f : ℕ → ℤ) → IsVelocitySet v → density v (reflection v f) ≡ density v f
