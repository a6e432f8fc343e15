-- How large populations become.
use Rattle.std.specs.Prelude.{◌≡◌, ℕ, ◌+◌, ◌<◌, ◌≤◌, unsigned_abs, All, if◌then◌else◌, None}
use Rattle.lbm_space.specs.Torus.{cells}
use Rattle.lbm_cell.specs.Limits.{greatest_population}
use Rattle.lbm_model.specs.Limits.{gain_bound}
use Rattle.lbm_model.specs.State.{FlowState, population}
use Rattle.lbm_model.specs.Case.{FlowCase, IsCase, is_solid}
use Rattle.lbm_model.specs.Flow.{IsStateOf, first, next, out_of_limits, run, reached}

-- a state in which no population is larger than one of a first state may be
abbrev pub IsNarrow : FlowState → Type 0
IsNarrow s = All (λ z. unsigned_abs z ≤ greatest_population) s.numbers

-- the greatest size of a population of cell x on the way: that of a first state, and where the cell is fluid what a moving wall may add
abbrev pub size_limit : FlowCase → ℕ → ℕ
size_limit case x = if is_solid case x then greatest_population else greatest_population + gain_bound

-- a state in which each population is within the limit of its cell, and so fits 32 signed bits
pub record IsSmall (case : FlowCase) (s : FlowState) : Type 0 where
  pub within : (x i : ℕ) → x < cells case.torus → i < case.stencil.directions → unsigned_abs (population s x i) ≤ size_limit case x

-- the first state is narrow
abbrev pub FirstIsNarrow : Type 0
FirstIsNarrow = (case : FlowCase) → IsCase case → IsNarrow (first case)

-- a narrow state is small
abbrev pub NarrowIsSmall : Type 0
NarrowIsSmall = (case : FlowCase) (s : FlowState) → IsCase case → IsStateOf case s → IsNarrow s → IsSmall case s

-- the next state of a small state in limits is small
abbrev pub NextIsSmall : Type 0
NextIsSmall = (case : FlowCase) (s : FlowState) → IsCase case → IsSmall case s → out_of_limits case s ≡ None → IsSmall case (next case s)

-- the state that a run from a narrow state reaches is narrow
abbrev pub ReachedIsNarrow : Type 0
ReachedIsNarrow = (case : FlowCase) (s end : FlowState) (time steps : ℕ) → IsCase case → IsStateOf case s → IsNarrow s → run case s time steps ≡ reached end → IsNarrow end
