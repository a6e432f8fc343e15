use Rattle.std.specs.Prelude.{◌≡◌, ℕ, zero, suc, ◌+◌, ◌*◌, Bool, ◌||◌, length, ℤ, pos, ◌+ℤ◌, if◌then◌else◌, Option, Some, None}
use Rattle.lbm_space.specs.Torus.{cells}
use Rattle.lbm_cell.specs.Least.{least_failing}
use Rattle.lbm_cell.specs.Moments.{in_limits}
use Rattle.lbm_cell.specs.Collision.{collision, reflection, first_population}
use Rattle.lbm_model.specs.State.{FlowState, population, state_of}
use Rattle.lbm_model.specs.Case.{FlowCase, first_density, is_solid, source, gain}

-- the state of a case in which population i of cell x is f x i
abbrev pub state_by : FlowCase → (ℕ → ℕ → ℤ) → FlowState
state_by case f = state_of case.stencil.directions (cells case.torus) f

-- what cell x, with the populations f, sends in direction i: a wall turns them back and adds its gain, and a fluid collides
abbrev pub post : FlowCase → ℕ → (ℕ → ℤ) → ℕ → ℤ
post case x f i =
    if is_solid case x
    then reflection case.stencil f i +ℤ gain case x i
    else collision case.stencil case.rates case.force f i

-- the next state: each cell pulls each population from the cell behind it
abbrev pub next : FlowCase → FlowState → FlowState
next case s = state_by case (λ x i. post case (source case x i) (population s (source case x i)) i)

-- the first population i of a fluid cell x: the equilibrium at the first density and momentum, rounded down
abbrev pub fluid_first : FlowCase → ℕ → ℕ → ℤ
fluid_first case x i = first_population case.stencil (pos (first_density case x)) case.momentum i

-- the first population i of a wall x: what its neighbour in this direction would just have sent into it, where that is fluid
abbrev pub wall_first : FlowCase → ℕ → ℕ → ℤ
wall_first case x i = if is_solid case (source case x i) then pos 0 else fluid_first case (source case x i) i

abbrev pub first_in : FlowCase → ℕ → ℕ → ℤ
first_in case x i = if is_solid case x then wall_first case x i else fluid_first case x i

-- the first state
abbrev pub first : FlowCase → FlowState
first case = state_by case (first_in case)

-- whether cell x, with the populations f, is solid or in limits
abbrev pub is_sound : FlowCase → ℕ → (ℕ → ℤ) → Bool
is_sound case x f = is_solid case x || in_limits case.stencil f

-- the least cell out of limits
abbrev pub out_of_limits : FlowCase → FlowState → Option ℕ
out_of_limits case s = least_failing (cells case.torus) (λ x. is_sound case x (population s x))

-- how a run ends: at a state, or out of range at a time in a cell
pub data RunEnd : Type 0 where
  reached : FlowState → RunEnd
  range : ℕ → ℕ → RunEnd

-- the run from state s at a time, over a number of steps: it ends at the first state with a cell out of limits, and names the least one
abbrev pub run : FlowCase → FlowState → ℕ → ℕ → RunEnd
run case s time zero = elim (out_of_limits case s) [ Some x ↦ range time x | None ↦ reached s ]
run case s time (suc steps) = elim (out_of_limits case s) [ Some x ↦ range time x | None ↦ run case (next case s) (time + 1) steps ]

-- a state of the case: the populations of each of its cells
pub record IsStateOf (case : FlowCase) (s : FlowState) : Type 0 where
  pub directions : s.directions ≡ case.stencil.directions
  pub numbers : length s.numbers ≡ cells case.torus * s.directions
