-- A passive tracer in a flow: its states, step by step. A state has an amount for each cell and direction of the tracer's set.
--     s, g    the state of the flow and that of the tracer
use Rattle.std.specs.Prelude.{ℕ, zero, suc, ◌+◌, ◌==◌, Bool, ◌||◌, ℤ, pos, if◌then◌else◌, Option, Some, None}
use Rattle.lbm_space.specs.Stencil.{Stencil, velocity}
use Rattle.lbm_space.specs.Torus.{Torus, cells, back}
use Rattle.lbm_cell.specs.Least.{least_failing}
use Rattle.lbm_cell.specs.Moments.{density, momentum}
use Rattle.lbm_cell.specs.Collision.{RelaxationRates, reflection}
use Rattle.lbm_model.specs.State.{FlowState, population, state_of}
use Rattle.lbm_model.specs.Case.{FlowCase, is_solid}
use Rattle.lbm_model.specs.Flow.{next, out_of_limits}
use Rattle.lbm_tracer.specs.Sets.{tracer_set}
use Rattle.lbm_tracer.specs.Collision.{tracer_collision, first_amount, in_tracer_limits}

-- the directions in which a tracer moves in a box
abbrev pub set_in : Torus → Stencil
set_in t = tracer_set t.dimension

-- the state in which amount k of cell x is f x k
abbrev pub tracer_state_by : Torus → (ℕ → ℕ → ℤ) → FlowState
tracer_state_by t f = state_of (set_in t).directions (cells t) f

-- what cell x, with the amounts g, sends in direction k: a wall turns them back, and in the fluid they collide
abbrev pub tracer_post : FlowCase → RelaxationRates → FlowState → ℕ → (ℕ → ℤ) → ℕ → ℤ
tracer_post case r s x g k =
    let f = population s x in
    if is_solid case x
    then reflection (set_in case.torus) g k
    else tracer_collision (set_in case.torus) r (density case.stencil f) (momentum case.stencil f) g k

-- the cell from which direction k leads to cell x
abbrev pub tracer_source : Torus → ℕ → ℕ → ℕ
tracer_source t x k = back t (velocity (set_in t) k) x

-- the next state: each cell pulls each amount from the cell behind it
abbrev pub tracer_next : FlowCase → RelaxationRates → FlowState → FlowState → FlowState
tracer_next case r s g =
    tracer_state_by case.torus (λ x k. let y = tracer_source case.torus x k in tracer_post case r s y (population g y) k)

-- the first state: one cell has all of the tracer
abbrev pub tracer_first : Torus → ℕ → ℕ → FlowState
tracer_first t amount cell = tracer_state_by t (λ x k. if x == cell then first_amount (set_in t) (pos amount) k else pos 0)

-- whether cell x, with the amounts g, is solid or in limits
abbrev pub is_tracer_sound : FlowCase → ℕ → (ℕ → ℤ) → Bool
is_tracer_sound case x g = is_solid case x || in_tracer_limits (set_in case.torus) g

-- the least cell out of limits
abbrev pub tracer_out_of_limits : FlowCase → FlowState → Option ℕ
tracer_out_of_limits case g = least_failing (cells case.torus) (λ x. is_tracer_sound case x (population g x))

-- how a run of a flow with its tracer ends: at two states, or with the flow or the tracer out of range at a time in a cell
pub data TracerRun : Type 0 where
  reached : FlowState → FlowState → TracerRun
  range : ℕ → ℕ → TracerRun
  tracer_range : ℕ → ℕ → TracerRun

-- how it goes on from a time: the flow is tested first
abbrev pub unless_out : (time : ℕ) → (flow tracer : Option ℕ) → TracerRun → TracerRun
unless_out time (Some x) tracer rest = range time x
unless_out time None (Some x) rest = tracer_range time x
unless_out time None None rest = rest

-- the run from two states at a time, over a number of steps: each time both are tested, and then the tracer steps by the state of
-- the flow before its step
abbrev pub tracer_run : FlowCase → RelaxationRates → FlowState → FlowState → ℕ → ℕ → TracerRun
tracer_run case r s g time zero = unless_out time (out_of_limits case s) (tracer_out_of_limits case g) (reached s g)
tracer_run case r s g time (suc steps) =
    unless_out time (out_of_limits case s) (tracer_out_of_limits case g) (tracer_run case r (next case s) (tracer_next case r s g) (time + 1) steps)
