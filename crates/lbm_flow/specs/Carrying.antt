-- How a pattern runs with a tracer in its flow.
use Rattle.std.specs.Prelude.{◌≡◌, ℕ, Result, Ok, Err}
use Rattle.lbm_space.specs.Stencil.{Stencil}
use Rattle.lbm_space.specs.Torus.{rows}
use Rattle.lbm_space.specs.Cuttings.{rows_of}
use Rattle.lbm_model.specs.Case.{FlowCase}
use Rattle.lbm_model.specs.State.{FlowState, mass}
use Rattle.lbm_model.specs.Flow.{IsStateOf, first}
use Rattle.lbm_model.specs.Small.{IsNarrow}
use Rattle.lbm_rows.specs.Tiles.{IsDivision}
use Rattle.lbm_tracer.specs.Tracing.{reached}
use Rattle.lbm_words.specs.Request.{Tracer}
use Rattle.lbm_answer.specs.declared.answer.End.{End}
use Rattle.lbm_answer.specs.declared.answer.End.TheVariants.{Memory}
use Rattle.lbm_answer.specs.declared.tracer.Traced.{Traced}
use Rattle.lbm_answer.specs.Reports.{printed_amounts}
use Rattle.lbm_answer.specs.Outcome.{traced_run}
use Rattle.lbm_answer.specs.Jobs.{LeavesOf}
use Rattle.lbm_answer.specs.Tracers.{FinishesTraced}
use Rattle.lbm_flow.specs.declared.tracer_finish.Outset.{Outset}
use Rattle.lbm_flow.specs.declared.tracer_finish.LastStates.{LastStates}

-- a case of a velocity set at its first state, with a cutting and a division of its rows
pub record IsOutset (v : Stencil) (outset : Outset) : Type 0 where
  pub set : outset.case.stencil ≡ v
  pub first : outset.first ≡ first outset.case
  pub state : IsStateOf outset.case outset.first
  pub narrow : IsNarrow outset.first
  pub cutting : rows_of outset.cut ≡ rows outset.case.torus
  pub division : IsDivision (rows outset.case.torus) outset.division.per_tile outset.division.workers

-- the last states of a flow and its tracer, as far as they are told
pub record AreReached (r : Tracer) (case : FlowCase) (last : LastStates) : Type 0 where
  pub state : IsStateOf case last.state
  pub tracer : FlowState
  pub ends : traced_run r case ≡ reached last.state tracer
  pub amounts : last.amounts.items ≡ printed_amounts case tracer
  pub total : last.total ≡ mass tracer

-- such states, or why there are none
abbrev pub ReachesBoth : Tracer → FlowCase → Result LastStates End → Type 0
ReachesBoth r case (Ok last) = AreReached r case last
ReachesBoth r case (Err end) = FinishesTraced r case (Err end)

-- what they leave, or want of memory
pub record LeavesBoth (case : FlowCase) (step : ℕ) (last : LastStates) (left : Traced) : Type 0 where
  pub flow : LeavesOf case step last.state left.flow
  pub amounts : left.amounts.items ≡ last.amounts.items
  pub total : left.total ≡ last.total

abbrev pub IsLeftOf : FlowCase → ℕ → LastStates → Result Traced End → Type 0
IsLeftOf case step last (Ok left) = LeavesBoth case step last left
IsLeftOf case step last (Err end) = end ≡ Memory
