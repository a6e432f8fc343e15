-- How a pattern runs.
use Rattle.std.specs.Prelude.{◌≡◌, ℕ, zero, suc, ◌+◌, ◌-◌, ◌<◌, Bool, IsTrue, Some, None, Result, Ok, Err}
use Rattle.lbm_model.specs.Case.{FlowCase}
use Rattle.lbm_model.specs.State.{FlowState}
use Rattle.lbm_model.specs.Flow.{IsStateOf, next, out_of_limits, run, reached, range}
use Rattle.lbm_model.specs.Standing.{Standing}
use Rattle.lbm_model.specs.declared.pattern.StepEnd.{StepEnd}
use Rattle.lbm_model.specs.declared.pattern.StepEnd.TheVariants as step_ends
use Rattle.lbm_answer.specs.declared.answer.End.{End}
use Rattle.lbm_answer.specs.Outcome.{Beginning, run_from}
use Rattle.lbm_answer.specs.Jobs.{Finishes}
use Rattle.lbm_flow.specs.declared.run.RunEnd.{RunEnd}
use Rattle.lbm_flow.specs.declared.run.RunEnd.TheVariants.{Range, Memory}

-- how a step that was not made ends a run at its time
abbrev pub ended : ℕ → StepEnd → RunEnd
ended step (step_ends.Range cell) = Range step cell
ended step step_ends.Memory = Memory

-- what n steps make of a state
abbrev pub after : FlowCase → FlowState → ℕ → FlowState
after case s zero = s
after case s (suc n) = next case (after case s n)

-- the pattern has made n steps, each from a state in limits
pub record Went (old : Standing) (n : ℕ) (new : Standing) : Type 0 where
  pub case : new.case ≡ old.case
  pub time : new.time ≡ old.time + n
  pub unspent : new.spent ≡ None
  pub state : new.state ≡ after old.case old.state n
  pub sound : (k : ℕ) → k < n → out_of_limits old.case (after old.case old.state k) ≡ None

-- the pattern is spent by this cell at this step
pub record IsSpentAt (old : Standing) (step cell : ℕ) (new : Standing) : Type 0 where
  pub case : new.case ≡ old.case
  pub time : new.time ≡ step
  pub spent : new.spent ≡ Some cell

-- what a run up to a step answers, and what the pattern stands for then; memory may be wanted only where that is said of the pattern
abbrev pub RunGives : Bool → Standing → Standing → ℕ → Result (Unit {0}) RunEnd → Type 0
RunGives wants old new steps (Ok done) =
    (run old.case old.state old.time (steps - old.time) ≡ reached new.state) × Went old (steps - old.time) new
RunGives wants old new steps (Err (Range step cell)) =
    (run old.case old.state old.time (steps - old.time) ≡ range step cell)
    × (step < steps → IsSpentAt old step cell new)
    × (step ≡ steps → Went old (steps - old.time) new)
RunGives wants old new steps (Err Memory) = IsTrue wants × (n : ℕ) × Went old n new

-- where a run begins that a pattern goes on with
abbrev pub beginning_of : Standing → Beginning
beginning_of now = record { state = now.state; time = now.time }

-- the state of the case that a run reaches from there, or why it has no end
abbrev pub Reaches : FlowCase → ℕ → Beginning → Result FlowState End → Type 0
Reaches case steps begin (Ok state) = (run_from case steps begin ≡ reached state) × IsStateOf case state
Reaches case steps begin (Err end) = Finishes case steps begin (Err end)
