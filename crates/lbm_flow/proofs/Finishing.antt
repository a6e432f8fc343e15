-- What a run of a pattern leaves, by where it begins.
use Rattle.std.proofs.Common.{◌≡◌, ◌∙◌, ℕ, zero, suc, ◌-◌, Bool, None, Result, Ok, Err, ap, sym, subst}
use Rattle.lbm_model.specs.Case.{FlowCase}
use Rattle.lbm_model.specs.State.{FlowState}
use Rattle.lbm_model.specs.Flow.{IsStateOf, reached}
use Rattle.lbm_model.specs.Standing.{Standing}
use Rattle.lbm_model.proofs.Mass.{IsStateOf-next}
use Rattle.lbm_answer.specs.declared.answer.End.{End}
use Rattle.lbm_answer.specs.declared.left.Left.{Left}
use Rattle.lbm_answer.specs.Reports.{printed_moments, run_report}
use Rattle.lbm_answer.specs.Outcome.{Beginning}
use Rattle.lbm_answer.specs.Jobs.{CanBegin, Finishes, Leaves, LeavesOf}
use Rattle.lbm_flow.specs.declared.run.RunEnd.{RunEnd}
use Rattle.lbm_flow.specs.declared.run.RunEnd.TheVariants.{Range, Memory}
use Rattle.lbm_flow.specs.Causes.{run_end}
use Rattle.lbm_flow.specs.Running.{RunGives, Reaches, after, beginning_of}

-- steps keep to the states of the case
is_state-after : (case : FlowCase) (s : FlowState) (n : ℕ) → IsStateOf case s → IsStateOf case (after case s n)
is_state-after case s zero state = state
is_state-after case s (suc n) state = IsStateOf-next case (after case s n)

-- a pattern that has stepped to the last step stands for what the run reaches
pub reaches-stepped : (steps : ℕ) (old new : Standing) (wants : Bool) → CanBegin old.case steps (beginning_of old) → RunGives wants old new steps (Ok tt)
    → Reaches old.case steps (beginning_of old) (Ok new.state)
reaches-stepped steps old new wants can gives =
    (gives.0, subst (IsStateOf old.case) (sym gives.1.state) (is_state-after old.case old.state (steps - old.time) can.state))

-- a pattern that stands for where a run begins
abbrev pub at_beginning : FlowCase → Beginning → Standing
at_beginning case begin = record { case = case; time = begin.time; spent = None; state = begin.state }

-- such a pattern reaches what the run reaches
pub reaches-begun : (case : FlowCase) (steps : ℕ) (begin : Beginning) (now : Standing) (end : Result FlowState End) → now ≡ at_beginning case begin
    → Reaches now.case steps (beginning_of now) end → Reaches case steps begin end
reaches-begun case steps begin now end begins = subst (λ (now : Standing). Reaches now.case steps (beginning_of now) end) begins

-- what the last state of such a pattern leaves is what the run leaves
pub leaves-begun : (case : FlowCase) (steps : ℕ) (begin : Beginning) (now : Standing) (same : FlowCase) (step : ℕ) (s : FlowState) (left : Left) → now ≡ at_beginning case begin
    → Reaches now.case steps (beginning_of now) (Ok s) → same ≡ now.case → step ≡ steps → LeavesOf same step s left → Leaves case steps begin left
leaves-begun case steps begin now same step s left begins reaches same_is step_is leaves =
    let reached_is : Reaches case steps begin (Ok s) = reaches-begun case steps begin now (Ok s) begins reaches in
    let case_is : same ≡ case = same_is ∙ ap (λ (now : Standing). now.case) begins in
    record {
      ends = reached_is.0 ∙ ap (λ s. reached s) (sym leaves.state);
      state = subst (IsStateOf case) (sym leaves.state) reached_is.1;
      space = leaves.space ∙ ap (λ (c : FlowCase). c.torus) case_is;
      moments = leaves.moments ∙ ap (λ c. printed_moments c s) case_is ∙ ap (printed_moments case) (sym leaves.state);
      report = leaves.report ∙ ap (λ c. run_report c step s) case_is ∙ ap (λ n. run_report case n s) step_is ∙ ap (run_report case steps) (sym leaves.state);
    }

-- a run that has ended early
pub finishes-early : (steps : ℕ) (old new : Standing) (wants : Bool) (end : RunEnd) → RunGives wants old new steps (Err end)
    → Finishes old.case steps (beginning_of old) (Err (run_end end))
finishes-early steps old new wants (Range step cell) gives = gives.0
finishes-early steps old new wants Memory gives = tt
