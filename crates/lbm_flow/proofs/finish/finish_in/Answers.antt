use Rattle.std.proofs.Common.{◌∙◌, Err, ap, sym, subst}
use Rattle.std.proofs.lemmas.Result.{err_from_is_err_and}
use Rattle.lbm_model.specs.Case.{FlowCase}
use Rattle.lbm_model.specs.Flow.{IsStateOf}
use Rattle.lbm_model.specs.Standing.{Standing}
use Rattle.lbm_answer.specs.Jobs.{CanBegin, beginning_view}
use Rattle.lbm_flow.specs.Running.{beginning_of}
use Rattle.lbm_flow.proofs.Finishing.{leaves-begun, reaches-begun}
use Rattle.lbm_flow.proofs.finish.finish_in.Goals as goal

pub last_state-requires-clause-unspent : goal.last_state-requires-clause-unspent
last_state-requires-clause-unspent g c κs within = ap (λ (now : Standing). now.spent) c.in_ok-lattice.ensures.stands

pub last_state-requires-clause-begin : goal.last_state-requires-clause-begin
last_state-requires-clause-begin g c κs within = subst (λ (now : Standing). CanBegin now.case c.args.course.steps (beginning_of now)) (sym c.in_ok-lattice.ensures.stands) c.requires.begin

pub conclude-requires-clause-state : goal.conclude-requires-clause-state
conclude-requires-clause-state g c κs within =
    subst (λ (case : FlowCase). IsStateOf case c.in_ok-last.last) (sym (c.into_case-case.ensures ∙ c.in_ok-last.ensures.case)) c.in_ok-last.ensures.reaches.1

pub returns : goal.returns
returns g c =
    let course = c.args.course in
    leaves-begun course.case course.steps (beginning_view course.begin) _ c.into_case-case.result _ c.in_ok-last.last c.in_ok-conclude.field-0
    c.in_ok-lattice.ensures.stands c.in_ok-last.ensures.reaches (c.into_case-case.ensures ∙ c.in_ok-last.ensures.case) c.from.ensures c.in_ok-conclude.ensures

pub returns-in_err-last : goal.returns-in_err-last
returns-in_err-last g c =
    let course = c.args.course in
    let p = err_from_is_err_and c.from_residual-in_err-last.result c.from_residual-in_err-last.ensures.1 in
    rw (p.1, p.2) (reaches-begun course.case course.steps (beginning_view course.begin) _ (Err c.in_err-last.field-0.0) c.in_ok-lattice.ensures.stands c.in_err-last.ensures.reaches)
