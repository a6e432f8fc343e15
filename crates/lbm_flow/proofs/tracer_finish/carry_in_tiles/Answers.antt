use Rattle.std.proofs.Common.{◌∙◌, sym, subst}
use Rattle.std.proofs.lemmas.Result.{err_from_is_err_and}
use Rattle.lbm_model.specs.Case.{FlowCase}
use Rattle.lbm_model.specs.Flow.{IsStateOf}
use Rattle.lbm_tracer.specs.Carried.{carried}
use Rattle.lbm_words.specs.Request.{tracer_view}
use Rattle.lbm_flow.proofs.Carrying.{begins-first, begins-own, tracer-own, early-own, left-own}
use Rattle.lbm_flow.proofs.tracer_finish.carry_in_tiles.Goals as goal

pub last_states-requires-clause-flow : goal.last_states-requires-clause-flow
last_states-requires-clause-flow g c κs within =
    let outset = c.args.outset in
    begins-own (tracer_view c.args.request.now) outset.case _ (begins-first _ outset.case outset.first c.in_ok-lattice.ensures.stands c.requires.outset.first)

pub last_states-requires-clause-tracer : goal.last_states-requires-clause-tracer
last_states-requires-clause-tracer g c κs within =
    let outset = c.args.outset in
    tracer-own (tracer_view c.args.request.now) outset.case _ (begins-first _ outset.case outset.first c.in_ok-lattice.ensures.stands c.requires.outset.first)
    (carried c.args.tracer) c.requires.tracer

pub leave-requires-clause-state : goal.leave-requires-clause-state
leave-requires-clause-state g c κs within =
    subst (λ (case : FlowCase). IsStateOf case c.in_ok-last.last.state) (sym (c.into_case-case.ensures ∙ c.in_ok-last.ensures.case)) c.in_ok-last.ensures.reaches.state

pub returns : goal.returns
returns g c =
    let outset = c.args.outset in
    left-own (tracer_view c.args.request.now) outset.case _ (begins-first _ outset.case outset.first c.in_ok-lattice.ensures.stands c.requires.outset.first)
    c.into_case-case.result c.in_ok-last.last c.leave.result (c.into_case-case.ensures ∙ c.in_ok-last.ensures.case) c.in_ok-last.ensures.reaches c.leave.ensures

pub returns-in_err-last : goal.returns-in_err-last
returns-in_err-last g c =
    let outset = c.args.outset in
    let p = err_from_is_err_and c.from_residual-in_err-last.result c.from_residual-in_err-last.ensures.1 in
    rw (p.1, p.2)
    (early-own (tracer_view c.args.request.now) outset.case _ (begins-first _ outset.case outset.first c.in_ok-lattice.ensures.stands c.requires.outset.first)
    c.in_err-last.field-0.0 c.in_err-last.ensures.reaches)
