use Rattle.std.proofs.Common.{◌∙◌, Ok, Err, FitsSigned, ap, subst, rules}
use Rattle.std.specs.Int.{w64}
use Rattle.std.proofs.lemmas.Int.{to_z-of_z}
use Rattle.std.proofs.lemmas.Result.{err_from_is_err_and}
use Rattle.lbm_model.specs.Case.{FlowCase}
use Rattle.lbm_tracer.specs.Carried.{carried}
use Rattle.lbm_tracer.specs.Running.{TracerGives}
use Rattle.lbm_words.specs.Request.{tracer_view}
use Rattle.lbm_answer.specs.Reports.{printed_amounts}
use Rattle.lbm_answer.proofs.TracerEnds.{traced-early}
use Rattle.lbm_flow.proofs.Carrying.{are-reached}
use Rattle.lbm_flow.proofs.tracer_finish.last_states.Goals as goal

pub returns-clause-reaches : goal.returns-clause-reaches
returns-clause-reaches g c =
    let r = tracer_view c.args.request.now in
    let flow = g.P.Lattice.standing c.args.lattice.now in
    let flow_new = g.P.Lattice.standing c.run_tracer.new.pattern in
    let old = carried c.args.tracer in
    let new = carried c.run_tracer.new.tracer in
    let wants = g.P.Lattice.WANTS_MEMORY in
    let gives : TracerGives wants flow flow_new old new r.steps (Ok tt) = subst (λ n. TracerGives wants flow flow_new old new n (Ok tt)) c.from.ensures c.in_ok-run_tracer.ensures in
    let case = c.case.ensures.value ∙ gives.1.case in
    let fits : FitsSigned w64 c.total.result = search rules in
    are-reached r flow.case flow flow_new old new wants c.requires.flow c.requires.tracer gives _ c.in_ok-state_of.ensures
    (c.in_ok-amounts_of.ensures ∙ ap (λ (case : FlowCase). printed_amounts case new.state) case) (to_z-of_z w64 c.total.result fits ∙ c.total.ensures)

pub returns-in_err-run_tracer-clause-reaches : goal.returns-in_err-run_tracer-clause-reaches
returns-in_err-run_tracer-clause-reaches g c =
    let r = tracer_view c.args.request.now in
    let flow = g.P.Lattice.standing c.args.lattice.now in
    let flow_new = g.P.Lattice.standing c.run_tracer.new.pattern in
    let old = carried c.args.tracer in
    let new = carried c.run_tracer.new.tracer in
    let wants = g.P.Lattice.WANTS_MEMORY in
    let end = c.in_err-run_tracer.field-0.0 in
    let gives : TracerGives wants flow flow_new old new r.steps (Err end) = subst (λ n. TracerGives wants flow flow_new old new n (Err end)) c.from.ensures c.in_err-run_tracer.ensures in
    let p = err_from_is_err_and c.from_residual.result c.from_residual.ensures.1 in
    rw (p.1, p.2) (traced-early r flow.case flow flow_new old new wants c.requires.flow c.requires.tracer end gives)
