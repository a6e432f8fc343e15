use Rattle.std.proofs.Common.{subst}
use Rattle.std.proofs.lemmas.Result.{err_from_is_err_and}
use Rattle.lbm_words.specs.Request.{tracer_view}
use Rattle.lbm_answer.specs.Files.{read_view}
use Rattle.lbm_answer.specs.Answer.{DecidesFor, asked_of_tracer}
use Rattle.lbm_answer.proofs.Requests.{for-tracer, for-unread_tracer}
use Rattle.lbm_flow.proofs.top.decide_tracer.Goals as goal

pub returns-in_err-case : goal.returns-in_err-case
returns-in_err-case g c =
    let p = err_from_is_err_and c.from_residual.result c.from_residual.ensures.1 in
    rw (p.1, p.2)
    (for-unread_tracer read_view (g.T.Store.state c.args.store.now) (g.T.Store.state c.read_case_file.new.store)
    c.read_case_file.ensures.files c.read_case_file.ensures.write_faults (tracer_view c.args.request.now) _ c.in_err-case.ensures.read)

pub returns : goal.returns
returns g c =
    let r = tracer_view c.args.request.now in
    let case = c.in_ok-case.case in
    let before = g.T.Store.state c.args.store.now in
    let after = g.T.Store.state c.do_tracer_job.new.store in
    for-tracer r c.in_ok-case.field-0-0.items case before after c.in_ok-case.ensures.read.1 c.do_tracer_job.result
    (subst (λ s. DecidesFor (asked_of_tracer r case) s after c.do_tracer_job.result) c.in_ok-case.ensures.read.0 c.do_tracer_job.ensures)
