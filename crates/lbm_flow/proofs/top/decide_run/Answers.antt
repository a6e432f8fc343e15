use Rattle.std.proofs.Common.{subst}
use Rattle.std.proofs.lemmas.Result.{err_from_is_err_and}
use Rattle.lbm_store.specs.Outside.{StoreState}
use Rattle.lbm_words.specs.Request.{run_view}
use Rattle.lbm_answer.specs.Outcome.{run_job}
use Rattle.lbm_answer.specs.Files.{read_view}
use Rattle.lbm_answer.specs.Answer.{DecidesFor, asked_of_job}
use Rattle.lbm_answer.proofs.Requests.{for-run, for-unread_run}
use Rattle.lbm_flow.proofs.top.decide_run.Goals as goal

pub returns-in_err-bytes : goal.returns-in_err-bytes
returns-in_err-bytes g c =
    let p = err_from_is_err_and c.from_residual.result c.from_residual.ensures.1 in
    rw (p.1, p.2)
    (for-unread_run read_view (g.T.Store.state c.args.store.now) (g.T.Store.state c.read_case_file.new.store)
    c.read_case_file.ensures.files c.read_case_file.ensures.write_faults (run_view c.args.request) _ c.in_err-bytes.ensures.read)

pub returns : goal.returns
returns g c =
    let before : StoreState = g.T.Store.state c.args.store.now in
    let between : StoreState = g.T.Store.state c.read_case_file.new.store in
    let after : StoreState = g.T.Store.state c.do_job.new.store in
    let r = run_view c.args.request in
    let case = c.in_ok-bytes.case in
    let bytes = c.in_ok-bytes.bytes.items in
    let done : DecidesFor (asked_of_job (run_job r case c.deref.result.now)) between after c.do_job.result = c.do_job.ensures in
    let job : DecidesFor (asked_of_job (run_job r case bytes)) between after c.do_job.result =
    subst (λ b. DecidesFor (asked_of_job (run_job r case b)) between after c.do_job.result) c.deref.ensures.value done in
    for-run r bytes case before after c.in_ok-bytes.ensures.read.1 c.do_job.result
    (subst (λ s. DecidesFor (asked_of_job (run_job r case bytes)) s after c.do_job.result) c.in_ok-bytes.ensures.read.0 job)
