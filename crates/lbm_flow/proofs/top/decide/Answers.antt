use Rattle.std.proofs.lemmas.Result.{err_from_is_err_and}
use Rattle.lbm_words.specs.Request.{request_view}
use Rattle.lbm_answer.proofs.Requests.{for-words}
use Rattle.lbm_flow.proofs.top.decide.Goals as goal

pub returns-in_err-run : goal.returns-in_err-run
returns-in_err-run g c =
    let p = err_from_is_err_and c.from_residual.result c.from_residual.ensures.1 in
    rw (p.1, p.2) (for-words request_view _ (g.T.Store.state c.args.store.now) _ c.in_err-run.ensures.request)
