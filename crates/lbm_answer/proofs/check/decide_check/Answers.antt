use Rattle.std.proofs.lemmas.Result.{err_from_is_err_and}
use Rattle.lbm_words.specs.Request.{check, check_view}
use Rattle.lbm_answer.specs.declared.report.Report.TheVariants.{Check}
use Rattle.lbm_answer.specs.Answer.{asked_of}
use Rattle.lbm_answer.specs.Files.{read_view}
use Rattle.lbm_answer.proofs.Deciding.{for-memory}
use Rattle.lbm_answer.proofs.Requests.{for-checked, for-unread_check}
use Rattle.lbm_answer.proofs.check.decide_check.Goals as goal

pub returns-in_err-case : goal.returns-in_err-case
returns-in_err-case g c =
    let p = err_from_is_err_and c.from_residual.result c.from_residual.ensures.1 in
    rw (p.1, p.2)
    (for-unread_check read_view (g.T.Store.state c.args.store.now) (g.T.Store.state c.read_case_file.new.store)
    c.read_case_file.ensures.files c.read_case_file.ensures.write_faults (check_view c.args.request) _ c.in_err-case.ensures.read)

pub returns-in_err-report_of : goal.returns-in_err-report_of
returns-in_err-report_of g c =
    let p = err_from_is_err_and c.from_residual-in_err-report_of.result c.from_residual-in_err-report_of.ensures.1 in
    rw (p.1, p.2)
    (for-memory (asked_of (check (check_view c.args.request))) (g.T.Store.state c.args.store.now) (g.T.Store.state c.read_case_file.new.store) c.read_case_file.ensures.files)

pub returns : goal.returns
returns g c =
    for-checked (check_view c.args.request) _ c.in_ok-case.case (g.T.Store.state c.args.store.now) (g.T.Store.state c.read_case_file.new.store)
    c.in_ok-case.ensures.read.1 c.in_ok-case.ensures.read.0 (Check c.in_ok-report_of.field-0) c.in_ok-report_of.ensures
