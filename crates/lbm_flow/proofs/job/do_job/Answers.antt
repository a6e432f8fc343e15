use Rattle.std.proofs.Common.{◌≡◌, ◌∙◌, Err, Ok, ap, sym, subst}
use Rattle.std.proofs.lemmas.Result.{err_from_is_err_and}
use Rattle.lbm_store.specs.Outside.{StoreState}
use Rattle.lbm_answer.specs.Answer.{DecidesFor, asked_of_job}
use Rattle.lbm_answer.specs.Jobs.{Cuts, SavesAll, beginning_view, job_view, left_files}
use Rattle.lbm_answer.proofs.Deciding.{admitted-cuts, for-uncut, for-unbegun, for-unfinished, for-unsaved, for-saved}
use Rattle.lbm_answer.proofs.PrintedFits.{left_is}
use Rattle.lbm_flow.proofs.job.do_job.Goals as goal

pub returns-in_err-cut : goal.returns-in_err-cut
returns-in_err-cut g c =
    let p = err_from_is_err_and c.from_residual.result c.from_residual.ensures.1 in
    let case = c.args.case in
    let job = job_view case c.args.job.now in
    let cuts : Cuts case.torus job.cut (Err c.in_err-cut.field-0.0) = subst (λ t. Cuts t job.cut (Err c.in_err-cut.field-0.0)) c.space.ensures.value c.in_err-cut.ensures in
    rw (p.1, p.2) (for-uncut job (g.T.Store.state c.args.store.now) _ cuts)

pub returns-in_err-begin : goal.returns-in_err-begin
returns-in_err-begin g c =
    let p = err_from_is_err_and c.from_residual-in_err-begin.result c.from_residual-in_err-begin.ensures.1 in
    let case = c.args.case in
    let job = job_view case c.args.job.now in
    let cuts : Cuts case.torus job.cut (Ok c.in_ok-cut.cut) = subst (λ t. Cuts t job.cut (Ok c.in_ok-cut.cut)) c.space.ensures.value c.in_ok-cut.ensures in
    rw (p.1, p.2)
    (for-unbegun job (admitted-cuts job cuts.1) (g.T.Store.state c.args.store.now) (g.T.Store.state c.begin.new.store)
    c.begin.ensures.files c.begin.ensures.write_faults _ c.in_err-begin.ensures.begun)

pub returns-in_err-left : goal.returns-in_err-left
returns-in_err-left g c =
    let p = err_from_is_err_and c.from_residual-in_err-left.result c.from_residual-in_err-left.ensures.1 in
    let case = c.args.case in
    let job = job_view case c.args.job.now in
    let before : StoreState = g.T.Store.state c.args.store.now in
    let cuts : Cuts case.torus job.cut (Ok c.in_ok-cut.cut) = subst (λ t. Cuts t job.cut (Ok c.in_ok-cut.cut)) c.space.ensures.value c.in_ok-cut.ensures in
    rw (p.1, p.2)
    (subst (λ (s : StoreState). DecidesFor (asked_of_job job) before s (Err c.in_err-left.field-0.0)) (sym c.in_ok-begin.ensures.begun.0)
    (for-unfinished job (admitted-cuts job cuts.1) before (beginning_view c.in_ok-begin.begin)
    c.in_ok-begin.ensures.begun.2 _ c.in_err-left.ensures))

pub save_all-requires : goal.save_all-requires
save_all-requires g c =
    left_is c.args.case c.args.job.now.steps (beginning_view c.in_ok-begin.begin) c.in_ok-left.left c.space.ensures.valid c.in_ok-left.ensures

pub returns-in_err-save_all : goal.returns-in_err-save_all
returns-in_err-save_all g c =
    let p = err_from_is_err_and c.from_residual-in_err-save_all.result c.from_residual-in_err-save_all.ensures.1 in
    let case = c.args.case in
    let job = job_view case c.args.job.now in
    let before : StoreState = g.T.Store.state c.args.store.now in
    let after : StoreState = g.T.Store.state c.save_all.new.store in
    let same : g.T.Store.state c.begin.new.store ≡ before = c.in_ok-begin.ensures.begun.0 in
    let end = c.in_err-save_all.field-0.0 in
    let saves : SavesAll (left_files job c.in_ok-left.left) before after (Err end) =
    subst (λ (s : StoreState). SavesAll (left_files job c.in_ok-left.left) s after (Err end)) same c.in_err-save_all.ensures.saved in
    let cuts : Cuts case.torus job.cut (Ok c.in_ok-cut.cut) = subst (λ t. Cuts t job.cut (Ok c.in_ok-cut.cut)) c.space.ensures.value c.in_ok-cut.ensures in
    rw (p.1, p.2)
    (for-unsaved job (admitted-cuts job cuts.1) before (beginning_view c.in_ok-begin.begin)
    c.in_ok-begin.ensures.begun.2 c.in_ok-left.left c.in_ok-left.ensures after (c.save_all.ensures.read_faults ∙ ap (λ (s : StoreState). s.read_faults) same) end saves)

pub returns : goal.returns
returns g c =
    let case = c.args.case in
    let job = job_view case c.args.job.now in
    let before : StoreState = g.T.Store.state c.args.store.now in
    let after : StoreState = g.T.Store.state c.save_all.new.store in
    let same : g.T.Store.state c.begin.new.store ≡ before = c.in_ok-begin.ensures.begun.0 in
    let saves : SavesAll (left_files job c.in_ok-left.left) before after (Ok tt) =
    subst (λ (s : StoreState). SavesAll (left_files job c.in_ok-left.left) s after (Ok tt)) same c.in_ok-save_all.ensures.saved in
    let cuts : Cuts case.torus job.cut (Ok c.in_ok-cut.cut) = subst (λ t. Cuts t job.cut (Ok c.in_ok-cut.cut)) c.space.ensures.value c.in_ok-cut.ensures in
    for-saved job (admitted-cuts job cuts.1) before (beginning_view c.in_ok-begin.begin)
    c.in_ok-begin.ensures.begun.2 c.in_ok-left.left c.in_ok-left.ensures after c.space.ensures.valid c.in_ok-begin.ensures.begun.1
    (c.save_all.ensures.read_faults ∙ ap (λ (s : StoreState). s.read_faults) same) saves
