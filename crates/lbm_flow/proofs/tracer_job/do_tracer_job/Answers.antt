use Rattle.std.proofs.Common.{Err, Ok, sym, subst}
use Rattle.std.proofs.lemmas.Result.{err_from_is_err_and}
use Rattle.lbm_store.specs.Outside.{StoreState}
use Rattle.lbm_words.specs.Request.{tracer_view}
use Rattle.lbm_answer.specs.Answer.{DecidesFor, asked_of_tracer}
use Rattle.lbm_answer.specs.Jobs.{Cuts}
use Rattle.lbm_answer.proofs.TracerSteps.{for-uncut_tracer, for-unplaced, for-untraced, for-traced, for-unsaved_traced}
use Rattle.lbm_answer.proofs.TracerEnds.{traced_is}
use Rattle.lbm_flow.proofs.tracer_job.do_tracer_job.Goals as goal

pub returns-in_err-cut : goal.returns-in_err-cut
returns-in_err-cut g c =
    let p = err_from_is_err_and c.from_residual.result c.from_residual.ensures.1 in
    let case = c.args.case in let r = tracer_view c.args.request.now in
    let cuts : Cuts case.torus r.choice.cut (Err c.in_err-cut.field-0.0) = subst (λ t. Cuts t r.choice.cut (Err c.in_err-cut.field-0.0)) c.space.ensures.value c.in_err-cut.ensures in
    rw (p.1, p.2) (for-uncut_tracer r case (g.T.Store.state c.args.store.now) _ cuts)

pub returns-in_err-place_tracer : goal.returns-in_err-place_tracer
returns-in_err-place_tracer g c =
    let p = err_from_is_err_and c.from_residual-in_err-place_tracer.result c.from_residual-in_err-place_tracer.ensures.1 in
    let case = c.args.case in let r = tracer_view c.args.request.now in
    let cuts : Cuts case.torus r.choice.cut (Ok c.in_ok-cut.cut) = subst (λ t. Cuts t r.choice.cut (Ok c.in_ok-cut.cut)) c.space.ensures.value c.in_ok-cut.ensures in
    rw (p.1, p.2) (for-unplaced r case (g.T.Store.state c.args.store.now) cuts.1 _ c.in_err-place_tracer.ensures)

pub returns-in_err-left : goal.returns-in_err-left
returns-in_err-left g c =
    let p = err_from_is_err_and c.from_residual-in_err-left.result c.from_residual-in_err-left.ensures.1 in
    let case = c.args.case in let r = tracer_view c.args.request.now in
    let cuts : Cuts case.torus r.choice.cut (Ok c.in_ok-cut.cut) = subst (λ t. Cuts t r.choice.cut (Ok c.in_ok-cut.cut)) c.space.ensures.value c.in_ok-cut.ensures in
    rw (p.1, p.2) (for-untraced r case (g.T.Store.state c.args.store.now) cuts.1 c.in_ok-place_tracer.ensures _ c.in_err-left.ensures)

pub save_traced-requires : goal.save_traced-requires
save_traced-requires g c = traced_is (tracer_view c.args.request.now) c.args.case c.in_ok-left.left c.space.ensures.valid c.in_ok-left.ensures

pub returns-in_err-save_traced : goal.returns-in_err-save_traced
returns-in_err-save_traced g c =
    let p = err_from_is_err_and c.from_residual-in_err-save_traced.result c.from_residual-in_err-save_traced.ensures.1 in
    let case = c.args.case in let r = tracer_view c.args.request.now in
    let cuts : Cuts case.torus r.choice.cut (Ok c.in_ok-cut.cut) = subst (λ t. Cuts t r.choice.cut (Ok c.in_ok-cut.cut)) c.space.ensures.value c.in_ok-cut.ensures in
    rw (p.1, p.2)
    (for-unsaved_traced r case (g.T.Store.state c.args.store.now) cuts.1 c.in_ok-place_tracer.ensures c.in_ok-left.left c.in_ok-left.ensures
    (g.T.Store.state c.save_traced.new.store) c.save_traced.ensures.read_faults _ c.in_err-save_traced.ensures.saved)

pub returns : goal.returns
returns g c =
    let case = c.args.case in let r = tracer_view c.args.request.now in
    let before : StoreState = g.T.Store.state c.args.store.now in
    let after : StoreState = g.T.Store.state c.save_traced.new.store in
    let cuts : Cuts case.torus r.choice.cut (Ok c.in_ok-cut.cut) = subst (λ t. Cuts t r.choice.cut (Ok c.in_ok-cut.cut)) c.space.ensures.value c.in_ok-cut.ensures in
    subst (λ report. DecidesFor (asked_of_tracer r case) before after (Ok report)) (sym c.report.ensures)
    (for-traced r case before cuts.1 c.in_ok-place_tracer.ensures c.in_ok-left.left c.in_ok-left.ensures
    after c.space.ensures.valid c.save_traced.ensures.read_faults c.in_ok-save_traced.ensures.saved)
