use Rattle.std.proofs.Common.{◌≡◌, ◌∙◌, ◌++◌, List, ℕ, Ok, Err, ap, subst}
use Rattle.std.specs.Option.{ForSome}
use Rattle.std.proofs.lemmas.Result.{err_from_is_err_and}
use Rattle.lbm_store.specs.Outside.{StoreState}
use Rattle.lbm_words.specs.Request.{voxels_view}
use Rattle.lbm_answer.specs.declared.answer.File.TheVariants.{Voxel}
use Rattle.lbm_answer.specs.Files.{ReadsAs, read_view}
use Rattle.lbm_answer.specs.Outcome.{run_job, voxels_read}
use Rattle.lbm_answer.specs.Answer.{DecidesFor, asked_of_job}
use Rattle.lbm_answer.proofs.Requests.{for-uncased_voxels, for-unread_voxels, for-voxels}
use Rattle.lbm_flow.proofs.top.decide_voxels.Goals as goal

pub returns-in_err-bytes : goal.returns-in_err-bytes
returns-in_err-bytes g c =
    let p = err_from_is_err_and c.from_residual.result c.from_residual.ensures.1 in
    rw (p.1, p.2)
    (for-uncased_voxels read_view (g.T.Store.state c.args.store.now) (g.T.Store.state c.read_case_file.new.store)
    c.read_case_file.ensures.files c.read_case_file.ensures.write_faults (voxels_view c.args.request) _ c.in_err-bytes.ensures.read)

pub returns-in_err-voxels : goal.returns-in_err-voxels
returns-in_err-voxels g c =
    let before : StoreState = g.T.Store.state c.args.store.now in
    let after : StoreState = g.T.Store.state c.read_voxel_file.new.store in
    let v = voxels_view c.args.request in
    let plain = c.in_ok-bytes.plain in
    let end = c.in_err-voxels.field-0.0 in
    let same : g.T.Store.state c.read_case_file.new.store ≡ before = c.in_ok-bytes.ensures.read.0 in
    let shape : ReadsAs read_view Voxel v.file (voxels_read v.file plain) before after (Err end) =
    subst (λ (s : StoreState). ReadsAs read_view Voxel v.file (voxels_read v.file plain) s after (Err end)) same c.in_err-voxels.ensures.read in
    let p = err_from_is_err_and c.from_residual-in_err-voxels.result c.from_residual-in_err-voxels.ensures.1 in
    rw (p.1, p.2)
    (for-unread_voxels read_view before after
    (c.read_voxel_file.ensures.files ∙ ap (λ (s : StoreState). s.files) same) (c.read_voxel_file.ensures.write_faults ∙ ap (λ (s : StoreState). s.write_faults) same)
    v c.in_ok-bytes.bytes.items plain c.in_ok-bytes.ensures.read.1 end shape)

pub returns : goal.returns
returns g c =
    let before : StoreState = g.T.Store.state c.args.store.now in
    let between : StoreState = g.T.Store.state c.read_case_file.new.store in
    let later : StoreState = g.T.Store.state c.read_voxel_file.new.store in
    let after : StoreState = g.T.Store.state c.do_job.new.store in
    let v = voxels_view c.args.request in
    let plain = c.in_ok-bytes.plain in
    let case = c.in_ok-voxels.case in
    let bytes = c.in_ok-bytes.bytes.items in
    let voxels = c.in_ok-voxels.voxels.items in
    let same : between ≡ before = c.in_ok-bytes.ensures.read.0 in
    let shape : ForSome before.files (λ files. voxels_read v.file plain files ≡ Ok (voxels, case)) =
    subst (λ (s : StoreState). ForSome s.files (λ files. voxels_read v.file plain files ≡ Ok (voxels, case))) same c.in_ok-voxels.ensures.read.1 in
    let done : DecidesFor (asked_of_job (run_job v.run case (c.deref.result.now ++ c.deref-2.result.now))) later after c.do_job.result = c.do_job.ensures in
    let first : DecidesFor (asked_of_job (run_job v.run case (bytes ++ c.deref-2.result.now))) later after c.do_job.result =
    subst (λ (b : List ℕ). DecidesFor (asked_of_job (run_job v.run case (b ++ c.deref-2.result.now))) later after c.do_job.result) c.deref.ensures.value done in
    let job : DecidesFor (asked_of_job (run_job v.run case (bytes ++ voxels))) later after c.do_job.result =
    subst (λ (b : List ℕ). DecidesFor (asked_of_job (run_job v.run case (bytes ++ b))) later after c.do_job.result) c.deref-2.ensures.value first in
    for-voxels v bytes voxels plain case before after c.in_ok-bytes.ensures.read.1 shape c.do_job.result
    (subst (λ (s : StoreState). DecidesFor (asked_of_job (run_job v.run case (bytes ++ voxels))) s after c.do_job.result) (c.in_ok-voxels.ensures.read.0 ∙ same) job)
