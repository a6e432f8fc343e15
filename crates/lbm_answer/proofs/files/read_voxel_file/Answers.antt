use Rattle.std.proofs.Common.{◌≡◌, ◌∙◌, Global, Ok, ap, sym, subst}
use Rattle.std.proofs.lemmas.Result.{err_from_is_err_and}
use Rattle.lbm_voxel.specs.Voxels.{voxels_of}
use Rattle.lbm_voxel.specs.Refusals.{Refuses as VoxelRefuses}
use Rattle.lbm_answer.specs.Files.{read_view}
use Rattle.lbm_answer.proofs.FirstFiles.{voxels-unread, voxels-refused, voxels-read}
use Rattle.lbm_answer.proofs.files.read_voxel_file.Goals as goal

pub returns-in_err-bytes-clause-read : goal.returns-in_err-bytes-clause-read
returns-in_err-bytes-clause-read g c =
    let p = err_from_is_err_and c.from_residual.result c.from_residual.ensures.1 in
    rw (p.1, p.2) (voxels-unread _ _ c.args.name.now read_view Global c.args.case.now _ c.in_err-bytes.ensures.read)

pub returns-in_err-made-clause-read : goal.returns-in_err-made-clause-read
returns-in_err-made-clause-read g c =
    let p = err_from_is_err_and c.from_residual-in_err-made.result c.from_residual-in_err-made.ensures.1 in
    let read = c.in_ok-bytes.ensures.read in
    let end = c.in_err-made.field-0.0 in
    let case = c.args.case.now in
    let is : VoxelRefuses end (voxels_of c.in_ok-bytes.bytes.items case) = subst (λ b. VoxelRefuses end (voxels_of b case)) c.deref.ensures.value c.in_err-made.ensures.fault in
    rw (p.1, p.2) (voxels-refused _ _ c.args.name.now read_view c.in_ok-bytes.bytes.items read.0 read.2 read.1 case end is)

pub returns-clause-read : goal.returns-clause-read
returns-clause-read g c =
    let read = c.in_ok-bytes.ensures.read in
    let case = c.args.case.now in
    let is : voxels_of c.in_ok-bytes.bytes.items case ≡ Ok c.in_ok-made.made = ap (λ b. voxels_of b case) (sym c.deref.ensures.value) ∙ c.in_ok-made.ensures.case in
    (read.0, voxels-read _ _ c.args.name.now read_view c.in_ok-bytes.bytes.items read.0 read.2 read.1 case c.in_ok-made.made is)
