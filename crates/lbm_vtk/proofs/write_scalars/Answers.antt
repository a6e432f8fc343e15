use Rattle.std.proofs.Common.{rules}
use Rattle.std.proofs.lemmas.Result.{err_from_is_err_and}
use Rattle.lbm_store.proofs.PutLemmas.{Writes-from_ends, Writes-from_cut}
use Rattle.lbm_vtk.proofs.write_scalars.Goals as goal

pub returns-in_err-put_scalars : goal.returns-in_err-put_scalars
returns-in_err-put_scalars g c =
    let p = err_from_is_err_and c.from_residual.result c.from_residual.ensures.1 in
    let same = c.in_err-put_scalars.out-1-own.given.1 (search rules) in
    rw (p.1, p.2, same)
    (Writes-from_cut _ _ c.new-pieces.result _ _ _ c.new-pieces.ensures.sink c.new-pieces.ensures.held c.in_err-put_scalars.ensures)

pub returns : goal.returns
returns g c =
    let same = c.out-2-1.given.1 (search rules) in
    rw same
    (Writes-from_ends _ _ c.new-pieces.result _ _ _ _ c.new-pieces.ensures.sink c.new-pieces.ensures.held c.in_ok-put_scalars.ensures c.end.ensures)
