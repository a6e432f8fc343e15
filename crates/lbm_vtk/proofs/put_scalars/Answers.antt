use Rattle.std.proofs.lemmas.Result.{err_from_is_err_and}
use Rattle.lbm_store.proofs.PutLemmas.{Puts-then, Puts-cut}
use Rattle.lbm_vtk.proofs.put_scalars.Goals as goal

pub returns-in_err-put_head : goal.returns-in_err-put_head
returns-in_err-put_head g c =
    let p = err_from_is_err_and c.from_residual.result c.from_residual.ensures.1 in
    rw (p.1, p.2) (Puts-cut _ {S = Unit {0}} _ _ _ _ _ c.in_err-put_head.ensures)

pub returns : goal.returns
returns g c = Puts-then _ _ _ _ _ _ _ c.in_ok-put_head.ensures c.put_numbers.ensures
