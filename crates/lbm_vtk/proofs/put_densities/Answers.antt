use Rattle.std.proofs.Common.{ap, rules}
use Rattle.std.proofs.lemmas.Result.{err_from_is_err_and}
use Rattle.std.proofs.lemmas.List.{take_all}
use Rattle.std.specs.List.{flat_map}
use Rattle.lbm_store.proofs.PutLemmas.{Puts-none, Puts-next_item, Puts-cut_item, Puts-cut, Puts-is, Puts-then}
use Rattle.lbm_vtk.specs.Vtk.{density, row}
use Rattle.lbm_vtk.proofs.put_densities.Goals as goal

pub loop-cell-init : goal.loop-cell-init
loop-cell-init g c = Puts-none _ _

pub returns-in_err-put_number : goal.returns-in_err-put_number
returns-in_err-put_number g c =
    let p = err_from_is_err_and c.from_residual.result c.from_residual.ensures.1 in
    rw (p.1, p.2)
    (Puts-cut _ {S = Unit {0}} _ _ _ _ _
    (Puts-cut_item _ (λ cell. row c.args.format (density cell)) _ _ _ _ c.args.cells.now c.loop-cell.cell-index _ (search rules) c.loop-cell.invariant c.in_err-put_number.ensures))

pub loop-cell-preserved : goal.loop-cell-preserved
loop-cell-preserved g c =
    Puts-next_item _ (λ cell. row c.args.format (density cell)) _ _ _ _ c.args.cells.now c.loop-cell.cell-index _ (search rules) c.loop-cell.invariant c.in_ok-put_number.ensures

pub returns : goal.returns
returns g c =
    let all = ap (flat_map (λ cell. row c.args.format (density cell))) (take_all c.loop-cell.cell-index c.args.cells.now c.loop-cell-test.false) in
    Puts-then _ _ _ _ _ _ _ (Puts-is _ _ _ _ _ _ all c.loop-cell.invariant) (Puts-is _ _ _ _ _ _ c.numbers_end.ensures c.put.ensures)
