use Rattle.std.proofs.Common.{List, [], ◌∷◌, ℕ, ℤ, rules}
use Rattle.std.proofs.lemmas.Result.{err_from_is_err_and}
use Rattle.lbm_store.proofs.PutLemmas.{Puts-none, Puts-next_item, Puts-cut_item}
use Rattle.lbm_vtk.specs.declared.Format.TheVariants.{Ascii}
use Rattle.lbm_vtk.specs.Vtk.{row}
use Rattle.lbm_vtk.proofs.put_numbers.Goals as goal

abbrev text : ℤ → List ℕ
text number = row Ascii (number ∷ [])

pub loop-number-init : goal.loop-number-init
loop-number-init g c = Puts-none _ _

pub returns-in_err-put_number : goal.returns-in_err-put_number
returns-in_err-put_number g c =
    let p = err_from_is_err_and c.from_residual.result c.from_residual.ensures.1 in
    rw (p.1, p.2) (Puts-cut_item _ text _ _ _ _ c.args.numbers.now c.loop-number.number-index _ (search rules) c.loop-number.invariant c.in_err-put_number.ensures)

pub loop-number-preserved : goal.loop-number-preserved
loop-number-preserved g c =
    Puts-next_item _ text _ _ _ _ c.args.numbers.now c.loop-number.number-index _ (search rules) c.loop-number.invariant c.in_ok-put_number.ensures
