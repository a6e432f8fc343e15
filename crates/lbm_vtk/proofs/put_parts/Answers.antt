use Rattle.std.proofs.Common.{List, ℕ, rules}
use Rattle.std.specs.Borrow.{Bor}
use Rattle.std.proofs.lemmas.Result.{err_from_is_err_and}
use Rattle.lbm_store.proofs.PutLemmas.{Puts-none, Puts-next_item, Puts-cut_item}
use Rattle.lbm_vtk.proofs.put_parts.Goals as goal

abbrev text : Bor (List ℕ) → List ℕ
text part = part.now

pub loop-part-init : goal.loop-part-init
loop-part-init g c = Puts-none _ _

pub returns-in_err-put : goal.returns-in_err-put
returns-in_err-put g c =
    let p = err_from_is_err_and c.from_residual.result c.from_residual.ensures.1 in
    rw (p.1, p.2) (Puts-cut_item _ text _ _ _ _ c.args.parts.now c.loop-part.part-index _ (search rules) c.loop-part.invariant c.in_err-put.ensures)

pub loop-part-preserved : goal.loop-part-preserved
loop-part-preserved g c =
    Puts-next_item _ text _ _ _ _ c.args.parts.now c.loop-part.part-index _ (search rules) c.loop-part.invariant c.in_ok-put.ensures
