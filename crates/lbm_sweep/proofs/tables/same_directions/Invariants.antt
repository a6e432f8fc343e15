use Rattle.lbm_sweep.proofs.Filled.{IsFilled}
use Rattle.lbm_sweep.proofs.tables.same_directions.Given as goal

abbrev pub invariant-loop-i : goal.invariant-loop-i
invariant-loop-i g l = IsFilled (λ i. i) l.i l.table.items
