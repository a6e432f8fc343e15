use Rattle.lbm_space.specs.Stencil.{opposite}
use Rattle.lbm_sweep.proofs.Filled.{IsFilled}
use Rattle.lbm_sweep.proofs.tables.opposite_directions.Given as goal

abbrev pub invariant-loop-i : goal.invariant-loop-i
invariant-loop-i g l = IsFilled (λ i. opposite g.V.VelocitySet.stencil i) l.i l.table.items
