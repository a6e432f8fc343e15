use Rattle.std.proofs.Common.{◌≡◌, ◌*◌, take}
use Rattle.lbm_model.specs.Layout.{state_in}
use Rattle.lbm_sweep.specs.CellRows.{cell_at}
use Rattle.lbm_sweep.proofs.lattice.read_row.Given as goal

abbrev pub invariant-loop-x : goal.invariant-loop-x
invariant-loop-x g l = l.pops.items ≡ take (cell_at l.row l.x * g.V.VelocitySet.stencil.directions) (state_in l.row.case.now l.row.layout l.region.slots).numbers
