use Rattle.std.proofs.Common.{◌≡◌, ◌+◌, ◌*◌, take}
use Rattle.lbm_model.specs.Layout.{state_in}
use Rattle.lbm_sweep.specs.CellRows.{cell_at}
use Rattle.lbm_sweep.proofs.lattice.read_cell.Given as goal

abbrev pub invariant-loop-i : goal.invariant-loop-i
invariant-loop-i g l = l.pops.items ≡ take (cell_at l.row l.x * g.V.VelocitySet.stencil.directions + l.i) (state_in l.row.case.now l.row.layout l.region.slots).numbers
