use Rattle.std.proofs.Common.{◌≡◌, ◌*◌, take}
use Rattle.lbm_rows.specs.Kept.{state_kept}
use Rattle.lbm_rows.specs.CellRows.{cell_at}
use Rattle.lbm_rows.proofs.reading.read_row.Given as goal

abbrev pub invariant-loop-x : goal.invariant-loop-x
invariant-loop-x g l = l.pops.items ≡ take (cell_at l.row l.x * g.V.VelocitySet.stencil.directions) (state_kept l.row.case.now l.row.time l.kept).numbers
