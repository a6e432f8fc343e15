use Rattle.std.proofs.Common.{◌≡◌}
use Rattle.lbm_sweep.specs.CellRows.{cell_at, ArePlaced}
use Rattle.lbm_sweep.proofs.lattice.place_row.Given as goal

abbrev pub invariant-loop-x : goal.invariant-loop-x
invariant-loop-x g l = record {
  same : l.region ≡ record l.initial.region { slots = l.region.slots };
  placed : ArePlaced l.row.case.now l.row.layout l.state (cell_at l.row l.x) l.region.slots;
}
