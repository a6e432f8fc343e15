use Rattle.std.proofs.Common.{◌≡◌, ◌*◌}
use Rattle.lbm_sweep.specs.CellRows.{ArePlaced}
use Rattle.lbm_sweep.proofs.lattice.place_state.Given as goal

abbrev pub invariant-loop-number : goal.invariant-loop-number
invariant-loop-number g l = record {
  same : l.region ≡ record l.initial.region { slots = l.region.slots };
  placed : ArePlaced l.case l.layout l.state (l.number * l.case.torus.nx) l.region.slots;
}
