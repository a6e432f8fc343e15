use Rattle.std.proofs.Common.{◌≡◌, ◌≢◌, ℕ, ◌<◌, length}
use Rattle.lbm_space.specs.Torus.{cells}
use Rattle.lbm_model.specs.State.{population}
use Rattle.lbm_model.specs.Layout.{population_in}
use Rattle.lbm_sweep.specs.CellRows.{cell_at}
use Rattle.lbm_sweep.proofs.lattice.place_cell.Given as goal

abbrev pub invariant-loop-i : goal.invariant-loop-i
invariant-loop-i g l = record {
  same : l.region ≡ record l.initial.region { slots = l.region.slots };
  size : length l.region.slots ≡ length l.initial.region.slots;
  placed : (i : ℕ) → i < l.i → population_in l.row.case.now l.row.layout l.region.slots (cell_at l.row l.x) i ≡ population l.state (cell_at l.row l.x) i;
  others : (y i : ℕ) → y < cells l.row.case.now.torus → i < g.V.VelocitySet.stencil.directions → y ≢ cell_at l.row l.x → population_in l.row.case.now l.row.layout l.region.slots y i ≡ population_in l.row.case.now l.row.layout l.initial.region.slots y i;
}
