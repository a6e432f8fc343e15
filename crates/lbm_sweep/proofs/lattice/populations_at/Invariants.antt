use Rattle.std.proofs.Common.{◌≡◌, ℕ, ◌<◌, length}
use Rattle.lbm_cell.specs.Moments.{populations}
use Rattle.lbm_model.specs.Layout.{population_in}
use Rattle.lbm_sweep.specs.CellRows.{cell_at}
use Rattle.lbm_sweep.proofs.lattice.populations_at.Given as goal

abbrev pub invariant-loop-i : goal.invariant-loop-i
invariant-loop-i g l = record {
  done : (i : ℕ) → i < l.i → populations l.f.f i ≡ population_in l.row.case.now l.row.layout l.region.slots (cell_at l.row l.x) i;
  kept : length l.f.f ≡ 27;
}
