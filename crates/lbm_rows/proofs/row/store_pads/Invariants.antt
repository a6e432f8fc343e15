use Rattle.std.proofs.Common.{◌≡◌, ℕ, ◌<◌, ◌≤◌, [], slice_index, slice_index_or}
use Rattle.lbm_rows.specs.TileRows.{takes, without_pads, HasRow, IsAlike}
use Rattle.lbm_rows.proofs.row.store_pads.Given as goal

abbrev pub invariant-loop-i : goal.invariant-loop-i
invariant-loop-i g l = record {
  has : HasRow g.V.VelocitySet.stencil l.ways l.row l.width l.kept;
  alike : IsAlike g.V.VelocitySet.stencil l.ways l.row l.fn.kept l.kept;
  stored : (j : ℕ) → j < l.i → slice_index_or l.kept (takes l.ways l.row j) [] ≡ without_pads l.width (slice_index l.ways.from j) (slice_index_or l.fn.kept (takes l.ways l.row j) []);
  left : (j : ℕ) → l.i ≤ j → j < g.V.VelocitySet.stencil.directions → slice_index_or l.kept (takes l.ways l.row j) [] ≡ slice_index_or l.fn.kept (takes l.ways l.row j) [];
}
