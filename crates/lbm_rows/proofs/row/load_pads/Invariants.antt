use Rattle.std.proofs.Common.{◌≡◌, ℕ, ◌<◌, ◌≤◌, [], slice_index_or}
use Rattle.lbm_rows.specs.TileRows.{takes, with_pads, HasRow, IsAlike}
use Rattle.lbm_rows.proofs.row.load_pads.Given as goal

abbrev pub invariant-loop-i : goal.invariant-loop-i
invariant-loop-i g l = record {
  has : HasRow g.V.VelocitySet.stencil l.ways l.row l.width l.kept;
  alike : IsAlike g.V.VelocitySet.stencil l.ways l.row l.fn.kept l.kept;
  loaded : (j : ℕ) → j < l.i → slice_index_or l.kept (takes l.ways l.row j) [] ≡ with_pads l.width (slice_index_or l.fn.kept (takes l.ways l.row j) []);
  left : (j : ℕ) → l.i ≤ j → j < g.V.VelocitySet.stencil.directions → slice_index_or l.kept (takes l.ways l.row j) [] ≡ slice_index_or l.fn.kept (takes l.ways l.row j) [];
}
