use Rattle.std.proofs.Common.{◌≡◌, ℕ, ◌+◌, ◌-◌, ◌*◌, ◌<◌, ◌≤◌, min, [], length, slice_get, Some, vec_capacity, slice_index_or}
use Rattle.std.specs.List.{All}
use Rattle.lbm_space.specs.Torus.{rows}
use Rattle.lbm_rows.specs.Lending.{TileModel, entry_number, IsLent}
use Rattle.lbm_rows.specs.Tiles.{tile_bounds}
use Rattle.lbm_rows.proofs.dealing.lend_all.Given as goal

abbrev pub invariant-loop-room : goal.invariant-loop-room
invariant-loop-room g l = record {
  count : length l.kept ≡ length l.fn.kept;
  number : l.k ≡ length l.list.items;
  left : length l.rooms.items + l.k ≡ length l.fn.rooms.items;
  rooms : All (λ r. g.V.VelocitySet.stencil.directions * min l.per_tile (rows l.case.torus) ≤ r.room) l.rooms.items;
  space : length l.rooms.items + l.k ≤ vec_capacity l.list;
  lent : (k : ℕ) (tile : TileModel) → slice_get l.list.items k ≡ Some tile → IsLent l.case l.t l.fn.kept tile × ((tile.first, tile.end) ≡ tile_bounds (rows l.case.torus) l.per_tile k);
  others : (m : ℕ) → ((k j : ℕ) → k < l.k → j < l.case.stencil.directions * ((tile_bounds (rows l.case.torus) l.per_tile k).1 - (tile_bounds (rows l.case.torus) l.per_tile k).0) → m ≡ entry_number l.case l.t (tile_bounds (rows l.case.torus) l.per_tile k) j → ⊥)
      → slice_index_or l.kept m [] ≡ slice_index_or l.fn.kept m [];
}

abbrev pub decreases-loop-room : goal.decreases-loop-room
decreases-loop-room g l = length l.rooms.items
