use Rattle.std.proofs.Common.{◌≡◌, ℕ, ◌<◌, ◌≤◌, length, slice_get, Some}
use Rattle.std.specs.Prelude.{slice_index_or}
use Rattle.lbm_rows.specs.Lending.{TileModel}
use Rattle.lbm_rows.specs.Tiles.{IsBack}
use Rattle.lbm_rows.proofs.returning.return_tiles.Given as goal

abbrev pub invariant-loop-k : goal.invariant-loop-k
invariant-loop-k g l = record {
  count : length l.kept ≡ length l.fn.kept;
  long : length l.tiles ≡ length l.fn.tiles;
  rest : (m : ℕ) (d : TileModel) → l.k ≤ m → slice_index_or l.tiles m d ≡ slice_index_or l.fn.tiles m d;
  back : (m : ℕ) (tile : TileModel) → m < l.k → slice_get l.fn.tiles m ≡ Some tile → IsBack l.case l.t tile l.kept;
}
