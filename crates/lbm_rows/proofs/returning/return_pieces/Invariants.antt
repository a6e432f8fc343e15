use Rattle.std.proofs.Common.{◌≡◌, ℕ, ◌<◌, ◌≤◌, length, slice_get, Some}
use Rattle.std.specs.Prelude.{Option, slice_index_or}
use Rattle.lbm_rows.specs.Lending.{TileModel}
use Rattle.lbm_rows.specs.Tiles.{IsBack}
use Rattle.lbm_rows.proofs.returning.return_pieces.Given as goal

abbrev pub invariant-loop-k : goal.invariant-loop-k
invariant-loop-k g l = record {
  count : length l.kept ≡ length l.fn.kept;
  long : length l.pieces ≡ length l.fn.pieces;
  rest : (m : ℕ) (d : Option TileModel) → l.k ≤ m → slice_index_or l.pieces m d ≡ slice_index_or l.fn.pieces m d;
  back : (m : ℕ) (tile : TileModel) → m < l.k → slice_get l.fn.pieces m ≡ Some (Some tile) → IsBack l.case l.t tile l.kept;
}
