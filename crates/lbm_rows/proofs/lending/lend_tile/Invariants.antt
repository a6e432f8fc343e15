use Rattle.std.proofs.Common.{◌≡◌, ℕ, ◌<◌, ◌≤◌, ◌*◌, [], length, vec_len, vec_capacity, slice_index_or}
use Rattle.lbm_rows.specs.Lending.{entry_number}
use Rattle.lbm_rows.proofs.lending.lend_tile.Given as goal

abbrev pub invariant-loop-j : goal.invariant-loop-j
invariant-loop-j g l = record {
  count : length l.kept ≡ length l.fn.kept;
  long : vec_len l.room ≡ l.j;
  room : g.V.VelocitySet.stencil.directions * l.height ≤ vec_capacity l.room;
  lent : (i : ℕ) → i < l.j → slice_index_or l.room.items i [] ≡ slice_index_or l.fn.kept (entry_number l.case l.t l.rows i) [];
  left : (m : ℕ) → ((i : ℕ) → i < l.j → m ≡ entry_number l.case l.t l.rows i → ⊥) → slice_index_or l.kept m [] ≡ slice_index_or l.fn.kept m [];
}
