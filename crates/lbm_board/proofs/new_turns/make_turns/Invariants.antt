use Rattle.std.proofs.Common.{◌≡◌, ℕ, ◌+◌, ◌<◌, [], ◌∷◌, Some, length, slice_get, vec_capacity}
use Rattle.std.specs.List.{All}
use Rattle.lbm_board.specs.Entries.{record_of}
use Rattle.lbm_board.specs.Models.{fresh_turn}
use Rattle.lbm_board.proofs.new_turns.make_turns.Given as goal

abbrev pub invariant-loop-room : goal.invariant-loop-room
invariant-loop-room g l = record {
  table : l.seat.table_id ≡ l.initial.seat.table_id;
  none_held : l.seat.me.1 ≡ [];
  alone : l.seat.me.0.records ≡ record_of 0 [] ∷ [];
  leave : l.seat.me.0.leave + l.number ≡ l.initial.seat.me.0.leave + 1;
  made : l.seat.me.0.made ≡ l.number;
  filled : l.seat.me.0.filled ≡ l.initial.seat.me.0.filled;
  given : l.seat.me.0.given ≡ l.initial.seat.me.0.given;
  rooms : All (λ r. r.room ≡ l.table.table_id.slots) l.rooms.items;
  left : length l.rooms.items + l.number ≡ l.initial.seat.me.0.leave;
  count : length l.turns.items + 1 ≡ l.number;
  capacity : vec_capacity l.turns ≡ vec_capacity l.initial.turns;
  fresh : (k : ℕ) → k < length l.turns.items → slice_get l.turns.items k ≡ Some (fresh_turn l.initial.seat.table_id l.initial.seat.me.0.given (k + 1));
}

abbrev pub decreases-loop-room : goal.decreases-loop-room
decreases-loop-room g l = length l.rooms.items
