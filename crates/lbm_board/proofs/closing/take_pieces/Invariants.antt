use Rattle.std.proofs.Common.{◌≡◌, ℕ, ◌-◌, ◌<◌, ◌≤◌, false, get_or, take, vec_capacity}
use Rattle.std.specs.Mem.Slots.{slots_filled, slots_items, slots_len}
use Rattle.std.specs.Mem.Slots.Ownership.{Filled}
use Rattle.lbm_board.specs.Closing.{without}
use Rattle.lbm_board.proofs.closing.take_pieces.Given as goal

abbrev pub invariant-loop-number : goal.invariant-loop-number
invariant-loop-number g l = record {
  still_full : Filled (slots_filled l.closed.slots) l.number (slots_len l.closed.slots);
  empty : (k : ℕ) → k < l.number → get_or (slots_filled l.closed.slots) k false ≡ false;
  items : slots_items l.closed.slots ≡ slots_items l.initial.closed.slots;
  long : slots_len l.closed.slots ≡ slots_len l.initial.closed.slots;
  taken : l.pieces.items ≡ take l.number (without l.unfinished (slots_items l.initial.closed.slots));
  count : l.number ≤ slots_len l.initial.closed.slots;
  room : vec_capacity l.pieces ≡ vec_capacity l.initial.pieces;
}

abbrev pub decreases-loop-number : goal.decreases-loop-number
decreases-loop-number g l = slots_len l.closed.slots - l.number
