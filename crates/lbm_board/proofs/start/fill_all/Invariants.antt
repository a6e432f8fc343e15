use Rattle.std.proofs.Common.{◌≡◌, ◌≤◌, [], false, length, drop, reverse}
use Rattle.lbm_board.specs.RunningRule.{opening_view}
use Rattle.lbm_board.proofs.start.fill_all.Given as goal

abbrev pub invariant-loop-piece : goal.invariant-loop-piece
invariant-loop-piece g l = record {
  table : (l.seat.table_id ≡ l.fn.seat.table_id) × (l.seat.id ≡ l.fn.seat.id);
  seat : l.seat.me ≡ (opening_view l.fn.seat.me.0.leave l.fn.pieces.items l.number false, []);
  left : drop l.number l.fn.pieces.items ≡ reverse l.pieces.items;
  count : l.number ≤ length l.fn.pieces.items;
}

abbrev pub decreases-loop-piece : goal.decreases-loop-piece
decreases-loop-piece g l = length l.pieces.items
