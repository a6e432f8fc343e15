use Rattle.std.proofs.Common.{◌≡◌}
use Rattle.lbm_board.specs.Fields.{rotated}
use Rattle.lbm_board.proofs.holding.rotate_slots.Given as goal

abbrev pub invariant-loop : goal.invariant-loop
invariant-loop g l = record {
  seat : (l.seat.table_id ≡ l.fn.seat.table_id) × (l.seat.id ≡ l.fn.seat.id);
  slots : l.seat.me ≡ (l.fn.seat.me.0, rotated l.counter l.fn.seat.me.1);
}
