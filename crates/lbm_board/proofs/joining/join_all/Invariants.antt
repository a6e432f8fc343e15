use Rattle.std.proofs.Common.{◌≡◌, ◌<◌, ◌++◌, map, length}
use Rattle.std.specs.List.{All}
use Rattle.lbm_board.specs.Models.{log_of}
use Rattle.lbm_board.specs.Closing.{AreClaims}
use Rattle.lbm_board.proofs.joining.join_all.Given as goal

abbrev pub invariant-loop-turn : goal.invariant-loop-turn
invariant-loop-turn g l = record {
  table : l.seat.table_id ≡ l.initial.seat.table_id;
  filled : l.seat.me.0.filled ≡ l.initial.seat.me.0.filled;
  some_record : 0 < length l.seat.me.0.records;
  turns : All (λ t. t.table ≡ l.table.table_id) l.turns.items;
  records : map log_of l.turns.items ++ l.seat.me.0.records ≡ map log_of l.initial.turns.items ++ l.initial.seat.me.0.records;
  claims : AreClaims l.table.table_id.slots l.seat.me.0.records l.claims.drawn.items l.claims.unfinished.items;
}

abbrev pub decreases-loop-turn : goal.decreases-loop-turn
decreases-loop-turn g l = length l.turns.items
