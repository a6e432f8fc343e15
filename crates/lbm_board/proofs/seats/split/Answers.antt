use Rattle.std.proofs.Common.{arith}
use Rattle.lbm_board.proofs.SplitAndJoin.{split_allowed}
use Rattle.lbm_board.proofs.seats.split.Goals as goal

pub split_seat-requires : goal.split_seat-requires
split_seat-requires g c = (
  c.requires.table.0,
  (let words = c.requires.table.1 in omega arith),
  split_allowed c.args.table.now.key.turns c.args.table.now.key.given.value.items c.args.seat.now.id c.args.seat.now.me.0 c.requires.seat.0 c.requires.seat.1 c.requires.seat.2 c.requires.table.2,
)
