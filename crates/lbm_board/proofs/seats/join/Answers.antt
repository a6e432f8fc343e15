use Rattle.std.proofs.Common.{◌∙◌, ap, arith, Option}
use Rattle.atomic_table.specs.Table.{Me}
use Rattle.lbm_board.specs.declared.record.View.{View}
use Rattle.lbm_board.proofs.SplitAndJoin.{hand_over_allowed, join_allowed}
use Rattle.lbm_board.proofs.seats.join.Goals as goal

pub split_seat-whole-requires : goal.split_seat-whole-requires
split_seat-whole-requires g c = (
  c.requires.table.1,
  (let words = c.requires.table.2 in omega arith),
  hand_over_allowed c.args.table.now.key.turns c.args.table.now.key.given.value.items c.args.other.now.id c.args.other.now.me.0 c.requires.filled.1,
)

pub join_seat-requires : goal.join_seat-requires
join_seat-requires g c = let whole = c.split_seat-whole in (
  c.requires.table.0,
  whole.ensures.3 ∙ c.requires.table.1,
  ap (λ (m : Me (Option g.row.T.Denot) (View g.row.T.Denot)). m.1) whole.ensures.4,
  (let words = c.requires.table.2 in omega arith),
  join_allowed c.args.table.now.key.turns c.args.table.now.key.given.value.items c.args.seat.now.id c.args.seat.now.me.0 whole.result.id whole.result.me.0 c.requires.seat c.requires.filled.0,
)
