use Rattle.std.proofs.Common.{arith}
use Rattle.lbm_board.specs.Entries.{only}
use Rattle.lbm_board.proofs.Reporting.{look_allowed}
use Rattle.lbm_board.proofs.steps.read_least.Goals as goal

pub load-requires : goal.load-requires
load-requires g c = let table = c.requires.seat.1 in (
  table.2,
  (let words = table.0 in omega arith),
  look_allowed c.args.table.now.key.turns c.args.table.now.key.given.value.items _ c.args.seat.now.id c.args.seat.now.me (only c.args.seat.now.me.0.records) table.3 table.4,
)

pub returns-clause-answer : goal.returns-clause-answer
returns-clause-answer g c = (c.load.ensures.2 (only c.args.seat.now.me.0.records) c.requires.seat.1.3).1

pub returns-clause-seen : goal.returns-clause-seen
returns-clause-seen g c = (c.load.ensures.2 (only c.args.seat.now.me.0.records) c.requires.seat.1.3).0
