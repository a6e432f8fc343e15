use Rattle.lbm_board.proofs.ClosedTable.{closed_with}
use Rattle.lbm_board.proofs.seats.close.Goals as goal

pub returns-clause-closed : goal.returns-clause-closed
returns-clause-closed g c = closed_with c.args.table.shared.key.turns c.args.table.shared.key.given.value.items c.args.seat.id c.args.seat.me.0 _ _ c.requires.all c.requires.filled c.close_with.ensures.values.2
