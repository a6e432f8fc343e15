use Rattle.std.proofs.Common.{arith}
use Rattle.lbm_model.proofs.Moving.{next_above, any_from-next, any_from-end}
use Rattle.lbm_model.proofs.case.any_from.Goals as goal

pub overflow_sub-result : goal.overflow_sub-result
overflow_sub-result c = omega (arith, next_above c.args.list.now c.args.first c.in-Err.i c.requires.rising c.in-Err.ensures.position c.if-i-list.true)

pub returns-then-i-list : goal.returns-then-i-list
returns-then-i-list c = any_from-next c.args.list.now c.args.first c.args.n c.in-Err.i c.requires.rising c.in-Err.ensures.position c.if-i-list.true

pub returns-else-i-list : goal.returns-else-i-list
returns-else-i-list c = any_from-end c.args.list.now c.args.first c.args.n c.in-Err.i c.requires.rising c.in-Err.ensures.position c.if-i-list.false
