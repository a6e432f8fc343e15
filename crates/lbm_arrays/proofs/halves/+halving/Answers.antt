use Rattle.std.proofs.Common.{◌+◌, ◌-◌, ◌/◌, arith}
use Rattle.lbm_arrays.proofs.Forked.{low_asks, high_asks, both_give}
use Rattle.lbm_arrays.proofs.halves.+halving.Goals as goal

pub by_halves-parts-low-requires-clause-low : goal.by_halves-parts-low-requires-clause-low
by_halves-parts-low-requires-clause-low g t c κs within =
    let some = c.requires.asks.some in let many = c.if-to-from-eq1.false in let from = c.args.span.from in let to = c.args.span.to in
    low_asks _ _ _ _ from (from + (to - from) / 2) to c.args.patch c.split_off-low.result.0 c.split_off-low.result.1 c.requires.asks (omega (arith, some, many)) (omega (arith, some, many)) c.split_off-low.ensures.low c.split_off-low.ensures.high

pub by_halves-parts-low-requires-clause-high : goal.by_halves-parts-low-requires-clause-high
by_halves-parts-low-requires-clause-high g t c κs within =
    let some = c.requires.asks.some in let many = c.if-to-from-eq1.false in let from = c.args.span.from in let to = c.args.span.to in
    high_asks _ _ _ _ from (from + (to - from) / 2) to c.args.patch c.split_off-low.result.0 c.split_off-low.result.1 c.requires.asks (omega (arith, some, many)) (omega (arith, some, many)) c.split_off-low.ensures.low c.split_off-low.ensures.high

pub by_halves-returns : goal.by_halves-returns
by_halves-returns g t c =
    let some = c.requires.asks.some in let many = c.if-to-from-eq1.false in let from = c.args.span.from in let to = c.args.span.to in
    both_give _ _ _ _ from (from + (to - from) / 2) to c.args.patch c.split_off-low.result.0 c.split_off-low.result.1 c.requires.asks (omega (arith, some, many)) (omega (arith, some, many)) c.split_off-low.ensures.low c.split_off-low.ensures.high
    c.parts-low.result.0.0 c.parts-low.result.1.0 c.merge.result _ _ c.parts-low.ensures.low c.parts-low.ensures.high c.merge.ensures.places c.merge.ensures.items c.merge.ensures.mine _ c.lesser_of.ensures
