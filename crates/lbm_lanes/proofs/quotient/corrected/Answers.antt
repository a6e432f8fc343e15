use Rattle.std.proofs.Common.{◌∙◌, arith}
use Rattle.std.specs.Prelude.{slice_index}
use Rattle.lbm_lanes.proofs.Guess.{corrected_is, left_below}
use Rattle.lbm_lanes.proofs.quotient.corrected.Goals as goal

pub sum-raised-requires : goal.sum-raised-requires
sum-raised-requires c l known =
    let left = left_below (slice_index c.args.n l) (slice_index c.args.d l) (slice_index c.args.guess l) (slice_index c.product.result l) (slice_index c.difference-rest.result l) (c.product.ensures l known) (c.difference-rest.ensures l known) (c.requires.low l known) (c.requires.high l known) in
    omega (arith, left, c.requires.divides l known, c.all.ensures l known, c.difference.ensures l known)

pub sum-requires : goal.sum-requires
sum-requires c l known =
    let left = left_below (slice_index c.args.n l) (slice_index c.args.d l) (slice_index c.args.guess l) (slice_index c.product.result l) (slice_index c.difference-rest.result l) (c.product.ensures l known) (c.difference-rest.ensures l known) (c.requires.low l known) (c.requires.high l known) in
    omega (arith, left, c.requires.divides l known, c.requires.small l known, c.all.ensures l known, c.difference.ensures l known, c.sum-raised.ensures l known, c.cut.ensures l known)

pub returns : goal.returns
returns c l known =
    c.sum.ensures l known
    ∙ corrected_is (slice_index c.args.n l) (slice_index c.args.d l) (slice_index c.args.guess l) (slice_index c.product.result l) (slice_index c.difference-rest.result l) (slice_index c.all.result l) (slice_index c.difference.result l) (slice_index c.sum-raised.result l) (slice_index c.cut.result l)
    (c.product.ensures l known) (c.difference-rest.ensures l known) (c.all.ensures l known) (c.difference.ensures l known) (c.sum-raised.ensures l known) (c.cut.ensures l known) (c.requires.divides l known) (c.requires.low l known) (c.requires.high l known)
