use Rattle.std.specs.Prelude.{not, slice_index, nat_lt}
use Rattle.lbm_space.specs.Stencil.{opposite}
use Rattle.std.proofs.Common.{ap, ◌∙◌, eqb}
use Rattle.lbm_lanes.specs.Cells.{is_on}
use Rattle.lbm_lanes.specs.Lanes.{entry}
use Rattle.lbm_lanes.proofs.Collided.{settled_is, settled_small}
use Rattle.lbm_cell.proofs.Limits.{opposite_moves}
use Rattle.lbm_lanes.proofs.pairs.settled_pair.Goals as goal

pub returns-clause-ahead : goal.returns-clause-ahead
returns-clause-ahead g c l h known is here there =
    let v = g.V.VelocitySet.stencil in let k = c.args.fluid.now.flags in
    settled_is v c.args.run.now.rates c.args.run.now.force (is_on (not (eqb g.row.MIXED 0)) (slice_index k.colliding l)) (nat_lt 0 (slice_index k.turning l)) h c.args.i (entry c.settle-ahead.result l) (entry c.moved_pair.result.0 l) (entry c.args.f l) (entry c.args.o l)
    c.requires.moving (c.settle-ahead.ensures l known) (c.moved_pair.ensures.ahead l h known is here there) here there

pub returns-clause-behind : goal.returns-clause-behind
returns-clause-behind g c l h known is here there =
    let v = g.V.VelocitySet.stencil in let laws = g.met.V.VelocitySet.laws in let k = c.args.fluid.now.flags in
    settled_is v c.args.run.now.rates c.args.run.now.force (is_on (not (eqb g.row.MIXED 0)) (slice_index k.colliding l)) (nat_lt 0 (slice_index k.turning l)) h (opposite v c.args.i) (entry c.settle-behind.result l) (entry c.moved_pair.result.1 l) (entry c.args.o l) (entry c.args.f l)
    (opposite_moves v c.args.i laws c.requires.moving c.requires.known) (c.settle-behind.ensures l known) (c.moved_pair.ensures.behind l h known is here there) there (ap h (laws.opposite_twice c.args.i c.requires.known) ∙ here)

pub returns-clause-ahead_size : goal.returns-clause-ahead_size
returns-clause-ahead_size g c l known =
    let k = c.args.fluid.now.flags in
    settled_small (is_on (not (eqb g.row.MIXED 0)) (slice_index k.colliding l)) (nat_lt 0 (slice_index k.turning l)) (entry c.settle-ahead.result l) (entry c.moved_pair.result.0 l) (entry c.args.f l) (entry c.args.o l)
    (c.settle-ahead.ensures l known) (c.moved_pair.ensures.ahead_size l known) (c.requires.small l known) (c.requires.small_opposite l known)

pub returns-clause-behind_size : goal.returns-clause-behind_size
returns-clause-behind_size g c l known =
    let k = c.args.fluid.now.flags in
    settled_small (is_on (not (eqb g.row.MIXED 0)) (slice_index k.colliding l)) (nat_lt 0 (slice_index k.turning l)) (entry c.settle-behind.result l) (entry c.moved_pair.result.1 l) (entry c.args.o l) (entry c.args.f l)
    (c.settle-behind.ensures l known) (c.moved_pair.ensures.behind_size l known) (c.requires.small_opposite l known) (c.requires.small l known)
