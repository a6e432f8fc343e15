use Rattle.std.proofs.Common.{◌≡◌, ◌-◌, ◌∙◌, ap, sym, rules, FitsSigned, to_z, of_z, arith, eqb}
use Rattle.std.specs.Int.{w64}
use Rattle.std.specs.Prelude.{not, slice_index}
use Rattle.std.proofs.lemmas.Int.{ints}
use Rattle.lbm_space.specs.Stencil.{velocity, opposite, moving_axes}
use Rattle.lbm_cell.specs.Collision.{relaxation, push}
use Rattle.lbm_cell.proofs.Sizes.{clean, size_at_most}
use Rattle.lbm_cell.proofs.Limits.{push_small}
use Rattle.lbm_lanes.specs.Cells.{own_square, is_on}
use Rattle.lbm_lanes.specs.Lanes.{entry}
use Rattle.lbm_lanes.proofs.PairCells.{relaxation_is}
use Rattle.lbm_lanes.proofs.Collided.{IsWeighed, population_held, lane_is, numbered, opposite_numbered, held_from, zero_lane, zero_fits, kept_above, kept_small, moved_is, small_fits, lowered_small}
use Rattle.lbm_lanes.proofs.pairs.moved_pair.Goals.{After-pair_of-pair, After-relaxed_pair}
use Rattle.lbm_lanes.proofs.pairs.moved_pair.Goals as goal

weighed : (g : _) (c : After-pair_of-pair g) → (let k = c.pair_of-pair.result in IsWeighed g.V.VelocitySet.stencil c.args.run.now.rates c.args.i k.weight k.denominator k.p k.m k.q)
weighed g c = let e = c.pair_of-pair.ensures in record { weight_is = e.weight; denominator_is = e.denominator; p_is = e.p; m_is = e.m; q_is = e.q; allowed = e.rates }

pub along-raised-requires-clause-units : goal.along-raised-requires-clause-units
along-raised-requires-clause-units g c a axis = rw c.c.ensures (g.met.V.VelocitySet.laws.unit_parts c.args.i a c.requires.known axis)

pub along-raised-requires-clause-sound : goal.along-raised-requires-clause-sound
along-raised-requires-clause-sound g c l known = (c.requires.ready l known).1.sound

pub kept-held-requires-clause-first : goal.kept-held-requires-clause-first
kept-held-requires-clause-first g c l known = small_fits (entry c.args.f l) (omega (arith, c.requires.small l known))

pub kept-held-requires-clause-rest : goal.kept-held-requires-clause-rest
kept-held-requires-clause-rest g c l known = zero_fits l known

pub natural-ahead-requires-clause-above : goal.natural-ahead-requires-clause-above
natural-ahead-requires-clause-above g c l known =
    let k = c.args.fluid.now in let is = c.requires.ready l known in
    kept_above (is_on (not (eqb g.row.MIXED 0)) (slice_index k.flags.colliding l)) (entry c.args.f l) (entry c.kept-held.result l) _ (c.kept-held.ensures l known) (zero_lane l known)
    (λ on. rw (← is.2) (population_held g.V.VelocitySet.stencil is.0 (slice_index k.cells.rho l) (slice_index k.x l) (slice_index k.y l) (slice_index k.z l) c.args.i (is.1.cell on) c.requires.known).0)

pub natural-ahead-requires-clause-small : goal.natural-ahead-requires-clause-small
natural-ahead-requires-clause-small g c l known =
    kept_small (is_on (not (eqb g.row.MIXED 0)) (slice_index c.args.fluid.now.flags.colliding l)) (entry c.args.f l) (entry c.kept-held.result l) _ (c.kept-held.ensures l known) (zero_lane l known) (c.requires.small l known)

pub kept-held_opposite-requires-clause-first : goal.kept-held_opposite-requires-clause-first
kept-held_opposite-requires-clause-first g c l known = small_fits (entry c.args.o l) (omega (arith, c.requires.small_opposite l known))

pub kept-held_opposite-requires-clause-rest : goal.kept-held_opposite-requires-clause-rest
kept-held_opposite-requires-clause-rest g c l known = zero_fits l known

pub natural-behind-requires-clause-above : goal.natural-behind-requires-clause-above
natural-behind-requires-clause-above g c l known =
    let v = g.V.VelocitySet.stencil in let k = c.args.fluid.now in let is = c.requires.ready l known in
    kept_above (is_on (not (eqb g.row.MIXED 0)) (slice_index k.flags.colliding l)) (entry c.args.o l) (entry c.kept-held_opposite.result l) _ (c.kept-held_opposite.ensures l known) (zero_lane l known)
    (λ on. rw (← is.3) (population_held v is.0 (slice_index k.cells.rho l) (slice_index k.x l) (slice_index k.y l) (slice_index k.z l) (opposite v c.args.i) (is.1.cell on) (g.met.V.VelocitySet.laws.opposite_exists c.args.i c.requires.known)).0)

pub natural-behind-requires-clause-small : goal.natural-behind-requires-clause-small
natural-behind-requires-clause-small g c l known =
    kept_small (is_on (not (eqb g.row.MIXED 0)) (slice_index c.args.fluid.now.flags.colliding l)) (entry c.args.o l) (entry c.kept-held_opposite.result l) _ (c.kept-held_opposite.ensures l known) (zero_lane l known) (c.requires.small_opposite l known)

pub relaxed_pair-requires-clause-ones : goal.relaxed_pair-requires-clause-ones
relaxed_pair-requires-clause-ones g c on =
    let is = c.requires.ones on in let k = c.pair_of-pair.ensures in (omega (arith, ints, is.p_is, k.p), omega (arith, ints, is.m_is, k.m), omega (arith, ints, is.q_is, k.q))

pub relaxed_pair-requires-clause-reciprocal : goal.relaxed_pair-requires-clause-reciprocal
relaxed_pair-requires-clause-reciprocal g c l known = (c.requires.ready l known).1.sound.reciprocal_is

pub relaxed_pair-requires-clause-lanes : goal.relaxed_pair-requires-clause-lanes
relaxed_pair-requires-clause-lanes g c l known =
    let is = c.requires.ready l known in
    let v = g.V.VelocitySet.stencil in
    let k = c.args.fluid.now in
    let n = c.pair_of-pair.result in
    let on = is_on (not (eqb g.row.MIXED 0)) (slice_index k.flags.colliding l) in
    let a = entry c.args.f l in
    let b = entry c.args.o l in
    let f = slice_index c.natural-ahead.result l in
    let o = slice_index c.natural-behind.result l in (
      moving_axes (velocity v c.args.i),
      own_square (slice_index k.x l) (slice_index k.y l) (slice_index k.z l),
      lane_is v c.args.run.now.rates is.0 c.args.i n.weight n.denominator n.p n.m n.q on (slice_index k.cells.rho l) (slice_index k.cells.reciprocal l) (slice_index k.cells.base l) (slice_index k.x l) (slice_index k.y l) (slice_index k.z l) (slice_index c.along-raised.result l) f o a b
          g.met.V.VelocitySet.laws c.requires.moving c.requires.known (weighed g (goal.at.relaxed_pair-requires-clause-lanes g c).After-pair_of-pair) is.1.sound is.1.cell (rw (← c.c.ensures) (c.along-raised.ensures l known)) is.2 is.3
          (held_from on a (entry c.kept-held.result l) _ f (c.kept-held.ensures l known) (zero_lane l known) (c.natural-ahead.ensures l known))
          (held_from on b (entry c.kept-held_opposite.result l) _ o (c.kept-held_opposite.ensures l known) (zero_lane l known) (c.natural-behind.ensures l known)),
    )

pub lowered-first-requires-clause-push : goal.lowered-first-requires-clause-push
lowered-first-requires-clause-push g c =
    let v = g.V.VelocitySet.stencil in
    let fits : FitsSigned w64 c.push.result = search rules in
    size_at_most c.push.result (push v c.args.run.now.force c.args.i) 663552 fits c.push.ensures (push_small v c.args.run.now.force c.args.i g.met.V.VelocitySet.laws c.requires.force c.requires.known)

pub lowered-second-requires-clause-push : goal.lowered-second-requires-clause-push
lowered-second-requires-clause-push g c =
    let v = g.V.VelocitySet.stencil in
    let fits : FitsSigned w64 c.push-2.result = search rules in
    size_at_most c.push-2.result (push v c.args.run.now.force (opposite v c.args.i)) 663552 fits (c.push-2.ensures ∙ ap (push v c.args.run.now.force) c.opp.ensures)
    (push_small v c.args.run.now.force (opposite v c.args.i) g.met.V.VelocitySet.laws c.requires.force (g.met.V.VelocitySet.laws.opposite_exists c.args.i c.requires.known))

pub returns-clause-ahead : goal.returns-clause-ahead
returns-clause-ahead g c l h known is here there chosen =
    let v = g.V.VelocitySet.stencil in
    let laws = g.met.V.VelocitySet.laws in
    let k = c.args.fluid.now in
    let n = c.pair_of-pair.result in
    let on = is_on (not (eqb g.row.MIXED 0)) (slice_index k.flags.colliding l) in
    let a = entry c.args.f l in
    let b = entry c.args.o l in
    let raised = slice_index c.along-raised.result l in
    let f = slice_index c.natural-ahead.result l in
    let o = slice_index c.natural-behind.result l in
    let own = own_square (slice_index k.x l) (slice_index k.y l) (slice_index k.z l) in
    let rates = c.args.run.now.rates in
    let fits : FitsSigned w64 c.push.result = search rules in
    let pushed : to_z w64 (of_z w64 c.push.result) ≡ push v c.args.run.now.force c.args.i = clean c.push.result (push v c.args.run.now.force c.args.i) fits c.push.ensures in
    let numbers = numbered v rates h c.args.i n.weight n.denominator n.p n.m n.q on (slice_index k.cells.rho l) (slice_index k.cells.reciprocal l) (slice_index k.cells.base l) (slice_index k.x l) (slice_index k.y l) (slice_index k.z l) raised f o a b
    laws c.requires.moving c.requires.known (weighed g (goal.at.returns-clause-ahead g c).After-pair_of-pair) is.sound is.cell (rw (← c.c.ensures) (c.along-raised.ensures l known)) here there
    (held_from on a (entry c.kept-held.result l) _ f (c.kept-held.ensures l known) (zero_lane l known) (c.natural-ahead.ensures l known))
    (held_from on b (entry c.kept-held_opposite.result l) _ o (c.kept-held_opposite.ensures l known) (zero_lane l known) (c.natural-behind.ensures l known)) chosen in
    moved_is (entry c.lowered-first.result l) (slice_index c.relaxed_pair.result.0 l) f (h c.args.i) _ (relaxation v rates h c.args.i) (to_z w64 (of_z w64 c.push.result)) (push v c.args.run.now.force c.args.i)
    (c.lowered-first.ensures l known) (c.relaxed_pair.ensures.ahead l own known is.sound.base_is) numbers.ahead_is
    (sym (relaxation_is v rates h c.args.i n.weight n.denominator n.p n.m n.q (slice_index k.cells.rho l) own raised f o laws c.requires.known numbers)) pushed

pub returns-clause-behind : goal.returns-clause-behind
returns-clause-behind g c l h known is here there chosen =
    let v = g.V.VelocitySet.stencil in
    let laws = g.met.V.VelocitySet.laws in
    let k = c.args.fluid.now in
    let n = c.pair_of-pair.result in
    let on = is_on (not (eqb g.row.MIXED 0)) (slice_index k.flags.colliding l) in
    let a = entry c.args.f l in
    let b = entry c.args.o l in
    let raised = slice_index c.along-raised.result l in
    let f = slice_index c.natural-ahead.result l in
    let o = slice_index c.natural-behind.result l in
    let own = own_square (slice_index k.x l) (slice_index k.y l) (slice_index k.z l) in
    let rates = c.args.run.now.rates in
    let back = opposite v c.args.i in
    let fits : FitsSigned w64 c.push-2.result = search rules in
    let pushed : to_z w64 (of_z w64 c.push-2.result) ≡ push v c.args.run.now.force back = clean c.push-2.result (push v c.args.run.now.force back) fits (c.push-2.ensures ∙ ap (push v c.args.run.now.force) c.opp.ensures) in
    let numbers = opposite_numbered v rates h c.args.i n.weight n.denominator n.p n.m n.q on (slice_index k.cells.rho l) (slice_index k.cells.reciprocal l) (slice_index k.cells.base l) (slice_index k.x l) (slice_index k.y l) (slice_index k.z l) raised f o a b
    laws c.requires.moving c.requires.known (weighed g (goal.at.returns-clause-behind g c).After-pair_of-pair) is.sound is.cell (rw (← c.c.ensures) (c.along-raised.ensures l known)) here there
    (held_from on a (entry c.kept-held.result l) _ f (c.kept-held.ensures l known) (zero_lane l known) (c.natural-ahead.ensures l known))
    (held_from on b (entry c.kept-held_opposite.result l) _ o (c.kept-held_opposite.ensures l known) (zero_lane l known) (c.natural-behind.ensures l known)) chosen in
    moved_is (entry c.lowered-second.result l) (slice_index c.relaxed_pair.result.1 l) o (h back) _ (relaxation v rates h back) (to_z w64 (of_z w64 c.push-2.result)) (push v c.args.run.now.force back)
    (c.lowered-second.ensures l known) (c.relaxed_pair.ensures.behind l own known is.sound.base_is) numbers.ahead_is
    (sym (relaxation_is v rates h back n.weight n.denominator n.p n.m n.q (slice_index k.cells.rho l) own (16777216 - raised) o f laws (laws.opposite_exists c.args.i c.requires.known) numbers)) pushed

pub returns-clause-ahead_size : goal.returns-clause-ahead_size
returns-clause-ahead_size g c l known =
    let v = g.V.VelocitySet.stencil in
    let fits : FitsSigned w64 c.push.result = search rules in
    lowered_small (entry c.lowered-first.result l) (slice_index c.relaxed_pair.result.0 l) (to_z w64 (of_z w64 c.push.result)) (c.lowered-first.ensures l known) (c.relaxed_pair.ensures.ahead_size l known)
    (size_at_most c.push.result (push v c.args.run.now.force c.args.i) 663552 fits c.push.ensures (push_small v c.args.run.now.force c.args.i g.met.V.VelocitySet.laws c.requires.force c.requires.known))

pub returns-clause-behind_size : goal.returns-clause-behind_size
returns-clause-behind_size g c l known =
    let v = g.V.VelocitySet.stencil in
    let fits : FitsSigned w64 c.push-2.result = search rules in
    lowered_small (entry c.lowered-second.result l) (slice_index c.relaxed_pair.result.1 l) (to_z w64 (of_z w64 c.push-2.result)) (c.lowered-second.ensures l known) (c.relaxed_pair.ensures.behind_size l known)
    (size_at_most c.push-2.result (push v c.args.run.now.force (opposite v c.args.i)) 663552 fits (c.push-2.ensures ∙ ap (push v c.args.run.now.force) c.opp.ensures)
    (push_small v c.args.run.now.force (opposite v c.args.i) g.met.V.VelocitySet.laws c.requires.force (g.met.V.VelocitySet.laws.opposite_exists c.args.i c.requires.known)))
