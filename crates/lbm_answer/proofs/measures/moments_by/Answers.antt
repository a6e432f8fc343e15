use Rattle.std.proofs.Common.{◌≡◌, ◌<◌, ◌-◌, ◌∙◌, ℕ, map, ap, arith}
use Rattle.std.specs.List.{range_with_len}
use Rattle.std.proofs.lemmas.Slice.Zip.{AllZip-map}
use Rattle.rayon.specs.Numbers.{nat_range}
use Rattle.rayon.proofs.ListFacts.{AllZip-weaken, IfOk-then}
use Rattle.rayon.proofs.ToStd.{nat_range-All}
use Rattle.lbm_space.specs.Torus.{cells}
use Rattle.lbm_cell.specs.declared.populations.Moment.{Moment}
use Rattle.lbm_model.specs.State.{flow_state}
use Rattle.lbm_answer.specs.Reports.{printed_moment, IsSmallMoment}
use Rattle.lbm_answer.proofs.Gathered.{AllZip-second}
use Rattle.lbm_answer.proofs.measures.moments_by.Goals as goal

pub collect-requires-clause-ready : goal.collect-requires-clause-ready
collect-requires-clause-ready g c κs within =
    let ends = c.into_par_iter.ensures in
    let count = c.cells.ensures.count ∙ ap cells c.space.ensures.value in
    let inside = nat_range-All (λ x. x < cells c.args.case.now.torus) 0 c.cells.result (λ x low high. omega (arith, count)) in
    rw (c.map.ensures.base, c.map.ensures.f, ends.0, ends.1) (λ k d lt. ((c.requires.set, (c.requires.state, inside k d lt)), λ y p. tt))

pub returns-clause-moments : goal.returns-clause-moments
returns-clause-moments g c =
    let ends = c.into_par_iter.ensures in
    let count = c.cells.ensures.count ∙ ap cells c.space.ensures.value in
    let whole : c.cells.result - 0 ≡ cells c.args.case.now.torus = omega (arith, count) in
    let printed = printed_moment c.args.case.now (flow_state g.V.VelocitySet.stencil.directions c.args.pops.now) in
    IfOk-then c.collect.result _ _ c.collect.ensures (λ v h.
    let chain = rw (c.map.ensures.base, c.map.ensures.f) at h.1 in
    let places = chain.1 ∙ (λ i. nat_range (ends.0 i) (ends.1 i)) ∙ ap (range_with_len 0) whole in
    let each = AllZip-weaken _ (λ (x : ℕ) (m : Moment). m ≡ printed x) (λ x m p. p.0) chain.0 h.0 chain.2 in
    h.2 ∙ AllZip-map printed chain.0 h.0 each ∙ ap (map printed) places)

pub returns-clause-small : goal.returns-clause-small
returns-clause-small g c =
    IfOk-then c.collect.result _ _ c.collect.ensures (λ v h.
    let chain = rw (c.map.ensures.base, c.map.ensures.f) at h.1 in
    rw h.2 (AllZip-second _ IsSmallMoment (λ x m p. p.1) chain.0 h.0 chain.2))
