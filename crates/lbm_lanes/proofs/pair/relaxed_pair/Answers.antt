use Rattle.std.proofs.Common.{◌≡◌, ◌+◌, ◌-◌, ◌*◌, ◌∙◌, ℕ, ℤ, pos, ◌+ℤ◌, ap, subst, arith}
use Rattle.std.specs.Prelude.{slice_index}
use Rattle.lbm_lanes.specs.Pairs.{IsLane}
use Rattle.lbm_lanes.proofs.Equilibria.{one_lane, one_change}
use Rattle.lbm_lanes.proofs.pair.relaxed_pair.Goals as goal

-- a lane by the square of its momentum that its base gives
own_lane : (w d n r own own' base raised f o : ℕ) → base + 3 * own' ≡ 11 * (r * r) → IsLane w d 1 1 1 n r own base raised f o → IsLane w d 1 1 1 n r own' base raised f o
own_lane w d n r own own' base raised f o given is =
    let same : own ≡ own' = omega (arith, is.base_is, given) in subst (λ (k : ℕ). IsLane w d 1 1 1 n r k base raised f o) same is

pub equilibria-requires-clause-lanes : goal.equilibria-requires-clause-lanes
equilibria-requires-clause-lanes g c l known =
    let lane = c.requires.lanes l known in let ones = c.requires.ones (c.is_at_once.ensures.one c.if-is_at_once.true) in
    (lane.0, lane.1, slice_index c.args.f l, slice_index c.args.o l, one_lane c.args.pair.now.weight c.args.pair.now.denominator c.args.pair.now.p c.args.pair.now.m c.args.pair.now.q lane.0 (slice_index c.args.cells.now.rho l) lane.1 (slice_index c.args.cells.now.base l) (slice_index c.args.raised l) (slice_index c.args.f l) (slice_index c.args.o l) ones.0 ones.1 ones.2 lane.2)

pub returns-then-is_at_once-clause-ahead : goal.returns-then-is_at_once-clause-ahead
returns-then-is_at_once-clause-ahead g c l own known given =
    let lane = c.requires.lanes l known in let ones = c.requires.ones (c.is_at_once.ensures.one c.if-is_at_once.true) in
    let one = one_lane c.args.pair.now.weight c.args.pair.now.denominator c.args.pair.now.p c.args.pair.now.m c.args.pair.now.q lane.0 (slice_index c.args.cells.now.rho l) lane.1 (slice_index c.args.cells.now.base l) (slice_index c.args.raised l) (slice_index c.args.f l) (slice_index c.args.o l) ones.0 ones.1 ones.2 lane.2 in
    c.equilibria.ensures.ahead l lane.0 own (slice_index c.args.f l) (slice_index c.args.o l) known (own_lane c.args.pair.now.weight c.args.pair.now.denominator lane.0 (slice_index c.args.cells.now.rho l) lane.1 own (slice_index c.args.cells.now.base l) (slice_index c.args.raised l) (slice_index c.args.f l) (slice_index c.args.o l) given one)
    ∙ ap (λ (z : ℤ). pos (slice_index c.args.f l) +ℤ z) (one_change c.args.pair.now.weight c.args.pair.now.denominator c.args.pair.now.p c.args.pair.now.m c.args.pair.now.q (slice_index c.args.cells.now.rho l) own (slice_index c.args.raised l) (slice_index c.args.f l) (slice_index c.args.o l) ones.0 ones.1 ones.2)

pub returns-then-is_at_once-clause-behind : goal.returns-then-is_at_once-clause-behind
returns-then-is_at_once-clause-behind g c l own known given =
    let lane = c.requires.lanes l known in let ones = c.requires.ones (c.is_at_once.ensures.one c.if-is_at_once.true) in
    let one = one_lane c.args.pair.now.weight c.args.pair.now.denominator c.args.pair.now.p c.args.pair.now.m c.args.pair.now.q lane.0 (slice_index c.args.cells.now.rho l) lane.1 (slice_index c.args.cells.now.base l) (slice_index c.args.raised l) (slice_index c.args.f l) (slice_index c.args.o l) ones.0 ones.1 ones.2 lane.2 in
    c.equilibria.ensures.behind l lane.0 own (slice_index c.args.f l) (slice_index c.args.o l) known (own_lane c.args.pair.now.weight c.args.pair.now.denominator lane.0 (slice_index c.args.cells.now.rho l) lane.1 own (slice_index c.args.cells.now.base l) (slice_index c.args.raised l) (slice_index c.args.f l) (slice_index c.args.o l) given one)
    ∙ ap (λ (z : ℤ). pos (slice_index c.args.o l) +ℤ z) (one_change c.args.pair.now.weight c.args.pair.now.denominator c.args.pair.now.p c.args.pair.now.m c.args.pair.now.q (slice_index c.args.cells.now.rho l) own (16777216 - slice_index c.args.raised l) (slice_index c.args.o l) (slice_index c.args.f l) ones.0 ones.1 ones.2)
