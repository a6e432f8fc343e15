use Rattle.std.proofs.Common.{◌≡◌, ◌≤◌, ◌<◌, ◌+◌, ◌-◌, ◌*◌, ◌/◌, ◌∙◌, ℕ, pos, ◌-ℤ◌, ap, sym, arith, refl}
use Rattle.std.specs.Prelude.{slice_index}
use Rattle.lbm_lanes.specs.Pairs.{above, below, change, IsLane, IsShared}
use Rattle.lbm_lanes.proofs.PairLanes.{lane_divided, held_below, IsBounded, bounded, opposite_lane, turned_square}
use Rattle.lbm_lanes.proofs.pair.changes.Goals.{After-shared_part-shared}
use Rattle.lbm_lanes.proofs.pair.changes.Goals as goal

opposite_part : (even r base raised turned square y shared : ℕ) → turned + raised ≡ 16777216 → IsShared even r base raised square y shared → IsShared even r base turned square y shared
opposite_part even r base raised turned square y shared whole is = record { is_square = turned_square square raised turned whole is.is_square; is_y = is.is_y; is_shared = is.is_shared }

-- what is known of a lane, by numbers
record IsQuotient (w d p m q r base raised f o shared : ℕ) : Type 0 where
  dense : r ≤ 1769472
  ahead : f ≤ 1769472
  behind : o ≤ 1769472
  order : below (p * w) (p * d) (6 * m * w) (m * d) r f o ≤ above (6 * m * w) (m * d) (2 * (d * q)) shared raised o
  small : above (6 * m * w) (m * d) (2 * (d * q)) shared raised o - below (p * w) (p * d) (6 * m * w) (m * d) r f o < 2 * (d * q) * 16777216
  value : (own : ℕ) → base + 3 * own ≡ 11 * (r * r) →
      pos ((above (6 * m * w) (m * d) (2 * (d * q)) shared raised o - below (p * w) (p * d) (6 * m * w) (m * d) r f o) / (2 * (d * q))) -ℤ pos 8388608 ≡ change w d p m q r own raised f o

quotient : (w d p m q n r own base raised f o square y shared : ℕ) → IsLane w d p m q n r own base raised f o → IsShared (p * w) r base raised square y shared → IsQuotient w d p m q r base raised f o shared
quotient w d p m q n r own base raised f o square y shared is part =
    let divided = lane_divided w d p m q n r own base raised f o square y shared is part.is_square part.is_y part.is_shared in
    record {
      dense = is.not_dense;
      ahead = omega (arith, is.ahead, is.not_dense);
      behind = omega (arith, is.behind, is.not_dense);
      order = divided.order;
      small = divided.small;
      value = λ own' given. (let same : own ≡ own' = omega (arith, is.base_is, given) in sym divided.value ∙ ap (λ (k : ℕ). change w d p m q r k raised f o) same);
    }

-- the two directions of a lane
record IsPair (w d p m q r base raised f o shared : ℕ) : Type 0 where
  bounds : IsBounded r base raised
  ahead : IsQuotient w d p m q r base raised f o shared
  behind : IsQuotient w d p m q r base (16777216 - raised) o f shared
  held : 9 * (p * w) * r + p * d * (f + o) ≤ 2 * (d * q) * 8388608

pair : (w d p m q n r own base raised f o square y shared : ℕ) → IsLane w d p m q n r own base raised f o → IsShared (p * w) r base raised square y shared → IsPair w d p m q r base raised f o shared
pair w d p m q n r own base raised f o square y shared is part =
    let bounds = bounded w d p m q n r own base raised f o is in
    let turned : (16777216 - raised) + raised ≡ 16777216 = omega (arith, bounds.small) in
    record {
      bounds = bounds;
      ahead = quotient w d p m q n r own base raised f o square y shared is part;
      behind = quotient w d p m q n r own base (16777216 - raised) o f square y shared (opposite_lane w d p m q n r own base raised (16777216 - raised) f o refl bounds.small is) (opposite_part (p * w) r base raised (16777216 - raised) square y shared turned part);
      held = held_below w d p m q n r own base raised f o is;
    }

at : (c : After-shared_part-shared) (l : ℕ) → l < 8 → IsPair c.args.pair.now.weight c.args.pair.now.denominator c.args.pair.now.p c.args.pair.now.m c.args.pair.now.q (slice_index c.args.cells.now.rho l) (slice_index c.args.cells.now.base l) (slice_index c.args.raised l) (slice_index c.args.f l) (slice_index c.args.o l) (slice_index c.shared_part-shared.result l)
at c l known =
    let lane = c.requires.lanes l known in let part = c.shared_part-shared.ensures.value l known in
    pair c.args.pair.now.weight c.args.pair.now.denominator c.args.pair.now.p c.args.pair.now.m c.args.pair.now.q lane.0 (slice_index c.args.cells.now.rho l) lane.1 (slice_index c.args.cells.now.base l) (slice_index c.args.raised l) (slice_index c.args.f l) (slice_index c.args.o l)
    part.0 part.1 (slice_index c.shared_part-shared.result l) lane.2 part.2

pub shared_part-shared-requires-clause-not_thin : goal.shared_part-shared-requires-clause-not_thin
shared_part-shared-requires-clause-not_thin c l known =
    let lane = c.requires.lanes l known in
    (bounded c.args.pair.now.weight c.args.pair.now.denominator c.args.pair.now.p c.args.pair.now.m c.args.pair.now.q lane.0 (slice_index c.args.cells.now.rho l) lane.1 (slice_index c.args.cells.now.base l) (slice_index c.args.raised l) (slice_index c.args.f l) (slice_index c.args.o l) lane.2).thin

pub shared_part-shared-requires-clause-not_dense : goal.shared_part-shared-requires-clause-not_dense
shared_part-shared-requires-clause-not_dense c l known =
    let lane = c.requires.lanes l known in
    (bounded c.args.pair.now.weight c.args.pair.now.denominator c.args.pair.now.p c.args.pair.now.m c.args.pair.now.q lane.0 (slice_index c.args.cells.now.rho l) lane.1 (slice_index c.args.cells.now.base l) (slice_index c.args.raised l) (slice_index c.args.f l) (slice_index c.args.o l) lane.2).dense

pub shared_part-shared-requires-clause-base : goal.shared_part-shared-requires-clause-base
shared_part-shared-requires-clause-base c l known =
    let lane = c.requires.lanes l known in
    (bounded c.args.pair.now.weight c.args.pair.now.denominator c.args.pair.now.p c.args.pair.now.m c.args.pair.now.q lane.0 (slice_index c.args.cells.now.rho l) lane.1 (slice_index c.args.cells.now.base l) (slice_index c.args.raised l) (slice_index c.args.f l) (slice_index c.args.o l) lane.2).least

pub shared_part-shared-requires-clause-forward : goal.shared_part-shared-requires-clause-forward
shared_part-shared-requires-clause-forward c l known =
    let lane = c.requires.lanes l known in
    (bounded c.args.pair.now.weight c.args.pair.now.denominator c.args.pair.now.p c.args.pair.now.m c.args.pair.now.q lane.0 (slice_index c.args.cells.now.rho l) lane.1 (slice_index c.args.cells.now.base l) (slice_index c.args.raised l) (slice_index c.args.f l) (slice_index c.args.o l) lane.2).forward

pub shared_part-shared-requires-clause-backward : goal.shared_part-shared-requires-clause-backward
shared_part-shared-requires-clause-backward c l known =
    let lane = c.requires.lanes l known in
    (bounded c.args.pair.now.weight c.args.pair.now.denominator c.args.pair.now.p c.args.pair.now.m c.args.pair.now.q lane.0 (slice_index c.args.cells.now.rho l) lane.1 (slice_index c.args.cells.now.base l) (slice_index c.args.raised l) (slice_index c.args.f l) (slice_index c.args.o l) lane.2).backward

pub dividends-requires-clause-not_dense : goal.dividends-requires-clause-not_dense
dividends-requires-clause-not_dense c l known = (at (goal.at.dividends-requires-clause-not_dense c).After-shared_part-shared l known).bounds.dense

pub dividends-requires-clause-raised_small : goal.dividends-requires-clause-raised_small
dividends-requires-clause-raised_small c l known = (at (goal.at.dividends-requires-clause-raised_small c).After-shared_part-shared l known).bounds.small

pub dividends-requires-clause-f_small : goal.dividends-requires-clause-f_small
dividends-requires-clause-f_small c l known = (at (goal.at.dividends-requires-clause-f_small c).After-shared_part-shared l known).ahead.ahead

pub dividends-requires-clause-o_small : goal.dividends-requires-clause-o_small
dividends-requires-clause-o_small c l known = (at (goal.at.dividends-requires-clause-o_small c).After-shared_part-shared l known).ahead.behind

pub dividends-requires-clause-held_small : goal.dividends-requires-clause-held_small
dividends-requires-clause-held_small c l known =
    let k = c.factors-scales.ensures in rw (k.even, k.mean, k.divisor) (at (goal.at.dividends-requires-clause-held_small c).After-shared_part-shared l known).held

pub dividends-requires-clause-ahead_order : goal.dividends-requires-clause-ahead_order
dividends-requires-clause-ahead_order c l known =
    let k = c.factors-scales.ensures in rw (k.even, k.mean, k.speed, k.odd, k.divisor) (at (goal.at.dividends-requires-clause-ahead_order c).After-shared_part-shared l known).ahead.order

pub dividends-requires-clause-behind_order : goal.dividends-requires-clause-behind_order
dividends-requires-clause-behind_order c l known =
    let k = c.factors-scales.ensures in rw (k.even, k.mean, k.speed, k.odd, k.divisor) (at (goal.at.dividends-requires-clause-behind_order c).After-shared_part-shared l known).behind.order

pub quotient-ahead-requires-clause-small : goal.quotient-ahead-requires-clause-small
quotient-ahead-requires-clause-small c l known =
    let k = c.factors-scales.ensures in rw (c.dividends.ensures.ahead l known, k.even, k.mean, k.speed, k.odd, k.divisor, c.requires.divisor) (at (goal.at.quotient-ahead-requires-clause-small c).After-shared_part-shared l known).ahead.small

pub quotient-behind-requires-clause-small : goal.quotient-behind-requires-clause-small
quotient-behind-requires-clause-small c l known =
    let k = c.factors-scales.ensures in rw (c.dividends.ensures.behind l known, k.even, k.mean, k.speed, k.odd, k.divisor, c.requires.divisor) (at (goal.at.quotient-behind-requires-clause-small c).After-shared_part-shared l known).behind.small

pub returns-clause-ahead : goal.returns-clause-ahead
returns-clause-ahead c l own known given =
    let k = c.factors-scales.ensures in
    rw (c.quotient-ahead.ensures.value l known, c.dividends.ensures.ahead l known, k.even, k.mean, k.speed, k.odd, k.divisor, c.requires.divisor) ((at (goal.at.returns-clause-ahead c).After-shared_part-shared l known).ahead.value own given)

pub returns-clause-behind : goal.returns-clause-behind
returns-clause-behind c l own known given =
    let k = c.factors-scales.ensures in
    rw (c.quotient-behind.ensures.value l known, c.dividends.ensures.behind l known, k.even, k.mean, k.speed, k.odd, k.divisor, c.requires.divisor) ((at (goal.at.returns-clause-behind c).After-shared_part-shared l known).behind.value own given)
