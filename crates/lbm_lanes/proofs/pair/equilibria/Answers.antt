use Rattle.std.proofs.Common.{◌≡◌, ◌≤◌, ◌<◌, ◌+◌, ◌-◌, ◌*◌, ◌/◌, ◌∙◌, ℕ, ap, arith, refl}
use Rattle.std.specs.Prelude.{slice_index}
use Rattle.std.proofs.lemmas.Nat.{mul-le, div_below}
use Rattle.lbm_lanes.specs.Pairs.{IsLane}
use Rattle.lbm_lanes.proofs.PairLanes.{bounded, opposite_lane, turned_square}
use Rattle.lbm_lanes.proofs.Equilibria.{IsBalanced, balanced, light_numerator}
use Rattle.lbm_lanes.proofs.pair.equilibria.Goals.{After-numerator-y, After-by_density-shared}
use Rattle.lbm_lanes.proofs.pair.equilibria.Goals as goal

dense_square : (r : ℕ) → r ≤ 1769472 → r * r ≤ 3131031158784
dense_square r dense = mul-le r r 1769472 1769472 dense dense

quotient_small : (x r : ℕ) → 442368 ≤ r → r ≤ 1769472 → x ≤ 92 * (r * r) → x / r < 70368744177664
quotient_small x r thin dense small =
    let below : x / r < 92 * r + 1 = div_below x r (92 * r + 1) (omega (arith, thin)) (omega (arith, small, thin)) in
    omega (arith, below, dense)

weighed : (c : After-numerator-y) (l : ℕ) → l < 8 → c.args.pair.now.weight * slice_index c.numerator-y.result l ≤ 92 * (slice_index c.args.cells.now.rho l * slice_index c.args.cells.now.rho l)
weighed c l known =
    let lane = c.requires.lanes l known in let part = c.numerator-y.ensures.value l known in
    light_numerator c.args.pair.now.weight c.args.pair.now.denominator 1 1 1 lane.0 (slice_index c.args.cells.now.rho l) lane.1 (slice_index c.args.cells.now.base l) (slice_index c.args.raised l) lane.2 lane.3 part.0 (slice_index c.numerator-y.result l) lane.4 c.requires.light c.requires.most part.1 part.2

shared_is : (c : After-by_density-shared) (l : ℕ) → l < 8 → slice_index c.by_density-shared.result l ≡ c.args.pair.now.weight * slice_index c.numerator-y.result l / slice_index c.args.cells.now.rho l
shared_is c l known = c.by_density-shared.ensures l known ∙ ap (λ (k : ℕ). k / slice_index c.args.cells.now.rho l) (c.multiple-weighed.ensures l known)

ahead : (c : After-by_density-shared) (l n own f o : ℕ) → l < 8 → IsLane c.args.pair.now.weight c.args.pair.now.denominator 1 1 1 n (slice_index c.args.cells.now.rho l) own (slice_index c.args.cells.now.base l) (slice_index c.args.raised l) f o → IsBalanced c.args.pair.now.weight c.args.pair.now.denominator (slice_index c.args.cells.now.rho l) own (slice_index c.args.raised l) f o (slice_index c.by_density-shared.result l)
ahead c l n own f o known lane =
    let part = c.numerator-y.ensures.value l known in
    balanced c.args.pair.now.weight c.args.pair.now.denominator n (slice_index c.args.cells.now.rho l) own (slice_index c.args.cells.now.base l) (slice_index c.args.raised l) f o part.0 (slice_index c.numerator-y.result l) (slice_index c.by_density-shared.result l) lane c.requires.light c.requires.least part.1 part.2 (shared_is c l known)

behind : (c : After-by_density-shared) (l n own f o : ℕ) → l < 8 → IsLane c.args.pair.now.weight c.args.pair.now.denominator 1 1 1 n (slice_index c.args.cells.now.rho l) own (slice_index c.args.cells.now.base l) (slice_index c.args.raised l) f o → IsBalanced c.args.pair.now.weight c.args.pair.now.denominator (slice_index c.args.cells.now.rho l) own (16777216 - slice_index c.args.raised l) o f (slice_index c.by_density-shared.result l)
behind c l n own f o known lane =
    let part = c.numerator-y.ensures.value l known in
    let small = (bounded c.args.pair.now.weight c.args.pair.now.denominator 1 1 1 n (slice_index c.args.cells.now.rho l) own (slice_index c.args.cells.now.base l) (slice_index c.args.raised l) f o lane).small in
    let turned : (16777216 - slice_index c.args.raised l) + slice_index c.args.raised l ≡ 16777216 = omega (arith, small) in
    balanced c.args.pair.now.weight c.args.pair.now.denominator n (slice_index c.args.cells.now.rho l) own (slice_index c.args.cells.now.base l) (16777216 - slice_index c.args.raised l) o f part.0 (slice_index c.numerator-y.result l) (slice_index c.by_density-shared.result l)
    (opposite_lane c.args.pair.now.weight c.args.pair.now.denominator 1 1 1 n (slice_index c.args.cells.now.rho l) own (slice_index c.args.cells.now.base l) (slice_index c.args.raised l) (16777216 - slice_index c.args.raised l) f o refl small lane) c.requires.light c.requires.least (turned_square part.0 (slice_index c.args.raised l) (16777216 - slice_index c.args.raised l) turned part.1) part.2 (shared_is c l known)

pub numerator-y-requires-clause-not_dense : goal.numerator-y-requires-clause-not_dense
numerator-y-requires-clause-not_dense c l known = let lane = c.requires.lanes l known in (bounded c.args.pair.now.weight c.args.pair.now.denominator 1 1 1 lane.0 (slice_index c.args.cells.now.rho l) lane.1 (slice_index c.args.cells.now.base l) (slice_index c.args.raised l) lane.2 lane.3 lane.4).dense

pub numerator-y-requires-clause-base : goal.numerator-y-requires-clause-base
numerator-y-requires-clause-base c l known = let lane = c.requires.lanes l known in (bounded c.args.pair.now.weight c.args.pair.now.denominator 1 1 1 lane.0 (slice_index c.args.cells.now.rho l) lane.1 (slice_index c.args.cells.now.base l) (slice_index c.args.raised l) lane.2 lane.3 lane.4).least

pub numerator-y-requires-clause-forward : goal.numerator-y-requires-clause-forward
numerator-y-requires-clause-forward c l known = let lane = c.requires.lanes l known in (bounded c.args.pair.now.weight c.args.pair.now.denominator 1 1 1 lane.0 (slice_index c.args.cells.now.rho l) lane.1 (slice_index c.args.cells.now.base l) (slice_index c.args.raised l) lane.2 lane.3 lane.4).forward

pub numerator-y-requires-clause-backward : goal.numerator-y-requires-clause-backward
numerator-y-requires-clause-backward c l known = let lane = c.requires.lanes l known in (bounded c.args.pair.now.weight c.args.pair.now.denominator 1 1 1 lane.0 (slice_index c.args.cells.now.rho l) lane.1 (slice_index c.args.cells.now.base l) (slice_index c.args.raised l) lane.2 lane.3 lane.4).backward

pub multiple-weighed-requires : goal.multiple-weighed-requires
multiple-weighed-requires c l known =
    let lane = c.requires.lanes l known in let part = c.numerator-y.ensures.value l known in
    let small = light_numerator c.args.pair.now.weight c.args.pair.now.denominator 1 1 1 lane.0 (slice_index c.args.cells.now.rho l) lane.1 (slice_index c.args.cells.now.base l) (slice_index c.args.raised l) lane.2 lane.3 part.0 (slice_index c.numerator-y.result l) lane.4 c.requires.light c.requires.most part.1 part.2 in
    omega (arith, small, dense_square (slice_index c.args.cells.now.rho l) lane.4.not_dense)

pub by_density-shared-requires-clause-not_thin : goal.by_density-shared-requires-clause-not_thin
by_density-shared-requires-clause-not_thin c l known = let lane = c.requires.lanes l known in (bounded c.args.pair.now.weight c.args.pair.now.denominator 1 1 1 lane.0 (slice_index c.args.cells.now.rho l) lane.1 (slice_index c.args.cells.now.base l) (slice_index c.args.raised l) lane.2 lane.3 lane.4).thin

pub by_density-shared-requires-clause-not_dense : goal.by_density-shared-requires-clause-not_dense
by_density-shared-requires-clause-not_dense c l known = let lane = c.requires.lanes l known in (bounded c.args.pair.now.weight c.args.pair.now.denominator 1 1 1 lane.0 (slice_index c.args.cells.now.rho l) lane.1 (slice_index c.args.cells.now.base l) (slice_index c.args.raised l) lane.2 lane.3 lane.4).dense

pub by_density-shared-requires-clause-small : goal.by_density-shared-requires-clause-small
by_density-shared-requires-clause-small c l known =
    omega (arith, weighed (goal.at.by_density-shared-requires-clause-small c).After-numerator-y l known, c.multiple-weighed.ensures l known)

pub balances-requires-clause-shared_small : goal.balances-requires-clause-shared_small
balances-requires-clause-shared_small c l known =
    let lane = c.requires.lanes l known in let at = goal.at.balances-requires-clause-shared_small c in
    let small = quotient_small (c.args.pair.now.weight * slice_index c.numerator-y.result l) (slice_index c.args.cells.now.rho l) lane.4.not_thin lane.4.not_dense (weighed at.After-numerator-y l known) in
    omega (arith, small, shared_is at.After-by_density-shared l known)

pub balances-requires-clause-not_dense : goal.balances-requires-clause-not_dense
balances-requires-clause-not_dense c l known = let lane = c.requires.lanes l known in (bounded c.args.pair.now.weight c.args.pair.now.denominator 1 1 1 lane.0 (slice_index c.args.cells.now.rho l) lane.1 (slice_index c.args.cells.now.base l) (slice_index c.args.raised l) lane.2 lane.3 lane.4).dense

pub balances-requires-clause-raised_small : goal.balances-requires-clause-raised_small
balances-requires-clause-raised_small c l known = let lane = c.requires.lanes l known in (bounded c.args.pair.now.weight c.args.pair.now.denominator 1 1 1 lane.0 (slice_index c.args.cells.now.rho l) lane.1 (slice_index c.args.cells.now.base l) (slice_index c.args.raised l) lane.2 lane.3 lane.4).small

pub by_written-ahead-requires-clause-small : goal.by_written-ahead-requires-clause-small
by_written-ahead-requires-clause-small c l known =
    let lane = c.requires.lanes l known in
    let is = ahead (goal.at.by_written-ahead-requires-clause-small c).After-by_density-shared l lane.0 lane.1 lane.2 lane.3 known lane.4 in
    omega (arith, is.small, c.balances.ensures.ahead l known)

pub by_written-behind-requires-clause-small : goal.by_written-behind-requires-clause-small
by_written-behind-requires-clause-small c l known =
    let lane = c.requires.lanes l known in
    let is = behind (goal.at.by_written-behind-requires-clause-small c).After-by_density-shared l lane.0 lane.1 lane.2 lane.3 known lane.4 in
    omega (arith, is.small, c.balances.ensures.behind l known)

pub returns-clause-ahead_size : goal.returns-clause-ahead_size
returns-clause-ahead_size c l known =
    let lane = c.requires.lanes l known in
    let is = ahead (goal.at.returns-clause-ahead_size c).After-by_density-shared l lane.0 lane.1 lane.2 lane.3 known lane.4 in
    let small : slice_index c.balances.result.0 l < 2 * c.args.pair.now.denominator * 18546688 = omega (arith, is.small, c.balances.ensures.ahead l known) in
    let below : slice_index c.balances.result.0 l / (2 * c.args.pair.now.denominator) < 18546688 = div_below (slice_index c.balances.result.0 l) (2 * c.args.pair.now.denominator) 18546688 (omega (arith, c.requires.least)) (omega (arith, small)) in
    omega (arith, below, c.by_written-ahead.ensures l known)

pub returns-clause-behind_size : goal.returns-clause-behind_size
returns-clause-behind_size c l known =
    let lane = c.requires.lanes l known in
    let is = behind (goal.at.returns-clause-behind_size c).After-by_density-shared l lane.0 lane.1 lane.2 lane.3 known lane.4 in
    let small : slice_index c.balances.result.1 l < 2 * c.args.pair.now.denominator * 18546688 = omega (arith, is.small, c.balances.ensures.behind l known) in
    let below : slice_index c.balances.result.1 l / (2 * c.args.pair.now.denominator) < 18546688 = div_below (slice_index c.balances.result.1 l) (2 * c.args.pair.now.denominator) 18546688 (omega (arith, c.requires.least)) (omega (arith, small)) in
    omega (arith, below, c.by_written-behind.ensures l known)

pub returns-clause-ahead : goal.returns-clause-ahead
returns-clause-ahead c l n own f o known lane =
    rw (c.by_written-ahead.ensures l known, c.balances.ensures.ahead l known) (ahead (goal.at.returns-clause-ahead c).After-by_density-shared l n own f o known lane).value

pub returns-clause-behind : goal.returns-clause-behind
returns-clause-behind c l n own f o known lane =
    rw (c.by_written-behind.ensures l known, c.balances.ensures.behind l known) (behind (goal.at.returns-clause-behind c).After-by_density-shared l n own f o known lane).value
