use Rattle.std.proofs.Common.{◌≤◌, ◌*◌, ℕ, arith}
use Rattle.std.specs.Prelude.{slice_index}
use Rattle.std.proofs.lemmas.Nat.{mul-le}
use Rattle.std.proofs.Math.Nat.{mul-le-mul_left}
use Rattle.lbm_lanes.proofs.Quotients.{times_turned}
use Rattle.lbm_lanes.proofs.pair.balances.Goals as goal

-- the products with a small weight
held_small : (w r : ℕ) → w ≤ 4 → r ≤ 1769472 → w * r ≤ 7077888
held_small w r light dense = mul-le w r 4 1769472 light dense

along_small : (w u : ℕ) → w ≤ 4 → u ≤ 16777216 → w * u ≤ 67108864
along_small w u light small = mul-le w u 4 16777216 light small

pub multiple-held-requires : goal.multiple-held-requires
multiple-held-requires c l known = omega (arith, held_small c.args.weight (slice_index c.args.rho l) c.requires.light (c.requires.not_dense l known))

pub sum-lifted-requires : goal.sum-lifted-requires
sum-lifted-requires c l known = omega (arith, c.requires.shared_small l known, c.all.ensures l known, c.requires.most)

pub difference-middle-requires : goal.difference-middle-requires
difference-middle-requires c l known =
    omega (arith, held_small c.args.weight (slice_index c.args.rho l) c.requires.light (c.requires.not_dense l known), c.multiple-held.ensures l known, c.sum-lifted.ensures l known, c.all.ensures l known, c.requires.light, c.requires.least)

pub narrow_multiple-along-requires-clause-numbers : goal.narrow_multiple-along-requires-clause-numbers
narrow_multiple-along-requires-clause-numbers c l known = omega (arith, c.requires.raised_small l known)

pub narrow_multiple-along-requires-clause-room : goal.narrow_multiple-along-requires-clause-room
narrow_multiple-along-requires-clause-room c l known = omega (arith, along_small c.args.weight (slice_index c.args.raised l) c.requires.light (c.requires.raised_small l known))

pub sum-ahead-requires : goal.sum-ahead-requires
sum-ahead-requires c l known =
    omega (arith, along_small c.args.weight (slice_index c.args.raised l) c.requires.light (c.requires.raised_small l known), c.narrow_multiple-along.ensures l known, c.difference-middle.ensures l known, c.sum-lifted.ensures l known, c.all.ensures l known, c.requires.shared_small l known, c.requires.most)

pub sum-whole-requires : goal.sum-whole-requires
sum-whole-requires c l known =
    omega (arith, c.difference-middle.ensures l known, c.sum-lifted.ensures l known, c.all.ensures l known, c.all-2.ensures l known, c.requires.shared_small l known, c.requires.most, c.requires.light)

pub difference-behind-requires : goal.difference-behind-requires
difference-behind-requires c l known =
    let most : c.args.weight * slice_index c.args.raised l ≤ c.args.weight * 16777216 = mul-le-mul_left c.args.weight (c.requires.raised_small l known) in
    omega (arith, most, c.narrow_multiple-along.ensures l known, c.sum-whole.ensures l known, c.all-2.ensures l known)

pub returns-clause-ahead : goal.returns-clause-ahead
returns-clause-ahead c l known =
    omega (arith, c.sum-ahead.ensures l known, c.narrow_multiple-along.ensures l known, c.difference-middle.ensures l known, c.multiple-held.ensures l known, c.sum-lifted.ensures l known, c.all.ensures l known)

pub returns-clause-behind : goal.returns-clause-behind
returns-clause-behind c l known =
    let turned = times_turned c.args.weight (slice_index c.args.raised l) (c.requires.raised_small l known) in
    omega (arith, turned, c.difference-behind.ensures l known, c.sum-whole.ensures l known, c.all-2.ensures l known, c.narrow_multiple-along.ensures l known, c.difference-middle.ensures l known, c.multiple-held.ensures l known, c.sum-lifted.ensures l known, c.all.ensures l known)
