use Rattle.std.proofs.Common.{◌≡◌, ◌≤◌, ◌<◌, ◌+◌, ◌-◌, ◌*◌, ℕ, ap, arith, refl}
use Rattle.std.specs.Prelude.{slice_index}
use Rattle.std.proofs.lemmas.Nat.{mul-le}
use Rattle.lbm_lanes.proofs.Quotients.{scaled}
use Rattle.lbm_lanes.proofs.pair.dividends.Goals.{After-sum-held, After-sum-less}
use Rattle.lbm_lanes.proofs.pair.dividends.Goals as goal

held_from : (even mean rho f o a b both dense means held : ℕ) → both ≡ f + o → a ≡ 9 * even → dense ≡ a * rho → b ≡ mean → means ≡ b * both → held ≡ dense + means → held ≡ 9 * even * rho + mean * (f + o)
held_from even mean rho f o a b both dense means held is_both is_a is_dense is_b is_means is = rw (is, is_means, is_b, is_dense, is_a, is_both) refl

-- what both directions lose
held_is : (c : After-sum-held) (l : ℕ) → l < 8 → slice_index c.sum-held.result l ≡ 9 * c.args.factors.now.even * slice_index c.args.rho l + c.args.factors.now.mean * (slice_index c.args.f l + slice_index c.args.o l)
held_is c l known =
    let k = c.args.factors.now in
    held_from k.even k.mean (slice_index c.args.rho l) (slice_index c.args.f l) (slice_index c.args.o l) (slice_index c.all.result l) (slice_index c.all-2.result l) (slice_index c.sum-both.result l) (slice_index c.product-dense.result l) (slice_index c.product-mean.result l) (slice_index c.sum-held.result l)
    (c.sum-both.ensures l known) (c.all.ensures l known) (c.product-dense.ensures l known) (c.all-2.ensures l known) (c.product-mean.ensures l known) (c.sum-held.ensures l known)

-- the numbers of a lane: what is put to the middle, and what is taken off it
record IsSplit (speed odd divisor shared raised f o held middle more less : ℕ) : Type 0 where
  middle_is : middle + held ≡ shared + divisor * 8388608
  more_is : more ≡ speed * raised + odd * o
  less_is : less ≡ speed * 8388608 + odd * f
  middle_small : middle ≤ 74100000000000
  more_small : more ≤ 23000000000000
  less_small : less ≤ 12000000000000

split : (speed odd divisor shared raised f o a a' b c e lifted held middle along other own more less : ℕ) → speed ≤ 1327104 → odd ≤ 221184 → divisor ≤ 442368 → shared < 70368744177664 → raised ≤ 16777216 → f ≤ 1769472 → o ≤ 1769472 →
    e ≡ divisor * 8388608 → lifted ≡ shared + e → held ≤ lifted → middle ≡ lifted - held → a ≡ speed → along ≡ a * raised → b ≡ odd → other ≡ b * o → more ≡ along + other → c ≡ odd → own ≡ c * f → a' ≡ speed * 8388608 → less ≡ a' + own →
    IsSplit speed odd divisor shared raised f o held middle more less
split speed odd divisor shared raised f o a a' b c e lifted held middle along other own more less few_speed few_odd few_divisor small slow f_small o_small is_e is_lifted within is_middle is_a is_along is_b is_other is_more is_c is_own is_a' is_less =
    let more : more ≡ speed * raised + odd * o = rw (is_more, is_along, is_other, is_a, is_b) refl in
    let less : less ≡ speed * 8388608 + odd * f = rw (is_less, is_own, is_c, is_a') refl in
    record {
      middle_is = omega (arith, is_e, is_lifted, within, is_middle);
      more_is = more;
      less_is = less;
      middle_small = omega (arith, is_e, is_lifted, is_middle, small, few_divisor);
      more_small = omega (arith, more, mul-le speed raised 1327104 16777216 few_speed slow, mul-le odd o 221184 1769472 few_odd o_small);
      less_small = omega (arith, less, few_speed, mul-le odd f 221184 1769472 few_odd f_small);
    }

pub sum-more-requires : goal.sum-more-requires
sum-more-requires c l known =
    let k = c.args.factors.now in
    let along = scaled k.speed (slice_index c.all-4.result l) (slice_index c.args.raised l) (slice_index c.product-along.result l) (c.all-4.ensures l known) (c.product-along.ensures l known) in
    let other = scaled k.odd (slice_index c.all-5.result l) (slice_index c.args.o l) (slice_index c.product-other.result l) (c.all-5.ensures l known) (c.product-other.ensures l known) in
    omega (arith, along, other, mul-le k.speed (slice_index c.args.raised l) 1327104 16777216 c.requires.few_speed (c.requires.raised_small l known), mul-le k.odd (slice_index c.args.o l) 221184 1769472 c.requires.few_odd (c.requires.o_small l known))

pub difference-middle-requires : goal.difference-middle-requires
difference-middle-requires c l known = omega (arith, held_is (goal.at.difference-middle-requires c).After-sum-held l known, c.requires.held_small l known, c.sum-lifted.ensures l known, c.all-3.ensures l known)

lane : (c : After-sum-less) (l : ℕ) → l < 8 → slice_index c.sum-held.result l ≡ 9 * c.args.factors.now.even * slice_index c.args.rho l + c.args.factors.now.mean * (slice_index c.args.f l + slice_index c.args.o l) →
    IsSplit c.args.factors.now.speed c.args.factors.now.odd c.args.factors.now.divisor (slice_index c.args.shared l) (slice_index c.args.raised l) (slice_index c.args.f l) (slice_index c.args.o l) (slice_index c.sum-held.result l) (slice_index c.difference-middle.result l) (slice_index c.sum-more.result l) (slice_index c.sum-less.result l)
lane c l known held =
    let k = c.args.factors.now in
    split k.speed k.odd k.divisor (slice_index c.args.shared l) (slice_index c.args.raised l) (slice_index c.args.f l) (slice_index c.args.o l) (slice_index c.all-4.result l) (slice_index c.all-7.result l) (slice_index c.all-5.result l) (slice_index c.all-6.result l) (slice_index c.all-3.result l)
    (slice_index c.sum-lifted.result l) (slice_index c.sum-held.result l) (slice_index c.difference-middle.result l) (slice_index c.product-along.result l) (slice_index c.product-other.result l) (slice_index c.product-own.result l) (slice_index c.sum-more.result l) (slice_index c.sum-less.result l)
    c.requires.few_speed c.requires.few_odd c.requires.few_divisor (c.requires.shared_small l known) (c.requires.raised_small l known) (c.requires.f_small l known) (c.requires.o_small l known)
    (c.all-3.ensures l known) (c.sum-lifted.ensures l known) (omega (arith, held, c.requires.held_small l known, c.sum-lifted.ensures l known, c.all-3.ensures l known)) (c.difference-middle.ensures l known)
    (c.all-4.ensures l known) (c.product-along.ensures l known) (c.all-5.ensures l known) (c.product-other.ensures l known) (c.sum-more.ensures l known) (c.all-6.ensures l known) (c.product-own.ensures l known) (c.all-7.ensures l known) (c.sum-less.ensures l known)

-- the momentum against the velocity
turned : (k u : ℕ) → u ≤ 16777216 → k * (16777216 - u) + k * u ≡ k * 16777216
turned k u within = let whole : (16777216 - u) + u ≡ 16777216 = omega (arith, within) in let times : k * ((16777216 - u) + u) ≡ k * 16777216 = ap (λ (n : ℕ). k * n) whole in omega (arith, times)

pub sum-requires : goal.sum-requires
sum-requires c l known =
    let at = goal.at.sum-requires c in let is = lane at.After-sum-less l known (held_is at.After-sum-held l known) in omega (arith, is.middle_small, is.more_small)

pub sum-requires-2 : goal.sum-requires-2
sum-requires-2 c l known =
    let at = goal.at.sum-requires-2 c in let is = lane at.After-sum-less l known (held_is at.After-sum-held l known) in omega (arith, is.middle_small, is.less_small)

pub difference-ahead-requires : goal.difference-ahead-requires
difference-ahead-requires c l known =
    let at = goal.at.difference-ahead-requires c in let held = held_is at.After-sum-held l known in let is = lane at.After-sum-less l known held in
    omega (arith, held, is.middle_is, is.more_is, is.less_is, c.sum.ensures l known, c.requires.ahead_order l known)

pub difference-behind-requires : goal.difference-behind-requires
difference-behind-requires c l known =
    let at = goal.at.difference-behind-requires c in let held = held_is at.After-sum-held l known in let is = lane at.After-sum-less l known held in
    omega (arith, held, is.middle_is, is.more_is, is.less_is, turned c.args.factors.now.speed (slice_index c.args.raised l) (c.requires.raised_small l known), c.sum-2.ensures l known, c.requires.behind_order l known)

pub returns-clause-ahead : goal.returns-clause-ahead
returns-clause-ahead c l known =
    let at = goal.at.returns-clause-ahead c in let held = held_is at.After-sum-held l known in let is = lane at.After-sum-less l known held in
    omega (arith, held, is.middle_is, is.more_is, is.less_is, c.sum.ensures l known, c.difference-ahead.ensures l known, c.requires.ahead_order l known)

pub returns-clause-behind : goal.returns-clause-behind
returns-clause-behind c l known =
    let at = goal.at.returns-clause-behind c in let held = held_is at.After-sum-held l known in let is = lane at.After-sum-less l known held in
    omega (arith, held, is.middle_is, is.more_is, is.less_is, turned c.args.factors.now.speed (slice_index c.args.raised l) (c.requires.raised_small l known), c.sum-2.ensures l known, c.difference-behind.ensures l known, c.requires.behind_order l known)
