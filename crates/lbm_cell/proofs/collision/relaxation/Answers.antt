use Rattle.std.proofs.Common.{◌<◌, ◌≤◌, ◌^◌, ℤ, pos, negsuc, ◌+ℤ◌, ◌-ℤ◌, ◌*ℤ◌, ◌<ℤ◌, ◌≤ℤ◌, unsigned_abs, FitsSigned, w64, arith, rules, lit<, refl}
use Rattle.std.proofs.lemmas.Int.{ints}
use Rattle.lbm_cell.proofs.Sizes.{clean, clean_sum, clean_difference, clean_product, room}
use Rattle.lbm_cell.proofs.Limits.{parts_small}
use Rattle.lbm_cell.proofs.collision.relaxation.Goals as goal

-- a rate is at most 1024
rate_small : (z : ℤ) → pos 0 <ℤ z → z ≤ℤ pos 1024 → unsigned_abs z ≤ 1024
rate_small z above at_most = omega (arith, ints)

-- a sum and a difference of two departures
sum_small : (a b : ℤ) → unsigned_abs a ≤ 2028908190892032 → unsigned_abs b ≤ 2028908190892032 → unsigned_abs (a +ℤ b) ≤ 4057816381784064
sum_small a b small_a small_b = omega (arith, ints)

difference_small : (a b : ℤ) → unsigned_abs a ≤ 2028908190892032 → unsigned_abs b ≤ 2028908190892032 → unsigned_abs (a -ℤ b) ≤ 4057816381784064
difference_small a b small_a small_b = omega (arith, ints)

-- at rates of at most 1024 the two parts are below 2^62 together
both_small : (p m a b : ℤ) → pos 0 <ℤ p → p ≤ℤ pos 1024 → pos 0 <ℤ m → m ≤ℤ pos 1024 → unsigned_abs a ≤ 2028908190892032 → unsigned_abs b ≤ 2028908190892032 → unsigned_abs (p *ℤ (a +ℤ b) +ℤ m *ℤ (a -ℤ b)) < 2 ^ 62
both_small (pos p) (pos m) a b above_p small_p above_m small_m small_a small_b =
    omega (arith, parts_small p m 512 2028908190892032 a b (omega (arith, ints)) (omega (arith, ints)) small_a small_b)
both_small (negsuc p) m a b above_p small_p above_m small_m small_a small_b = absurd (omega (arith, ints))
both_small p (negsuc m) a b above_p small_p above_m small_m small_a small_b = absurd (omega (arith, ints))

pub product-symmetric-requires : goal.product-symmetric-requires
product-symmetric-requires c =
    let fits_p : FitsSigned w64 c.p.result = search rules in
    let fits_s : FitsSigned w64 c.sum.result = search rules in
    let sum = clean_sum c.sum.result c.args.a c.args.b c.args.a c.args.b c.ranges.a c.ranges.b refl refl c.sum.ensures.value in
    room c.p.result c.sum.result c.args.rates.p (c.args.a +ℤ c.args.b) 1024 4057816381784064 (2 ^ 62) fits_p fits_s c.p.ensures.value sum
    (rate_small _ c.p.ensures.valid.p_above c.p.ensures.valid.p_at_most) (sum_small c.args.a c.args.b c.requires.a_small c.requires.b_small) (lit< tt)

pub product-antisymmetric-requires : goal.product-antisymmetric-requires
product-antisymmetric-requires c =
    let fits_m : FitsSigned w64 c.m.result = search rules in
    let fits_d : FitsSigned w64 c.difference.result = search rules in
    let difference = clean_difference c.difference.result c.args.a c.args.b c.args.a c.args.b c.ranges.a c.ranges.b refl refl c.difference.ensures.value in
    room c.m.result c.difference.result c.args.rates.m (c.args.a -ℤ c.args.b) 1024 4057816381784064 (2 ^ 62) fits_m fits_d c.m.ensures.value difference
    (rate_small _ c.m.ensures.valid.m_above c.m.ensures.valid.m_at_most) (difference_small c.args.a c.args.b c.requires.a_small c.requires.b_small) (lit< tt)

pub sum-requires-2 : goal.sum-requires-2
sum-requires-2 c =
    let fits_p : FitsSigned w64 c.p.result = search rules in
    let fits_s : FitsSigned w64 c.sum.result = search rules in
    let fits_m : FitsSigned w64 c.m.result = search rules in
    let fits_d : FitsSigned w64 c.difference.result = search rules in
    let fits_1 : FitsSigned w64 c.product-symmetric.result = search rules in
    let fits_2 : FitsSigned w64 c.product-antisymmetric.result = search rules in
    let sum = clean_sum c.sum.result c.args.a c.args.b c.args.a c.args.b c.ranges.a c.ranges.b refl refl c.sum.ensures.value in
    let difference = clean_difference c.difference.result c.args.a c.args.b c.args.a c.args.b c.ranges.a c.ranges.b refl refl c.difference.ensures.value in
    let symmetric = clean_product c.product-symmetric.result c.p.result c.sum.result c.args.rates.p (c.args.a +ℤ c.args.b) fits_p fits_s c.p.ensures.value sum c.product-symmetric.ensures.value in
    let antisymmetric = clean_product c.product-antisymmetric.result c.m.result c.difference.result c.args.rates.m (c.args.a -ℤ c.args.b) fits_m fits_d c.m.ensures.value difference c.product-antisymmetric.ensures.value in
    let valid = c.p.ensures.valid in
    rw (clean c.product-symmetric.result _ fits_1 symmetric, clean c.product-antisymmetric.result _ fits_2 antisymmetric)
    (both_small c.args.rates.p c.args.rates.m c.args.a c.args.b valid.p_above valid.p_at_most valid.m_above valid.m_at_most c.requires.a_small c.requires.b_small)
