-- One lane of a pair, by natural numbers.
use Rattle.std.proofs.Common.{◌≡◌, ℕ, ◌+◌, ◌-◌, ◌*◌, ◌/◌, ◌<◌, ◌≤◌, ℤ, pos, ◌+ℤ◌, ◌-ℤ◌, ◌*ℤ◌, unsigned_abs, ap, arith, ◌∙◌}
use Rattle.std.proofs.lemmas.Int.{ints}
use Rattle.std.proofs.Math.Nat.{lt-div-mul-add, div-mul-le_self, mul-le-mul_left, mul-le-mul_right}
use Rattle.std.proofs.lemmas.Nat.{mul-le}
use Rattle.lbm_cell.specs.Collision.{floor_div}
use Rattle.lbm_lanes.specs.Pairs.{shortfall, above, below, IsLane}
use Rattle.lbm_lanes.proofs.Expansion.{IsDifference, of_number, of_difference, restated}
use Rattle.lbm_lanes.proofs.PairFormula.{IsPair, dividend, dividend_is}
use Rattle.lbm_lanes.proofs.PairBounds.{IsHeld, IsRelaxed, pair_relaxed}

-- the dividend of a lane, and what relaxation adds
pub record IsDivided (d q more less : ℕ) (num divisor : ℤ) : Type 0 where
  pub order : less ≤ more
  pub small : more - less < 2 * (d * q) * 16777216
  pub value : floor_div num divisor ≡ pos ((more - less) / (2 * (d * q))) -ℤ pos 8388608

-- the remainder of a division
remainder : (n r : ℕ) → 0 < r → (n ≡ n / r * r + (n - n / r * r)) × (n - n / r * r < r)
remainder n r some =
    let low : n / r * r ≤ n = div-mul-le_self n r in
    let high : n < n / r * r + r = lt-div-mul-add some in
    (omega (arith, low), omega (arith, low, high))

raised_is : (x y : ℕ) → IsDifference (pos x -ℤ pos y) x y
raised_is x y = restated (of_difference (of_number x) (of_number y)) (omega arith)

-- a number that is less than 2^23 divisors, raised
lifted : (z : ℤ) (a b k r : ℕ) → r ≤ 1769472 → 0 < k → unsigned_abs z ≤ 4 * (k * r) → IsDifference z a b → (b ≤ a + k * 8388608) × (a + k * 8388608 - b < k * 16777216) × (z +ℤ pos (k * 8388608) ≡ pos (a + k * 8388608 - b))
lifted z a b k r dense some small is =
    let most : k * r ≤ k * 1769472 = mul-le-mul_left k dense in
    let order : b ≤ a + k * 8388608 = omega (arith, ints, is.is, small, most) in
    (order, omega (arith, ints, is.is, small, most, some), omega (arith, ints, is.is, order))

-- the bounds of a lane
pub record IsBounded (r base raised : ℕ) : Type 0 where
  pub thin : 442368 ≤ r
  pub dense : r ≤ 1769472
  pub least : base ≤ 11 * (r * r)
  pub forward : raised ≤ 8388608 + 3 * r
  pub backward : 8388608 ≤ raised + 3 * r
  pub small : raised ≤ 16777216

pub bounded : (w d p m q n r own base raised f o : ℕ) → IsLane w d p m q n r own base raised f o → IsBounded r base raised
bounded w d p m q n r own base raised f o is =
    let most : n * r ≤ 3 * r = mul-le-mul_right r is.axes in
    record {
      thin = is.not_thin;
      dense = is.not_dense;
      least = omega (arith, is.base_is);
      forward = omega (arith, most, is.forward);
      backward = omega (arith, most, is.backward);
      small = omega (arith, most, is.forward, is.not_dense);
    }

-- the opposite direction
pub opposite_lane : (w d p m q n r own base raised turned f o : ℕ) → turned ≡ 16777216 - raised → raised ≤ 16777216 → IsLane w d p m q n r own base raised f o → IsLane w d p m q n r own base turned o f
opposite_lane w d p m q n r own base raised turned f o is_turned within is = record {
  moves = is.moves;
  axes = is.axes;
  light = is.light;
  divides = is.divides;
  rated = is.rated;
  p_stable = is.p_stable;
  m_stable = is.m_stable;
  not_thin = is.not_thin;
  not_dense = is.not_dense;
  square = is.square;
  base_is = is.base_is;
  forward = omega (arith, is_turned, within, is.backward);
  backward = omega (arith, is_turned, within, is.forward);
  ahead = is.behind;
  behind = is.ahead;
}

pub turned_square : (square raised turned : ℕ) → turned + raised ≡ 16777216 → square + 16777216 * raised ≡ raised * raised + 70368744177664 → square + 16777216 * turned ≡ turned * turned + 70368744177664
turned_square square raised turned whole is =
    let times : turned * (turned + raised) ≡ turned * 16777216 = ap (λ (k : ℕ). turned * k) whole in
    let crosses : raised * (turned + raised) ≡ raised * 16777216 = ap (λ (k : ℕ). raised * k) whole in
    omega (arith, times, crosses, whole, is)

-- what both directions of a pair lose is less than 2^23 divisors
pub held_below : (w d p m q n r own base raised f o : ℕ) → IsLane w d p m q n r own base raised f o → 9 * (p * w) * r + p * d * (f + o) ≤ 2 * (d * q) * 8388608
held_below w d p m q n r own base raised f o is =
    let axes : 1 * 1 ≤ n * n = mul-le 1 1 n n is.moves is.moves in
    let least : w * 17 ≤ w * (2 + 6 * n + 9 * n * n) = mul-le-mul_left w (omega (arith, axes, is.moves)) in
    let light : w * 17 ≤ 2 * d = omega (arith, least, is.light) in
    let weights : p * r * (w * 17) ≤ p * r * (2 * d) = mul-le-mul_left (p * r) light in
    let both : p * d * (f + o) ≤ p * d * (2 * r) = mul-le-mul_left (p * d) (omega (arith, is.ahead, is.behind)) in
    let rates : d * r * p ≤ d * r * (2 * q) = mul-le-mul_left (d * r) is.p_stable in
    let dense : d * q * r ≤ d * q * 1769472 = mul-le-mul_left (d * q) is.not_dense in
    omega (arith, weights, both, rates, dense)

module _ (w d p m q n r own base raised f o square y shared : ℕ) (is : IsLane w d p m q n r own base raised f o)
    (is_square : square + 16777216 * raised ≡ raised * raised + 70368744177664) (is_y : y ≡ base + 9 * square) (is_shared : shared ≡ p * w * (y / r) + p * w * (y - y / r * r) / r) where
  e : ℕ
  e = y / r

  s : ℕ
  s = y - y / r * r

  some : 0 < r
  some = omega (arith, is.not_thin)

  pair : IsPair w p r own raised 8388608 (y / r) (y - y / r * r) (p * w * (y - y / r * r) / r) (p * w * (y - y / r * r) - p * w * (y - y / r * r) / r * r)
  pair = record {
    shared = omega (arith, (remainder y r some).0, is_y, is_square, is.base_is);
    scaled = (remainder (p * w * (y - y / r * r)) r some).0;
  }

  held : IsHeld w d r own f o n (pos raised -ℤ pos 8388608)
  held = record { moves = is.moves; light = is.light; along = omega (arith, ints, is.forward, is.backward); square = is.square; ahead = is.ahead; behind = is.behind; some = some }

  opposite : IsHeld w d r own o f n (pos 8388608 -ℤ pos raised)
  opposite = record { moves = is.moves; light = is.light; along = omega (arith, ints, is.forward, is.backward); square = is.square; ahead = is.behind; behind = is.ahead; some = some }

  relaxed : IsRelaxed d q r
      (pos p *ℤ (shortfall (pos w) (pos d) (pos r) (pos own) (pos raised -ℤ pos 8388608) (pos f) +ℤ shortfall (pos w) (pos d) (pos r) (pos own) (pos 8388608 -ℤ pos raised) (pos o))
      +ℤ pos m *ℤ (shortfall (pos w) (pos d) (pos r) (pos own) (pos raised -ℤ pos 8388608) (pos f) -ℤ shortfall (pos w) (pos d) (pos r) (pos own) (pos 8388608 -ℤ pos raised) (pos o)))
      (dividend w d p m r (pos raised -ℤ pos 8388608) f o (y / r) (p * w * (y - y / r * r) / r))
  relaxed = pair_relaxed w d p m q r own raised 8388608 f o n (y / r) (y - y / r * r) (p * w * (y - y / r * r) / r) (p * w * (y - y / r * r) - p * w * (y - y / r * r) / r * r)
      (pos raised -ℤ pos 8388608) (pos 8388608 -ℤ pos raised) is.divides is.rated is.p_stable is.m_stable held opposite pair (remainder (p * w * (y - y / r * r)) r some).1 (raised_is raised 8388608) (raised_is 8388608 raised)

  pub lane_divided : IsDivided d q (above (6 * m * w) (m * d) (2 * (d * q)) shared raised o) (below (p * w) (p * d) (6 * m * w) (m * d) r f o)
      (pos p *ℤ (shortfall (pos w) (pos d) (pos r) (pos own) (pos raised -ℤ pos 8388608) (pos f) +ℤ shortfall (pos w) (pos d) (pos r) (pos own) (pos 8388608 -ℤ pos raised) (pos o))
      +ℤ pos m *ℤ (shortfall (pos w) (pos d) (pos r) (pos own) (pos raised -ℤ pos 8388608) (pos f) -ℤ shortfall (pos w) (pos d) (pos r) (pos own) (pos 8388608 -ℤ pos raised) (pos o)))
      (pos 4 *ℤ (pos d *ℤ pos r *ℤ pos q))
  lane_divided =
      let more = above (6 * m * w) (m * d) (2 * (d * q)) shared raised o in
      let less = below (p * w) (p * d) (6 * m * w) (m * d) r f o in
      let z = dividend w d p m r (pos raised -ℤ pos 8388608) f o (y / r) (p * w * (y - y / r * r) / r) in
      let is_z : IsDifference z (shared + 6 * m * w * raised + m * d * o) less =
      restated (dividend_is w d p m r raised 8388608 f o (y / r) (p * w * (y - y / r * r) / r) (pos raised -ℤ pos 8388608) (raised_is raised 8388608)) (omega (arith, is_shared)) in
      let above_zero : 0 < 2 * (d * q) = omega (arith, mul-le 1 1 d q is.divides is.rated) in
      let up = lifted z (shared + 6 * m * w * raised + m * d * o) less (2 * (d * q)) r is.not_dense above_zero relaxed.small is_z in
      let sum : shared + 6 * m * w * raised + m * d * o + 2 * (d * q) * 8388608 ≡ more = omega arith in
      record {
        order = omega (arith, up.0, sum);
        small = rw (← sum) up.1;
        value = relaxed.value (more - less) (up.2 ∙ ap (λ (k : ℕ). pos (k - less)) sum);
      }
