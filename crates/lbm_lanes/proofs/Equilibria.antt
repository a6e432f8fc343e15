-- Rates of one take a population to its equilibrium, whatever it was.
use Rattle.std.proofs.Common.{◌≡◌, ℕ, ◌+◌, ◌-◌, ◌*◌, ◌/◌, ◌<◌, ◌≤◌, ℤ, pos, ◌+ℤ◌, ◌-ℤ◌, ap, sym, subst, arith, inl, inr, ◌∙◌}
use Rattle.std.proofs.lemmas.Int.{ints}
use Rattle.std.proofs.lemmas.Bool.{cases_lt}
use Rattle.std.proofs.lemmas.Nat.{mul-le, div_below}
use Rattle.std.proofs.Math.Nat.{mul-le-mul_left, mul-le-mul_right, lt-div-mul-add, div-mul-le_self}
use Rattle.lbm_lanes.specs.Pairs.{above, below, balance, change, IsLane}
use Rattle.lbm_lanes.proofs.Guess.{quotient_is}
use Rattle.lbm_lanes.proofs.Quotients.{parts_of, square_small}
use Rattle.lbm_lanes.proofs.PairLanes.{lane_divided}

-- a quotient by a reciprocal that is a little too great
pub record IsWritten (n k m : ℕ) : Type 0 where
  pub reciprocal : m ≤ 4164816773
  pub room : n * m < 2549037389091700736
  pub value : n * m / 137438953472 ≡ n / k

pub written : (n k m : ℕ) → 33 ≤ k → k ≤ 86 → m ≡ 137438953472 / k + 1 → n < k * 18546688 → IsWritten n k m
written n k m some few is small =
    let low : 137438953472 / k * k ≤ 137438953472 = div-mul-le_self 137438953472 k in
    let high : 137438953472 < 137438953472 / k * k + k = lt-div-mul-add (omega (arith, some)) in
    let times : m * k ≡ (137438953472 / k + 1) * k = ap (λ (x : ℕ). x * k) is in
    let over : 137438953472 ≤ m * k = omega (arith, high, times) in
    let near : m * k ≤ 137438953472 + k = omega (arith, low, times) in
    let least : n / k * k ≤ n = div-mul-le_self n k in
    let most : n < n / k * k + k = lt-div-mul-add (omega (arith, some)) in
    let quotient : n / k < 18546688 = div_below n k 18546688 (omega (arith, some)) (omega (arith, small)) in
    let one : n / k * 137438953472 ≤ n / k * (m * k) = mul-le-mul_left (n / k) over in
    let two : n / k * k * m ≤ n * m = mul-le-mul_right m least in
    let below : n * m < (n / k + 1) * 137438953472 = elim (cases_lt (n * m) ((n / k + 1) * 137438953472)) [
      | inl fine ↦ fine
      | inr past ↦ (
          let three : (n / k + 1) * 137438953472 * k ≤ n * m * k = mul-le-mul_right k past in
          let four : n * (m * k) ≤ n * (137438953472 + k) = mul-le-mul_left n near in
          let five : n * k ≤ k * 18546688 * k = mul-le-mul_right k (omega (arith, small)) in
          let six : k * k ≤ 86 * 86 = mul-le k k 86 86 few few in
          absurd (omega (arith, three, four, five, six, most)))
    ] in
    let reciprocal : 137438953472 / k < 4164816772 = div_below 137438953472 k 4164816772 (omega (arith, some)) (omega (arith, some)) in
    record {
      reciprocal = omega (arith, is, reciprocal);
      room = omega (arith, below, quotient);
      value = quotient_is (n * m) 137438953472 (n / k) (omega (arith, one, two)) below;
    }

-- the numerator of a light pair
pub light_numerator : (w d p m q n r own base raised f o square y : ℕ) → IsLane w d p m q n r own base raised f o → w ≤ 4 → d ≤ 40 → square + 16777216 * raised ≡ raised * raised + 70368744177664 → y ≡ base + 9 * square → w * y ≤ 92 * (r * r)
light_numerator w d p m q n r own base raised f o square y is light few is_square is_y =
    let most : square ≤ n * r * (n * r) = square_small square raised (n * r) is_square is.forward is.backward in
    let least : base ≤ 11 * (r * r) = omega (arith, is.base_is) in
    let moves : w * 1 ≤ w * n = mul-le-mul_left w is.moves in
    let factor : w * (11 + 9 * n * n) ≤ 92 = omega (arith, is.light, moves, light, few) in
    let squares : w * (11 + 9 * n * n) * (r * r) ≤ 92 * (r * r) = mul-le-mul_right (r * r) factor in
    let one : w * base ≤ w * (11 * (r * r)) = mul-le-mul_left w least in
    let two : w * square ≤ w * (n * r * (n * r)) = mul-le-mul_left w most in
    let whole : w * y ≡ w * (base + 9 * square) = ap (λ (k : ℕ). w * k) is_y in
    omega (arith, squares, one, two, whole)

-- a quotient to which a number is added
shifted : (a d f n : ℕ) → 0 < d → n ≡ a + 2 * d * f → n / (2 * d) ≡ a / (2 * (d * 1)) + f
shifted a d f n some is =
    let low : a / (2 * (d * 1)) * (2 * (d * 1)) ≤ a = div-mul-le_self a (2 * (d * 1)) in
    let high : a < a / (2 * (d * 1)) * (2 * (d * 1)) + 2 * (d * 1) = lt-div-mul-add (omega (arith, some)) in
    quotient_is n (2 * d) (a / (2 * (d * 1)) + f) (omega (arith, low, is)) (omega (arith, high, is))

-- the populations of a lane in equilibrium
pub record IsBalanced (w d r own raised f o shared : ℕ) : Type 0 where
  pub held : 9 * w * r ≤ shared + (2 * d - 6 * w) * 8388608
  pub small : balance w d r raised shared < 2 * d * 18546688
  pub value : pos (balance w d r raised shared / (2 * d)) -ℤ pos 8388608 ≡ pos f +ℤ change w d 1 1 1 r own raised f o

pub balanced : (w d n r own base raised f o square y shared : ℕ) → IsLane w d 1 1 1 n r own base raised f o → w ≤ 4 → 17 ≤ d → square + 16777216 * raised ≡ raised * raised + 70368744177664 → y ≡ base + 9 * square → shared ≡ w * y / r →
    IsBalanced w d r own raised f o shared
balanced w d n r own base raised f o square y shared is light least is_square is_y is_shared =
    let exact : y / r * r ≤ y = div-mul-le_self y r in
    let thin = is.not_thin in
    let parts : w * y / r ≡ w * (y / r) + w * (y - y / r * r) / r = parts_of w y r (y / r) (y - y / r * r) (omega (arith, thin)) (omega (arith, exact)) in
    let same : w ≡ 1 * w = omega arith in
    let scaled : shared ≡ 1 * w * (y / r) + 1 * w * (y - y / r * r) / r = is_shared ∙ parts ∙ ap (λ (k : ℕ). k * (y / r) + k * (y - y / r * r) / r) same in
    let divided = lane_divided w d 1 1 1 n r own base raised f o square y shared is is_square is_y scaled in
    let weights : w * r ≤ 4 * 1769472 = mul-le w r 4 1769472 light is.not_dense in
    let held : 9 * w * r ≤ shared + (2 * d - 6 * w) * 8388608 = omega (arith, weights, light, least) in
    let heights : 2 * d * f ≤ 2 * d * 1769472 = mul-le-mul_left (2 * d) (omega (arith, is.ahead, is.not_dense)) in
    let whole : balance w d r raised shared ≡ (above (6 * 1 * w) (1 * d) (2 * (d * 1)) shared raised o - below (1 * w) (1 * d) (6 * 1 * w) (1 * d) r f o) + 2 * d * f = omega (arith, held, divided.order, light, least) in
    let quotient = shifted (above (6 * 1 * w) (1 * d) (2 * (d * 1)) shared raised o - below (1 * w) (1 * d) (6 * 1 * w) (1 * d) r f o) d f (balance w d r raised shared) (omega (arith, least)) whole in
    record {
      held = held;
      small = omega (arith, whole, divided.small, heights);
      value = raised_sum (balance w d r raised shared / (2 * d)) _ f quotient ∙ ap (λ (z : ℤ). pos f +ℤ z) (sym divided.value);
    }
  where
    raised_sum : (n a f : ℕ) → n ≡ a + f → pos n -ℤ pos 8388608 ≡ pos f +ℤ (pos a -ℤ pos 8388608)
    raised_sum n a f is = omega (arith, ints, is)

-- a lane at rates of one
pub one_lane : (w d p m q n r own base raised f o : ℕ) → p ≡ 1 → m ≡ 1 → q ≡ 1 → IsLane w d p m q n r own base raised f o → IsLane w d 1 1 1 n r own base raised f o
one_lane w d p m q n r own base raised f o a b c is =
    let first : IsLane w d 1 m q n r own base raised f o = subst (λ (k : ℕ). IsLane w d k m q n r own base raised f o) a is in
    let second : IsLane w d 1 1 q n r own base raised f o = subst (λ (k : ℕ). IsLane w d 1 k q n r own base raised f o) b first in
    subst (λ (k : ℕ). IsLane w d 1 1 k n r own base raised f o) c second

pub one_change : (w d p m q r own raised f o : ℕ) → p ≡ 1 → m ≡ 1 → q ≡ 1 → change w d 1 1 1 r own raised f o ≡ change w d p m q r own raised f o
one_change w d p m q r own raised f o a b c =
    ap (λ (k : ℕ). change w d k 1 1 r own raised f o) (sym a) ∙ ap (λ (k : ℕ). change w d p k 1 r own raised f o) (sym b) ∙ ap (λ (k : ℕ). change w d p m k r own raised f o) (sym c)
