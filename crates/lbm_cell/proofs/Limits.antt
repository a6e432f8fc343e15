-- How large the numbers of a cell in limits are
use Rattle.std.proofs.Common.{◌≡◌, ℕ, zero, suc, ◌+◌, ◌-◌, ◌*◌, ◌/◌, ◌^◌, ◌<◌, ◌≤◌, ℤ, pos, negsuc, ◌+ℤ◌, ◌-ℤ◌, ◌*ℤ◌, ◌≤ℤ◌, ◌<ℤ◌, unsigned_abs, true, ◌&&◌, List, [], ◌∷◌, length, T, refl, ap, sym, subst, arith, inl, inr, lit<}
use Rattle.std.specs.Prelude.{IsTrue, int_le}
use Rattle.std.proofs.lemmas.Int.{ints}
use Rattle.std.proofs.lemmas.Bool.{cases_lt, and_parts}
use Rattle.std.proofs.lemmas.Nat.{mul-le, div_below}
use Rattle.std.proofs.Math.Nat.{mul-le-mul_left, mul-le-mul_right}
use borrow.Author.Differences.{up, down}
use Rattle.lbm_space.specs.Sum.{sum_below, all_below}
use Rattle.lbm_space.specs.Stencil.{Stencil, part, dot, velocity, weight, opposite, moving_axes, IsVelocitySet}
use Rattle.lbm_space.specs.Laws.{all_below_at}
use Rattle.lbm_cell.specs.Moments.{density, momentum, momentum_part, in_limits}
use Rattle.lbm_cell.specs.Collision.{RelaxationRates, IsRates, IsForce, floor_div, equilibrium_numerator, departure, relaxation, push, collision}
use Rattle.lbm_cell.proofs.Sizes.{product_size, unsigned_abs-add}
use Rattle.lbm_cell.proofs.Bounds.{IsNumerator, numerator_between, departure_between, sum_bounded, one_at_most, dot_size, dot-same, unit_dot_small, with_rest_small}

-- what the test of limits says
pub record InLimits (v : Stencil) (f : ℕ → ℤ) : Type 0 where
  pub not_negative : (i : ℕ) → i < v.directions → pos 0 ≤ℤ f i
  pub not_thin : pos 442368 ≤ℤ density v f
  pub not_dense : density v f ≤ℤ pos 1769472

at_most_from : (x y : ℤ) → int_le x y ≡ true → x ≤ℤ y
at_most_from x y passed = record { le = subst T (sym passed) tt }

pub InLimits-from_test : (v : Stencil) (f : ℕ → ℤ) → IsTrue (in_limits v f) → InLimits v f
InLimits-from_test v f h =
    let both : ((all_below v.directions (λ i. int_le (pos 0) (f i)) && int_le (pos 442368) (density v f)) ≡ true) × (int_le (density v f) (pos 1769472) ≡ true) = and_parts _ _ h in
    let low : (all_below v.directions (λ i. int_le (pos 0) (f i)) ≡ true) × (int_le (pos 442368) (density v f) ≡ true) = and_parts _ _ both.0 in
    record {
      not_negative = λ i known. at_most_from (pos 0) (f i) (all_below_at (λ k. int_le (pos 0) (f k)) v.directions low.0 i known);
      not_thin = at_most_from (pos 442368) (density v f) low.1;
      not_dense = at_most_from (density v f) (pos 1769472) both.1;
    }

-- each part of the momentum is at most the density
pub momentum_small : (v : Stencil) (f : ℕ → ℤ) (a : ℕ) → IsVelocitySet v → InLimits v f → a < 3 → unsigned_abs (momentum_part v f a) ≤ unsigned_abs (density v f)
momentum_small v f a laws limits axis = (sum_bounded v.directions (λ i. part (velocity v i) a) f (λ i known. laws.unit_parts i a known axis) limits.not_negative).smaller

-- the denominator is above 0
pub denominator_above : (v : Stencil) → IsVelocitySet v → pos 0 <ℤ v.denominator
denominator_above v laws =
    let first : pos 0 <ℤ weight v 0 = laws.positive_weights 0 laws.some_direction in
    let weights : (k : ℕ) → k < v.directions → pos 0 ≤ℤ weight v k = λ k known. (let h : pos 0 <ℤ weight v k = laws.positive_weights k known in omega (arith, ints)) in
    let total : (pos 0 ≤ℤ sum_below v.directions (λ i. weight v i)) × (weight v 0 ≤ℤ sum_below v.directions (λ i. weight v i)) = one_at_most v.directions (λ i. weight v i) weights 0 laws.some_direction in
    let at_least : weight v 0 ≤ℤ v.denominator = rw (← laws.whole) total.1 in
    omega (arith, ints)

-- a vector of three parts by its parts
three_parts : (u w : List ℤ) → length u ≡ 3 → length w ≡ 3 → part u 0 ≡ part w 0 → part u 1 ≡ part w 1 → part u 2 ≡ part w 2 → u ≡ w
three_parts (a ∷ b ∷ c ∷ []) (a' ∷ b' ∷ c' ∷ []) e e' x y z = cc
three_parts [] w e e' x y z = absurd (omega arith)
three_parts (a ∷ []) w e e' x y z = absurd (omega arith)
three_parts (a ∷ b ∷ []) w e e' x y z = absurd (omega arith)
three_parts (a ∷ b ∷ c ∷ d ∷ u) w e e' x y z = absurd (omega arith)
three_parts u [] e e' x y z = absurd (omega arith)
three_parts u (a ∷ []) e e' x y z = absurd (omega arith)
three_parts u (a ∷ b ∷ []) e e' x y z = absurd (omega arith)
three_parts u (a ∷ b ∷ c ∷ d ∷ w) e e' x y z = absurd (omega arith)

-- a direction other than 0 moves
pub moves : (v : Stencil) (i : ℕ) → IsVelocitySet v → 0 < i → i < v.directions → 1 ≤ moving_axes (velocity v i)
moves v i laws moving known = elim (cases_lt 0 (moving_axes (velocity v i))) [
  | inl some ↦ some
  | inr none ↦ (
      let x : part (velocity v i) 0 ≡ part (velocity v 0) 0 = zero_part _ _ (omega arith) (laws.rest 0 (lit< tt)) in
      let y : part (velocity v i) 1 ≡ part (velocity v 0) 1 = zero_part _ _ (omega arith) (laws.rest 1 (lit< tt)) in
      let z : part (velocity v i) 2 ≡ part (velocity v 0) 2 = zero_part _ _ (omega arith) (laws.rest 2 (lit< tt)) in
      let same : i ≡ 0 = laws.distinct i 0 known laws.some_direction (three_parts (velocity v i) (velocity v 0) (laws.three_parts i known) (laws.three_parts 0 laws.some_direction) x y z) in
      absurd (omega arith))
]
  where
    zero_part : (a b : ℤ) → unsigned_abs a ≡ 0 → b ≡ pos 0 → a ≡ b
    zero_part a b none rest = omega (arith, ints)

-- a departure, by its parts
departure_by_parts : (w d rho x : ℤ) (j c : List ℤ) → pos 0 ≤ℤ w → pos 0 ≤ℤ d → pos 0 ≤ℤ rho → pos 0 ≤ℤ x → x ≤ℤ rho → 1 ≤ moving_axes c →
    unsigned_abs (part j 0) ≤ unsigned_abs rho → unsigned_abs (part j 1) ≤ unsigned_abs rho → unsigned_abs (part j 2) ≤ unsigned_abs rho →
    (w *ℤ pos (2 + 6 * moving_axes c + 9 * moving_axes c * moving_axes c)) ≤ℤ (pos 2 *ℤ d) →
    unsigned_abs (w *ℤ equilibrium_numerator rho j c -ℤ pos 2 *ℤ (d *ℤ rho *ℤ x)) ≤ 3 * (unsigned_abs d * (unsigned_abs rho * unsigned_abs rho))
departure_by_parts (pos w) (pos d) (pos r) (pos g) j c above_w above_d above_rho above_x part_x moving small_x small_y small_z light =
    let s = unsigned_abs (part j 0) * unsigned_abs (part j 0) + unsigned_abs (part j 1) * unsigned_abs (part j 1) + unsigned_abs (part j 2) * unsigned_abs (part j 2) in
    let small_s : s ≤ 3 * (r * r) = omega (arith, mul-le _ _ r r small_x small_x, mul-le _ _ r r small_y small_y, mul-le _ _ r r small_z small_z) in
    let numerator : IsNumerator r (moving_axes c) (equilibrium_numerator (pos r) j c) = rw (dot-same j) (numerator_between r s (moving_axes c) (dot c j) (dot_size c j r small_x small_y small_z) small_s) in
    departure_between w d r g (moving_axes c) (equilibrium_numerator (pos r) j c) numerator (omega (arith, ints)) moving (omega (arith, ints))
departure_by_parts (negsuc w) d rho x j c above_w above_d above_rho above_x part_x moving small_x small_y small_z light = absurd (omega (arith, ints))
departure_by_parts w (negsuc d) rho x j c above_w above_d above_rho above_x part_x moving small_x small_y small_z light = absurd (omega (arith, ints))
departure_by_parts w d (negsuc r) x j c above_w above_d above_rho above_x part_x moving small_x small_y small_z light = absurd (omega (arith, ints))
departure_by_parts w d rho (negsuc g) j c above_w above_d above_rho above_x part_x moving small_x small_y small_z light = absurd (omega (arith, ints))

-- a departure is at most 3 den rho^2 in size
pub departure_small : (v : Stencil) (f : ℕ → ℤ) (i : ℕ) → IsVelocitySet v → InLimits v f → 0 < i → i < v.directions →
    unsigned_abs (departure v f i) ≤ 3 * (unsigned_abs v.denominator * (unsigned_abs (density v f) * unsigned_abs (density v f)))
departure_small v f i laws limits moving known =
    let w_above : pos 0 <ℤ weight v i = laws.positive_weights i known in
    let d_above : pos 0 <ℤ v.denominator = denominator_above v laws in
    let total = one_at_most v.directions f limits.not_negative i known in
    departure_by_parts (weight v i) v.denominator (density v f) (f i) (momentum v f) (velocity v i) (omega (arith, ints)) (omega (arith, ints)) total.0 (limits.not_negative i known) total.1
    (moves v i laws moving known) (momentum_small v f 0 laws limits (lit< tt)) (momentum_small v f 1 laws limits (lit< tt)) (momentum_small v f 2 laws limits (lit< tt)) (laws.light i moving known)

-- a product with the two parts of a sum and of a difference
scaled : (p : ℕ) (a b : ℤ) → p * up (a +ℤ b) + p * down a + p * down b ≡ p * down (a +ℤ b) + p * up a + p * up b
scaled p a b = let e : up (a +ℤ b) + down a + down b ≡ down (a +ℤ b) + up a + up b = omega (arith, ints) in omega (arith, ap (λ (k : ℕ). p * k) e)

scaled_difference : (p : ℕ) (a b : ℤ) → p * up (a -ℤ b) + p * down a + p * up b ≡ p * down (a -ℤ b) + p * up a + p * down b
scaled_difference p a b = let e : up (a -ℤ b) + down a + up b ≡ down (a -ℤ b) + up a + down b = omega (arith, ints) in omega (arith, ap (λ (k : ℕ). p * k) e)

-- p (a + b) + (p + k) (a - b) = (2 p + k) a - k b
wide : (p k size : ℕ) (a b : ℤ) → unsigned_abs a ≤ size → unsigned_abs b ≤ size → unsigned_abs (pos p *ℤ (a +ℤ b) +ℤ pos (p + k) *ℤ (a -ℤ b)) ≤ 2 * ((p + k) * size)
wide p k size a b small_a small_b =
    let a_up : (2 * p + k) * up a ≤ (2 * p + k) * (down a + size) = mul-le-mul_left (2 * p + k) (omega (arith, ints)) in
    let a_down : (2 * p + k) * down a ≤ (2 * p + k) * (up a + size) = mul-le-mul_left (2 * p + k) (omega (arith, ints)) in
    let b_up : k * up b ≤ k * (down b + size) = mul-le-mul_left k (omega (arith, ints)) in
    let b_down : k * down b ≤ k * (up b + size) = mul-le-mul_left k (omega (arith, ints)) in
    omega (arith, ints, scaled p a b, scaled_difference (p + k) a b)

narrow : (m k size : ℕ) (a b : ℤ) → unsigned_abs a ≤ size → unsigned_abs b ≤ size → unsigned_abs (pos (m + k) *ℤ (a +ℤ b) +ℤ pos m *ℤ (a -ℤ b)) ≤ 2 * ((m + k) * size)
narrow m k size a b small_a small_b =
    let a_up : (2 * m + k) * up a ≤ (2 * m + k) * (down a + size) = mul-le-mul_left (2 * m + k) (omega (arith, ints)) in
    let a_down : (2 * m + k) * down a ≤ (2 * m + k) * (up a + size) = mul-le-mul_left (2 * m + k) (omega (arith, ints)) in
    let b_up : k * up b ≤ k * (down b + size) = mul-le-mul_left k (omega (arith, ints)) in
    let b_down : k * down b ≤ k * (up b + size) = mul-le-mul_left k (omega (arith, ints)) in
    omega (arith, ints, scaled (m + k) a b, scaled_difference m a b)

-- the two parts of a relaxation together
pub parts_small : (p m q size : ℕ) (a b : ℤ) → p ≤ 2 * q → m ≤ 2 * q → unsigned_abs a ≤ size → unsigned_abs b ≤ size → unsigned_abs (pos p *ℤ (a +ℤ b) +ℤ pos m *ℤ (a -ℤ b)) ≤ 4 * (q * size)
parts_small p m q size a b p_most m_most small_a small_b = elim (cases_lt p m) [
  | inl less ↦ (
      let k = m - p in
      let e : m ≡ p + k = omega arith in
      let top : m * size ≤ 2 * q * size = mul-le-mul_right size m_most in
      let sum : unsigned_abs (pos p *ℤ (a +ℤ b) +ℤ pos (p + k) *ℤ (a -ℤ b)) ≤ 2 * ((p + k) * size) = wide p k size a b small_a small_b in
      let sum_m : unsigned_abs (pos p *ℤ (a +ℤ b) +ℤ pos m *ℤ (a -ℤ b)) ≤ 2 * (m * size) = rw e sum in
      omega (arith, sum_m, top))
  | inr more ↦ (
      let k = p - m in
      let e : p ≡ m + k = omega arith in
      let top : p * size ≤ 2 * q * size = mul-le-mul_right size p_most in
      let sum : unsigned_abs (pos (m + k) *ℤ (a +ℤ b) +ℤ pos m *ℤ (a -ℤ b)) ≤ 2 * ((m + k) * size) = narrow m k size a b small_a small_b in
      let sum_p : unsigned_abs (pos p *ℤ (a +ℤ b) +ℤ pos m *ℤ (a -ℤ b)) ≤ 2 * (p * size) = rw e sum in
      omega (arith, sum_p, top))
]

-- a quotient is no larger than its bound
pub floor_div_small : (x : ℤ) (d k : ℕ) → 0 < d → unsigned_abs x ≤ d * k → unsigned_abs (floor_div x (pos d)) ≤ k
floor_div_small (pos a) d k some small = le_of_div a d k some small
  where
    le_of_div : (a d k : ℕ) → 0 < d → a ≤ d * k → a / d ≤ k
    le_of_div a d k some small = let below : a / d < k + 1 = div_below a d (k + 1) some (omega arith) in omega arith
floor_div_small (negsuc a) d k some small = div_below a d k some (omega arith)

-- the weights and the denominator are at most 216
pub weight_small : (v : Stencil) (i : ℕ) → IsVelocitySet v → i < v.directions → unsigned_abs (weight v i) ≤ 216
weight_small v i laws known =
    let weights : (k : ℕ) → k < v.directions → pos 0 ≤ℤ weight v k = λ k known. (let h : pos 0 <ℤ weight v k = laws.positive_weights k known in omega (arith, ints)) in
    let total : (pos 0 ≤ℤ sum_below v.directions (λ k. weight v k)) × (weight v i ≤ℤ sum_below v.directions (λ k. weight v k)) = one_at_most v.directions (λ k. weight v k) weights i known in
    let at_most : weight v i ≤ℤ v.denominator = rw (← laws.whole) total.1 in
    let above : pos 0 <ℤ weight v i = laws.positive_weights i known in
    let small : v.denominator ≤ℤ pos 216 = laws.small_denominator in
    omega (arith, ints)

pub denominator_small : (v : Stencil) → IsVelocitySet v → unsigned_abs v.denominator ≤ 216
denominator_small v laws =
    let above : pos 0 <ℤ v.denominator = denominator_above v laws in
    let small : v.denominator ≤ℤ pos 216 = laws.small_denominator in
    omega (arith, ints)

-- the density and each population of a cell in limits
pub density_small : (v : Stencil) (f : ℕ → ℤ) → InLimits v f → unsigned_abs (density v f) ≤ 1769472
density_small v f limits =
    let thin : pos 442368 ≤ℤ density v f = limits.not_thin in
    let dense : density v f ≤ℤ pos 1769472 = limits.not_dense in
    omega (arith, ints)

pub population_small : (v : Stencil) (f : ℕ → ℤ) (i : ℕ) → InLimits v f → i < v.directions → unsigned_abs (f i) ≤ 1769472
population_small v f i limits known =
    let total : (pos 0 ≤ℤ density v f) × (f i ≤ℤ density v f) = one_at_most v.directions f limits.not_negative i known in
    let above : pos 0 ≤ℤ f i = limits.not_negative i known in
    let dense : density v f ≤ℤ pos 1769472 = limits.not_dense in
    omega (arith, ints)

pub momentum_at_most : (v : Stencil) (f : ℕ → ℤ) → IsVelocitySet v → InLimits v f → (a : ℕ) → a < 3 → unsigned_abs (part (momentum v f) a) ≤ 1769472
momentum_at_most v f laws limits zero axis = omega (arith, momentum_small v f 0 laws limits (lit< tt), density_small v f limits)
momentum_at_most v f laws limits (suc zero) axis = omega (arith, momentum_small v f 1 laws limits (lit< tt), density_small v f limits)
momentum_at_most v f laws limits (suc (suc zero)) axis = omega (arith, momentum_small v f 2 laws limits (lit< tt), density_small v f limits)
momentum_at_most v f laws limits (suc (suc (suc a))) axis = absurd (omega arith)

-- the opposite of a moving direction moves
pub opposite_moves : (v : Stencil) (i : ℕ) → IsVelocitySet v → 0 < i → i < v.directions → 0 < opposite v i
opposite_moves v i laws moving known = elim (cases_lt 0 (opposite v i)) [
  | inl some ↦ some
  | inr none ↦ (
      let is_rest : opposite v i ≡ 0 = omega arith in
      let turned : opposite v 0 ≡ i = rw is_rest at (laws.opposite_twice i known) in
      let x : unsigned_abs (part (velocity v i) 0) ≡ 0 = rest_part v i laws turned 0 (lit< tt) in
      let y : unsigned_abs (part (velocity v i) 1) ≡ 0 = rest_part v i laws turned 1 (lit< tt) in
      let z : unsigned_abs (part (velocity v i) 2) ≡ 0 = rest_part v i laws turned 2 (lit< tt) in
      absurd (omega (arith, moves v i laws moving known)))
]
  where
    rest_part : (v : Stencil) (i : ℕ) → IsVelocitySet v → opposite v 0 ≡ i → (a : ℕ) → a < 3 → unsigned_abs (part (velocity v i) a) ≡ 0
    rest_part v i laws turned a axis = rw (← turned, laws.opposite_velocity 0 a laws.some_direction axis, laws.rest a axis) refl

-- relaxation adds at most three times the density
relaxation_by_parts : (p m q d rho a b : ℤ) → pos 0 <ℤ p → pos 0 <ℤ m → pos 0 <ℤ q → pos 0 <ℤ d → pos 0 <ℤ rho → p <ℤ (pos 2 *ℤ q) → m <ℤ (pos 2 *ℤ q) →
    unsigned_abs a ≤ 3 * (unsigned_abs d * (unsigned_abs rho * unsigned_abs rho)) → unsigned_abs b ≤ 3 * (unsigned_abs d * (unsigned_abs rho * unsigned_abs rho)) →
    unsigned_abs (floor_div (p *ℤ (a +ℤ b) +ℤ m *ℤ (a -ℤ b)) (pos 4 *ℤ (d *ℤ rho *ℤ q))) ≤ 3 * unsigned_abs rho
relaxation_by_parts (pos p) (pos m) (pos (suc q)) (pos (suc d)) (pos (suc r)) a b above_p above_m above_q above_d above_r p_stable m_stable small_a small_b =
    let size = 3 * (suc d * (suc r * suc r)) in
    let parts : unsigned_abs (pos p *ℤ (a +ℤ b) +ℤ pos m *ℤ (a -ℤ b)) ≤ 4 * (suc q * size) = parts_small p m (suc q) size a b (omega (arith, ints)) (omega (arith, ints)) small_a small_b in
    let some : 1 * 1 ≤ suc d * suc r = mul-le 1 1 (suc d) (suc r) (omega arith) (omega arith) in
    let more : 1 * 1 ≤ suc d * suc r * suc q = mul-le 1 1 (suc d * suc r) (suc q) (omega arith) (omega arith) in
    floor_div_small (pos p *ℤ (a +ℤ b) +ℤ pos m *ℤ (a -ℤ b)) (4 * (suc d * suc r * suc q)) (3 * suc r) (omega (arith, more)) (omega (arith, parts))
relaxation_by_parts (negsuc p) m q d rho a b above_p above_m above_q above_d above_r p_stable m_stable small_a small_b = absurd (omega (arith, ints))
relaxation_by_parts p (negsuc m) q d rho a b above_p above_m above_q above_d above_r p_stable m_stable small_a small_b = absurd (omega (arith, ints))
relaxation_by_parts p m (negsuc q) d rho a b above_p above_m above_q above_d above_r p_stable m_stable small_a small_b = absurd (omega (arith, ints))
relaxation_by_parts p m (pos zero) d rho a b above_p above_m above_q above_d above_r p_stable m_stable small_a small_b = absurd (omega (arith, ints))
relaxation_by_parts p m q (negsuc d) rho a b above_p above_m above_q above_d above_r p_stable m_stable small_a small_b = absurd (omega (arith, ints))
relaxation_by_parts p m q (pos zero) rho a b above_p above_m above_q above_d above_r p_stable m_stable small_a small_b = absurd (omega (arith, ints))
relaxation_by_parts p m q d (negsuc r) a b above_p above_m above_q above_d above_r p_stable m_stable small_a small_b = absurd (omega (arith, ints))
relaxation_by_parts p m q d (pos zero) a b above_p above_m above_q above_d above_r p_stable m_stable small_a small_b = absurd (omega (arith, ints))

pub relaxation_small : (v : Stencil) (r : RelaxationRates) (f : ℕ → ℤ) (i : ℕ) → IsVelocitySet v → IsRates r → InLimits v f → 0 < i → i < v.directions →
    unsigned_abs (relaxation v r f i) ≤ 3 * unsigned_abs (density v f)
relaxation_small v r f i laws allowed limits moving known =
    let thin : pos 442368 ≤ℤ density v f = limits.not_thin in
    relaxation_by_parts r.p r.m r.q v.denominator (density v f) (departure v f i) (departure v f (opposite v i)) allowed.p_above allowed.m_above allowed.q_above (denominator_above v laws) (omega (arith, ints)) allowed.p_stable allowed.m_stable
    (departure_small v f i laws limits moving known) (departure_small v f (opposite v i) laws limits (opposite_moves v i laws moving known) (laws.opposite_exists i known))

-- a departure by numbers
pub departure_number : (v : Stencil) (f : ℕ → ℤ) (i : ℕ) → IsVelocitySet v → InLimits v f → 0 < i → i < v.directions → unsigned_abs (departure v f i) ≤ 2028908190892032
departure_number v f i laws limits moving known =
    let rho = density_small v f limits in
    let squares = mul-le (unsigned_abs (density v f)) (unsigned_abs (density v f)) 1769472 1769472 rho rho in
    let whole = mul-le (unsigned_abs v.denominator) (unsigned_abs (density v f) * unsigned_abs (density v f)) 216 (1769472 * 1769472) (denominator_small v laws) squares in
    omega (arith, departure_small v f i laws limits moving known, whole)

-- the divisor of a relaxation is above 0
pub divisor_above : (d rho q : ℤ) → pos 0 <ℤ d → pos 0 <ℤ rho → pos 0 <ℤ q → pos 0 <ℤ (pos 4 *ℤ (d *ℤ rho *ℤ q))
divisor_above (pos (suc d)) (pos (suc r)) (pos (suc q)) above_d above_r above_q =
    let some : 1 * 1 ≤ suc d * suc r = mul-le 1 1 (suc d) (suc r) (omega arith) (omega arith) in
    let more : 1 * 1 ≤ suc d * suc r * suc q = mul-le 1 1 (suc d * suc r) (suc q) (omega arith) (omega arith) in
    omega (arith, ints, more)
divisor_above (negsuc d) rho q above_d above_r above_q = absurd (omega (arith, ints))
divisor_above (pos zero) rho q above_d above_r above_q = absurd (omega (arith, ints))
divisor_above d (negsuc r) q above_d above_r above_q = absurd (omega (arith, ints))
divisor_above d (pos zero) q above_d above_r above_q = absurd (omega (arith, ints))
divisor_above d rho (negsuc q) above_d above_r above_q = absurd (omega (arith, ints))
divisor_above d rho (pos zero) above_d above_r above_q = absurd (omega (arith, ints))

pub density_above : (v : Stencil) (f : ℕ → ℤ) → InLimits v f → pos 0 <ℤ density v f
density_above v f limits = let thin : pos 442368 ≤ℤ density v f = limits.not_thin in omega (arith, ints)

-- a force is at most 1024 on each axis, and adds at most 663552
pub force_small : (u : List ℤ) → IsForce u → (a : ℕ) → a < 3 → unsigned_abs (part u a) ≤ 1024
force_small u force zero axis = force.x_small
force_small u force (suc zero) axis = force.y_small
force_small u force (suc (suc zero)) axis = force.z_small
force_small u force (suc (suc (suc a))) axis = absurd (omega arith)

pub push_small : (v : Stencil) (u : List ℤ) (i : ℕ) → IsVelocitySet v → IsForce u → i < v.directions → unsigned_abs (push v u i) ≤ 663552
push_small v u i laws force known =
    product_size (weight v i) (dot (velocity v i) u) 216 3072 (weight_small v i laws known)
    (unit_dot_small (velocity v i) u 1024 (λ a axis. laws.unit_parts i a known axis) force.x_small force.y_small force.z_small)

-- a moving population after a collision, before and with the force
pub relaxed_small : (v : Stencil) (r : RelaxationRates) (f : ℕ → ℤ) (i : ℕ) → IsVelocitySet v → IsRates r → InLimits v f → 0 < i → i < v.directions →
    unsigned_abs (f i +ℤ relaxation v r f i) ≤ 7077888
relaxed_small v r f i laws allowed limits moving known =
    omega (arith, unsigned_abs-add (f i) (relaxation v r f i), population_small v f i limits known, relaxation_small v r f i laws allowed limits moving known, density_small v f limits)

pub moved_small : (v : Stencil) (r : RelaxationRates) (u : List ℤ) (f : ℕ → ℤ) (i : ℕ) → IsVelocitySet v → IsRates r → IsForce u → InLimits v f → 0 < i → i < v.directions →
    unsigned_abs (f i +ℤ relaxation v r f i +ℤ push v u i) ≤ 7741440
moved_small v r u f i laws allowed force limits moving known =
    omega (arith, unsigned_abs-add (f i +ℤ relaxation v r f i) (push v u i), relaxed_small v r f i laws allowed limits moving known, push_small v u i laws force known)

-- the populations after a collision are below 2^28
pub collision_small : (v : Stencil) (r : RelaxationRates) (u : List ℤ) (f : ℕ → ℤ) (i : ℕ) → IsVelocitySet v → IsRates r → IsForce u → InLimits v f → i < v.directions →
    unsigned_abs (collision v r u f i) < 2 ^ 28
collision_small v r u f i laws allowed force limits known =
    omega (arith, with_rest_small v (density v f) (λ k. f k +ℤ relaxation v r f k +ℤ push v u k) 7741440 i laws.few_directions (omega (arith, density_small v f limits)) (λ k above below. moved_small v r u f k laws allowed force limits above below) known)
