-- How large the first populations are
use Rattle.std.proofs.Common.{ℕ, zero, suc, ◌+◌, ◌*◌, ◌^◌, ◌<◌, ◌≤◌, ℤ, pos, negsuc, ◌+ℤ◌, ◌-ℤ◌, ◌*ℤ◌, ◌≤ℤ◌, ◌<ℤ◌, unsigned_abs, List, arith, lit<, lit≤}
use Rattle.std.proofs.lemmas.Int.{ints}
use Rattle.std.proofs.lemmas.Nat.{mul-le}
use Rattle.std.proofs.Math.Nat.{mul-le-mul_left, mul-le-mul_right}
use borrow.Author.Differences.{up, down}
use Rattle.lbm_space.specs.Stencil.{Stencil, part, dot, velocity, weight, moving_axes, IsVelocitySet}
use Rattle.lbm_cell.specs.Collision.{equilibrium_numerator, equilibrium, first_population, floor_div}
use Rattle.lbm_cell.proofs.Bounds.{mean, dot_size, dot-same, with_rest_small}
use Rattle.lbm_cell.proofs.Limits.{moves, floor_div_small, denominator_above}

-- a density r, a bound k on the parts of a momentum, and a bound m that is above both and above k^2 / r
pub record IsBound (r k m : ℕ) : Type 0 where
  pub density : r ≤ m
  pub momentum : k ≤ m
  pub square : k * k ≤ m * r

-- the numerator of the equilibrium lies from -9 m r to (2 + 6 n + 9 n^2) m r
record IsFirstNumerator (r m n : ℕ) (z : ℤ) : Type 0 where
  above : up z ≤ down z + (2 + 6 * n + 9 * n * n) * (m * r)
  below : down z ≤ up z + 9 * (m * r)

first_numerator : (r k m s n : ℕ) (u : ℤ) → IsBound r k m → unsigned_abs u ≤ n * k → s ≤ 3 * (k * k) →
    IsFirstNumerator r m n (pos 2 *ℤ (pos r *ℤ pos r) +ℤ pos 6 *ℤ (pos r *ℤ u) +ℤ pos 9 *ℤ (u *ℤ u) -ℤ pos 3 *ℤ pos s)
first_numerator r k m s n (pos a) bound small_u small_s =
    let squares : r * r ≤ m * r = mul-le-mul_right r bound.density in
    let cross : r * a ≤ r * (n * k) = mul-le-mul_left r small_u in
    let crosses : r * n * k ≤ r * n * m = mul-le-mul_left (r * n) bound.momentum in
    let turn : a * a ≤ n * k * (n * k) = mul-le a a (n * k) (n * k) small_u small_u in
    let turns : n * n * (k * k) ≤ n * n * (m * r) = mul-le-mul_left (n * n) bound.square in
    record { above = omega (arith, ints, cross, crosses, turn, turns, squares); below = omega (arith, ints, bound.square) }
first_numerator r k m s n (negsuc a) bound small_u small_s =
    let squares : r * r ≤ m * r = mul-le-mul_right r bound.density in
    let turn : suc a * suc a ≤ n * k * (n * k) = mul-le (suc a) (suc a) (n * k) (n * k) small_u small_u in
    let turns : n * n * (k * k) ≤ n * n * (m * r) = mul-le-mul_left (n * n) bound.square in
    record { above = omega (arith, ints, turn, turns, squares); below = omega (arith, ints, mean r (suc a), bound.square) }

-- with its weight it is at most 2 den r m in size
weighed_small : (w d r m n : ℕ) (z : ℤ) → IsFirstNumerator r m n z → 1 ≤ n → w * (2 + 6 * n + 9 * n * n) ≤ 2 * d → unsigned_abs (pos w *ℤ z) ≤ 2 * (d * r) * m
weighed_small w d r m n z numerator moving light =
    let some : 1 * 1 ≤ n * n = mul-le 1 1 n n moving moving in
    let seventeen : w * 17 ≤ w * (2 + 6 * n + 9 * n * n) = mul-le-mul_left w (omega (arith, some)) in
    let above : w * up z ≤ w * (down z + (2 + 6 * n + 9 * n * n) * (m * r)) = mul-le-mul_left w numerator.above in
    let below : w * down z ≤ w * (up z + 9 * (m * r)) = mul-le-mul_left w numerator.below in
    let light_above : w * (2 + 6 * n + 9 * n * n) * (m * r) ≤ 2 * d * (m * r) = mul-le-mul_right (m * r) light in
    let light_below : w * 9 * (m * r) ≤ 2 * d * (m * r) = mul-le-mul_right (m * r) (omega (arith, seventeen, light)) in
    omega (arith, ints)

-- the equilibrium of a moving direction is at most m in size
equilibrium_by_parts : (w d rho : ℤ) (k m : ℕ) (j c : List ℤ) → pos 0 <ℤ w → pos 0 <ℤ d → pos 0 <ℤ rho → IsBound (unsigned_abs rho) k m → 1 ≤ moving_axes c →
    unsigned_abs (part j 0) ≤ k → unsigned_abs (part j 1) ≤ k → unsigned_abs (part j 2) ≤ k →
    (w *ℤ pos (2 + 6 * moving_axes c + 9 * moving_axes c * moving_axes c)) ≤ℤ (pos 2 *ℤ d) →
    unsigned_abs (floor_div (w *ℤ equilibrium_numerator rho j c) (pos 2 *ℤ (d *ℤ rho))) ≤ m
equilibrium_by_parts (pos w) (pos (suc d)) (pos (suc r)) k m j c above_w above_d above_rho bound moving small_x small_y small_z light =
    let s = unsigned_abs (part j 0) * unsigned_abs (part j 0) + unsigned_abs (part j 1) * unsigned_abs (part j 1) + unsigned_abs (part j 2) * unsigned_abs (part j 2) in
    let small_s : s ≤ 3 * (k * k) = omega (arith, mul-le _ _ k k small_x small_x, mul-le _ _ k k small_y small_y, mul-le _ _ k k small_z small_z) in
    let numerator : IsFirstNumerator (suc r) m (moving_axes c) (equilibrium_numerator (pos (suc r)) j c) = rw (dot-same j) (first_numerator (suc r) k m s (moving_axes c) (dot c j) bound (dot_size c j k small_x small_y small_z) small_s) in
    let some : 1 * 1 ≤ suc d * suc r = mul-le 1 1 (suc d) (suc r) (omega arith) (omega arith) in
    floor_div_small (pos w *ℤ equilibrium_numerator (pos (suc r)) j c) (2 * (suc d * suc r)) m (omega (arith, some))
    (weighed_small w (suc d) (suc r) m (moving_axes c) (equilibrium_numerator (pos (suc r)) j c) numerator moving (omega (arith, ints)))
equilibrium_by_parts (negsuc w) d rho k m j c above_w above_d above_rho bound moving small_x small_y small_z light = absurd (omega (arith, ints))
equilibrium_by_parts w (negsuc d) rho k m j c above_w above_d above_rho bound moving small_x small_y small_z light = absurd (omega (arith, ints))
equilibrium_by_parts w (pos zero) rho k m j c above_w above_d above_rho bound moving small_x small_y small_z light = absurd (omega (arith, ints))
equilibrium_by_parts w d (negsuc r) k m j c above_w above_d above_rho bound moving small_x small_y small_z light = absurd (omega (arith, ints))
equilibrium_by_parts w d (pos zero) k m j c above_w above_d above_rho bound moving small_x small_y small_z light = absurd (omega (arith, ints))

pub equilibrium_small : (v : Stencil) (rho : ℤ) (j : List ℤ) (k m i : ℕ) → IsVelocitySet v → pos 0 <ℤ rho → ((a : ℕ) → a < 3 → unsigned_abs (part j a) ≤ k) → IsBound (unsigned_abs rho) k m → 0 < i → i < v.directions →
    unsigned_abs (equilibrium v rho j i) ≤ m
equilibrium_small v rho j k m i laws above small bound moving known =
    equilibrium_by_parts (weight v i) v.denominator rho k m j (velocity v i) (laws.positive_weights i known) (denominator_above v laws) above bound (moves v i laws moving known) (small 0 (lit< tt)) (small 1 (lit< tt)) (small 2 (lit< tt)) (laws.light i moving known)

-- at the densities and momenta that first populations are made of
pub bound_any : (r : ℕ) → 1 ≤ r → r ≤ 4194304 → IsBound r 884736 782757789696
bound_any r some few = record { density = omega arith; momentum = lit≤ tt; square = omega arith }

bound_fluid : (r : ℕ) → 442368 ≤ r → r ≤ 4194304 → IsBound r 884736 4194304
bound_fluid r some few = record { density = few; momentum = lit≤ tt; square = omega arith }

-- from half the unit of density on, the first populations are below 2^28
pub first_population_small : (v : Stencil) (rho : ℤ) (j : List ℤ) (i : ℕ) → IsVelocitySet v → pos 442368 ≤ℤ rho → rho ≤ℤ pos 4194304 → ((a : ℕ) → a < 3 → unsigned_abs (part j a) ≤ 884736) → i < v.directions →
    unsigned_abs (first_population v rho j i) < 2 ^ 28
first_population_small v rho j i laws thin dense small known =
    let bound : IsBound (unsigned_abs rho) 884736 4194304 = bound_fluid (unsigned_abs rho) (omega (arith, ints)) (omega (arith, ints)) in
    let moving : (k : ℕ) → 0 < k → k < v.directions → unsigned_abs (equilibrium v rho j k) ≤ 4194304 = λ k above below. equilibrium_small v rho j 884736 4194304 k laws (omega (arith, ints)) small bound above below in
    omega (arith, with_rest_small v rho (equilibrium v rho j) 4194304 i laws.few_directions bound.density moving known)
