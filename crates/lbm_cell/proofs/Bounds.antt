-- How large the numbers of a collision become
use Rattle.std.proofs.Common.{◌≡◌, ℕ, zero, suc, ◌+◌, ◌-◌, ◌*◌, ◌<◌, ◌≤◌, ℤ, pos, negsuc, ◌+ℤ◌, ◌-ℤ◌, ◌*ℤ◌, ◌≤ℤ◌, unsigned_abs, true, false, eqb, List, refl, ap, arith, inl, inr, lit<, ◌^◌}
use Rattle.std.proofs.lemmas.Int.{ints}
use Rattle.std.proofs.lemmas.Bool.{cases_lt, cases_eq, eq-eqb, ne_eqb}
use Rattle.std.proofs.lemmas.Nat.{mul-le}
use Rattle.std.proofs.Math.Nat.{mul-le-mul_left, mul-le-mul_right}
use borrow.Author.Differences.{up, down}
use Rattle.lbm_space.specs.Sum.{sum_below, sum_from_one}
use Rattle.lbm_space.specs.Stencil.{Stencil, part, dot, moving_axes}
use Rattle.lbm_cell.specs.Collision.{with_rest}
use Rattle.lbm_cell.proofs.Sizes.{product_size}

-- 9 a^2 - 6 r a + r^2 is a square
square : (r a k : ℕ) → 3 * a ≡ r + k → 6 * (r * a) + k * k ≡ 9 * (a * a) + r * r
square r a k e =
    let squares : 3 * a * (3 * a) ≡ (r + k) * (r + k) = ap (λ (m : ℕ). m * m) e in
    let crosses : r * (3 * a) ≡ r * (r + k) = ap (λ (m : ℕ). r * m) e in
    omega (arith, squares, crosses)

square_turned : (r a k : ℕ) → r ≡ 3 * a + k → 6 * (r * a) + k * k ≡ 9 * (a * a) + r * r
square_turned r a k e =
    let squares : r * r ≡ (3 * a + k) * (3 * a + k) = ap (λ (m : ℕ). m * m) e in
    let crosses : r * a ≡ (3 * a + k) * a = ap (λ (m : ℕ). m * a) e in
    omega (arith, squares, crosses)

pub mean : (r a : ℕ) → 6 * (r * a) ≤ 9 * (a * a) + r * r
mean r a = elim (cases_lt r (3 * a)) [
  | inl below ↦ (let e : 3 * a ≡ r + (3 * a - r) = omega arith in omega (arith, square r a (3 * a - r) e))
  | inr above ↦ (let e : r ≡ 3 * a + (r - 3 * a) = omega arith in omega (arith, square_turned r a (r - 3 * a) e))
]

-- the numerator of the equilibrium lies from -8 r^2 to (2 + 6 n + 9 n^2) r^2
pub record IsNumerator (r n : ℕ) (z : ℤ) : Type 0 where
  pub above : up z ≤ down z + (2 + 6 * n + 9 * n * n) * (r * r)
  pub below : down z ≤ up z + 8 * (r * r)

pub numerator_between : (r s n : ℕ) (u : ℤ) → unsigned_abs u ≤ n * r → s ≤ 3 * (r * r) →
    IsNumerator r n (pos 2 *ℤ (pos r *ℤ pos r) +ℤ pos 6 *ℤ (pos r *ℤ u) +ℤ pos 9 *ℤ (u *ℤ u) -ℤ pos 3 *ℤ pos s)
numerator_between r s n (pos a) small_u small_s =
    let cross : r * a ≤ r * (n * r) = mul-le-mul_left r small_u in
    let turn : a * a ≤ n * r * (n * r) = mul-le a a (n * r) (n * r) small_u small_u in
    record { above = omega (arith, ints, cross, turn); below = omega (arith, ints, cross, turn) }
numerator_between r s n (negsuc a) small_u small_s =
    let cross : r * suc a ≤ r * (n * r) = mul-le-mul_left r small_u in
    let turn : suc a * suc a ≤ n * r * (n * r) = mul-le (suc a) (suc a) (n * r) (n * r) small_u small_u in
    record { above = omega (arith, ints, cross, turn); below = omega (arith, ints, mean r (suc a)) }

-- a departure is at most 3 den rho^2 in size
pub departure_between : (w d r g n : ℕ) (z : ℤ) → IsNumerator r n z → g ≤ r → 1 ≤ n → w * (2 + 6 * n + 9 * n * n) ≤ 2 * d →
    unsigned_abs (pos w *ℤ z -ℤ pos 2 *ℤ (pos d *ℤ pos r *ℤ pos g)) ≤ 3 * (d * (r * r))
departure_between w d r g n z numerator part moving light =
    let some : 1 * 1 ≤ n * n = mul-le 1 1 n n moving moving in
    let seventeen : w * 17 ≤ w * (2 + 6 * n + 9 * n * n) = mul-le-mul_left w (omega (arith, some)) in
    let above : w * up z ≤ w * (down z + (2 + 6 * n + 9 * n * n) * (r * r)) = mul-le-mul_left w numerator.above in
    let below : w * down z ≤ w * (up z + 8 * (r * r)) = mul-le-mul_left w numerator.below in
    let light_squares : w * (2 + 6 * n + 9 * n * n) * (r * r) ≤ 2 * d * (r * r) = mul-le-mul_right (r * r) light in
    let eight_squares : w * 8 * (r * r) ≤ d * (r * r) = mul-le-mul_right (r * r) (omega (arith, seventeen, light)) in
    let parts : d * r * g ≤ d * r * r = mul-le-mul_left (d * r) part in
    omega (arith, ints)

-- a number that is not negative, and the square of a number
pub nonnegative : (z : ℤ) → pos 0 ≤ℤ z → z ≡ pos (unsigned_abs z)
nonnegative z above = omega (arith, ints)

pub square_is : (z : ℤ) → z *ℤ z ≡ pos (unsigned_abs z * unsigned_abs z)
square_is (pos a) = refl
square_is (negsuc a) = refl

-- a sum of numbers that are not negative is none, and a sum with unit factors is no larger
pub record IsBounded (total sum : ℤ) : Type 0 where
  pub from_zero : pos 0 ≤ℤ total
  pub smaller : unsigned_abs sum ≤ unsigned_abs total

pub sum_bounded : (n : ℕ) (c f : ℕ → ℤ) → ((k : ℕ) → k < n → unsigned_abs (c k) ≤ 1) → ((k : ℕ) → k < n → pos 0 ≤ℤ f k) → IsBounded (sum_below n f) (sum_below n (λ k. c k *ℤ f k))
sum_bounded zero c f units above = record { from_zero = omega (arith, ints); smaller = omega arith }
sum_bounded (suc n) c f units above =
    let front : IsBounded (sum_below n f) (sum_below n (λ k. c k *ℤ f k)) = sum_bounded n c f (λ k below. units k (omega arith)) (λ k below. above k (omega arith)) in
    let last : pos 0 ≤ℤ f n = above n (omega arith) in
    let product : unsigned_abs (c n *ℤ f n) ≤ 1 * unsigned_abs (f n) = product_size (c n) (f n) 1 (unsigned_abs (f n)) (units n (omega arith)) (omega arith) in
    bounded_more (sum_below n f) (sum_below n (λ k. c k *ℤ f k)) (f n) (c n *ℤ f n) front last (omega (arith, product))
  where
    bounded_more : (total sum x y : ℤ) → IsBounded total sum → pos 0 ≤ℤ x → unsigned_abs y ≤ unsigned_abs x → IsBounded (total +ℤ x) (sum +ℤ y)
    bounded_more total sum x y front above small = record { from_zero = omega (arith, ints); smaller = omega (arith, ints) }

-- one population is at most the sum
pub one_at_most : (n : ℕ) (f : ℕ → ℤ) → ((k : ℕ) → k < n → pos 0 ≤ℤ f k) → (i : ℕ) → i < n → (pos 0 ≤ℤ sum_below n f) × (f i ≤ℤ sum_below n f)
one_at_most zero f above i known = absurd (omega arith)
one_at_most (suc n) f above i known =
    let last : pos 0 ≤ℤ f n = above n (omega arith) in
    let total : pos 0 ≤ℤ sum_below n f = (sum_bounded n (λ _. pos 0) f (λ _ _. omega arith) (λ k below. above k (omega arith))).from_zero in
    elim (cases_lt i n) [
      | inl front ↦ (let rest = one_at_most n f (λ k below. above k (omega arith)) i front in (omega (arith, ints), omega (arith, ints)))
      | inr at_end ↦ (let same : i ≡ n = omega arith in let e : f i ≡ f n = ap f same in (omega (arith, ints), omega (arith, ints)))
    ]

-- the parts of a velocity times a momentum
pub dot_size : (c j : List ℤ) (r : ℕ) → unsigned_abs (part j 0) ≤ r → unsigned_abs (part j 1) ≤ r → unsigned_abs (part j 2) ≤ r → unsigned_abs (dot c j) ≤ moving_axes c * r
dot_size c j r small_x small_y small_z =
    let x = product_size (part c 0) (part j 0) (unsigned_abs (part c 0)) r (omega arith) small_x in
    let y = product_size (part c 1) (part j 1) (unsigned_abs (part c 1)) r (omega arith) small_y in
    let z = product_size (part c 2) (part j 2) (unsigned_abs (part c 2)) r (omega arith) small_z in
    three_sizes (part c 0 *ℤ part j 0) (part c 1 *ℤ part j 1) (part c 2 *ℤ part j 2) (unsigned_abs (part c 0)) (unsigned_abs (part c 1)) (unsigned_abs (part c 2)) r x y z
  where
    three_sizes : (x y z : ℤ) (a b c r : ℕ) → unsigned_abs x ≤ a * r → unsigned_abs y ≤ b * r → unsigned_abs z ≤ c * r → unsigned_abs (x +ℤ y +ℤ z) ≤ (a + b + c) * r
    three_sizes x y z a b c r small_x small_y small_z = omega (arith, ints)

-- the square of a vector
pub dot-same : (j : List ℤ) → dot j j ≡ pos (unsigned_abs (part j 0) * unsigned_abs (part j 0) + unsigned_abs (part j 1) * unsigned_abs (part j 1) + unsigned_abs (part j 2) * unsigned_abs (part j 2))
dot-same j = rw (square_is (part j 0), square_is (part j 1), square_is (part j 2)) refl

-- the inner products of an equilibrium, of parts of at most 2^22 and unit velocities
pub moving_dot_small : (c j : List ℤ) → ((a : ℕ) → a < 3 → unsigned_abs (part j a) ≤ 4194304) → ((a : ℕ) → a < 3 → unsigned_abs (part c a) ≤ 1) → unsigned_abs (dot c j) < 2 ^ 24
moving_dot_small c j small units =
    let size = dot_size c j 4194304 (small 0 (lit< tt)) (small 1 (lit< tt)) (small 2 (lit< tt)) in
    let x = units 0 (lit< tt) in
    let y = units 1 (lit< tt) in
    let z = units 2 (lit< tt) in
    omega (arith, size)

pub own_dot_small : (j : List ℤ) → ((a : ℕ) → a < 3 → unsigned_abs (part j a) ≤ 4194304) → unsigned_abs (dot j j) < 2 ^ 48
own_dot_small j small =
    rw (dot-same j) (omega (arith, mul-le _ _ 4194304 4194304 (small 0 (lit< tt)) (small 0 (lit< tt)), mul-le _ _ 4194304 4194304 (small 1 (lit< tt)) (small 1 (lit< tt)), mul-le _ _ 4194304 4194304 (small 2 (lit< tt)) (small 2 (lit< tt))))

pub unit_dot_small : (c j : List ℤ) (r : ℕ) → ((a : ℕ) → a < 3 → unsigned_abs (part c a) ≤ 1) → unsigned_abs (part j 0) ≤ r → unsigned_abs (part j 1) ≤ r → unsigned_abs (part j 2) ≤ r → unsigned_abs (dot c j) ≤ 3 * r
unit_dot_small c j r units small_x small_y small_z =
    let axes : moving_axes c ≤ 3 = omega (arith, units 0 (lit< tt), units 1 (lit< tt), units 2 (lit< tt)) in
    omega (arith, dot_size c j r small_x small_y small_z, mul-le-mul_right r axes)

-- a sum of n numbers that are at most m in size
pub sum_below_size : (n m : ℕ) (f : ℕ → ℤ) → ((k : ℕ) → k < n → unsigned_abs (f k) ≤ m) → unsigned_abs (sum_below n f) ≤ n * m
sum_below_size zero m f small = omega arith
sum_below_size (suc n) m f small = omega (arith, ints, sum_below_size n m f (λ k below. small k (omega arith)), small n (omega arith))

-- the size of the populations of a cell, of which the moving ones and the density are at most m in size
pub with_rest_small : (v : Stencil) (rho : ℤ) (f : ℕ → ℤ) (m i : ℕ) → v.directions ≤ 27 → unsigned_abs rho ≤ m → ((k : ℕ) → 0 < k → k < v.directions → unsigned_abs (f k) ≤ m) → i < v.directions → unsigned_abs (with_rest v rho f i) ≤ 27 * m
with_rest_small v rho f m i few small_rho small known = elim (cases_eq i 0) [
  | inl first ↦ (
      let on : eqb i 0 ≡ true = eq-eqb i 0 first in
      let sum : unsigned_abs (sum_from_one v.directions f) ≤ (v.directions - 1) * m = sum_below_size (v.directions - 1) m (λ k. f (k + 1)) (λ k below. small (k + 1) (omega arith) (omega arith)) in
      let most : (v.directions - 1) * m ≤ 26 * m = mul-le-mul_right m (omega arith) in
      rw on (omega (arith, ints, sum, most)))
  | inr ne ↦ (let off : eqb i 0 ≡ false = ne_eqb i 0 ne in rw off (omega (arith, small i (omega arith) known)))
]
