-- The guesses of the quotients by a density, and by a number of the run.
use Rattle.std.proofs.Common.{◌≡◌, ℕ, ◌+◌, ◌-◌, ◌*◌, ◌/◌, ◌<◌, ◌≤◌, ◌^◌, ap, sym, arith, inl, inr, ◌∙◌}
use Rattle.std.proofs.lemmas.Nat.{mul-le, div_below}
use Rattle.std.proofs.Math.Nat.{mul-le-mul_left, mul-le-mul_right, div-mul-le_self, lt-div-mul-add}
use Rattle.std.proofs.lemmas.Bool.{cases_lt}
use Rattle.lbm_lanes.specs.Pairs.{IsDivisor}
use Rattle.lbm_lanes.proofs.Guess.{IsGuess, quotient_is}

-- the reciprocal of a density
pub reciprocal_small : (rho : ℕ) → 442368 ≤ rho → 562949953421312 / rho ≤ 1272582902
reciprocal_small rho thin =
    let more : 1272582903 * 442368 ≤ 1272582903 * rho = mul-le-mul_left 1272582903 thin in
    let below : 562949953421312 / rho < 1272582903 = div_below 562949953421312 rho 1272582903 (omega (arith, thin)) (omega (arith, more)) in
    omega (arith, below)

pub cut_small : (n rho : ℕ) → rho ≤ 1769472 → n ≤ 92 * (rho * rho) → n / 131072 ≤ 2197684224
cut_small n rho dense small =
    let squares : rho * rho ≤ 1769472 * 1769472 = mul-le rho rho 1769472 1769472 dense dense in
    let below : n / 131072 < 2197684225 = div_below n 131072 2197684225 (omega arith) (omega (arith, squares, small)) in
    omega (arith, below)

pub density_guess : (n rho m : ℕ) → 442368 ≤ rho → rho ≤ 1769472 → m ≡ 562949953421312 / rho → n ≤ 92 * (rho * rho) → IsGuess n rho m 131072 4294967296
density_guess n rho m thin dense reciprocal small =
    let cut : n / 131072 * rho ≤ 2197684224 * rho = mul-le-mul_right rho (cut_small n rho dense small) in
    record { divides = omega (arith, thin); cuts = omega arith; scales = omega arith; reciprocal = reciprocal; near = omega (arith, cut, thin) }

pub small_cut_small : (n rho : ℕ) → rho ≤ 1769472 → n ≤ 442368 * rho → n / 256 ≤ 3057647616
small_cut_small n rho dense small =
    let below : n / 256 < 3057647617 = div_below n 256 3057647617 (omega arith) (omega (arith, dense, small)) in
    omega (arith, below)

pub small_density_guess : (n rho m : ℕ) → 442368 ≤ rho → rho ≤ 1769472 → m ≡ 562949953421312 / rho → n ≤ 442368 * rho → IsGuess n rho m 256 2199023255552
small_density_guess n rho m thin dense reciprocal small =
    let cut : n / 256 * rho ≤ 3057647616 * rho = mul-le-mul_right rho (small_cut_small n rho dense small) in
    record { divides = omega (arith, thin); cuts = omega arith; scales = omega arith; reciprocal = reciprocal; near = omega (arith, cut, thin) }

-- the product of two numbers that are at most a and b
pub product_below : (x y a b k : ℕ) → x ≤ a → y ≤ b → a * b < k → x * y < k
product_below x y a b k small_x small_y room = omega (arith, mul-le x y a b small_x small_y)

-- a number of the run
module _ (n d shift m : ℕ) (is : IsDivisor d shift m) (small : n < d * 16777216) where
  some_cut : 0 < 2 ^ shift
  some_cut = omega (arith, is.below, small)

  cut_below : n / 2 ^ shift < 2147483648
  cut_below = div_below n (2 ^ shift) 2147483648 some_cut (omega (arith, is.below, small))

  pub divisor_guess : IsGuess n d m (2 ^ shift) 4294967296
  divisor_guess =
      let cut : n / 2 ^ shift * d ≤ 2147483648 * d = mul-le-mul_right d (omega (arith, cut_below)) in
      record { divides = omega (arith, some_cut, is.above); cuts = some_cut; scales = omega arith; reciprocal = is.reciprocal_is; near = omega (arith, cut, is.above) }

  pub divisor_room : n / 2 ^ shift * m < 72057594037927936
  divisor_room = elim (cases_lt (n / 2 ^ shift * m) 72057594037927936) [
    | inl fine ↦ fine
    | inr over ↦ (
        let reciprocal : m * d ≤ 2 ^ shift * 4294967296 = rw is.reciprocal_is (div-mul-le_self (2 ^ shift * 4294967296) d) in
        let one : n / 2 ^ shift * (m * d) ≤ n / 2 ^ shift * (2 ^ shift * 4294967296) = mul-le-mul_left (n / 2 ^ shift) reciprocal in
        let two : n / 2 ^ shift * 2 ^ shift ≤ n = div-mul-le_self n (2 ^ shift) in
        let three : 72057594037927936 * d ≤ n / 2 ^ shift * m * d = mul-le-mul_right d over in
        absurd (omega (arith, one, two, three, small)))
  ]

-- a product with a number that stands in all lanes
pub scaled : (k x y z : ℕ) → x ≡ k → z ≡ x * y → z ≡ k * y
scaled k x y z is_k product = product ∙ ap (λ (n : ℕ). n * y) is_k

-- a square, of a number that is raised by 2^23
pub square_above : (u : ℕ) → 16777216 * u ≤ u * u + 70368744177664
square_above u = elim (cases_lt u 8388608) [
  | inl low ↦ (
      let e : 8388608 ≡ u + (8388608 - u) = omega arith in
      let squares : 8388608 * 8388608 ≡ (u + (8388608 - u)) * (u + (8388608 - u)) = ap (λ (n : ℕ). n * n) e in
      let crosses : u * 8388608 ≡ u * (u + (8388608 - u)) = ap (λ (n : ℕ). u * n) e in
      omega (arith, squares, crosses))
  | inr high ↦ (
      let e : u ≡ 8388608 + (u - 8388608) = omega arith in
      let squares : u * u ≡ (8388608 + (u - 8388608)) * (8388608 + (u - 8388608)) = ap (λ (n : ℕ). n * n) e in
      omega (arith, squares, e))
]

-- a square, by the number raised by 2^23 and what that lacks of 2^24
pub square_by : (u t p : ℕ) → t ≡ 16777216 - u → u ≤ 16777216 → p ≡ u * t → (p ≤ 70368744177664) × (70368744177664 - p + 16777216 * u ≡ u * u + 70368744177664)
square_by u t p is_t within is_p =
    let whole : u + t ≡ 16777216 = omega (arith, is_t, within) in
    let times : u * (u + t) ≡ u * 16777216 = ap (λ (k : ℕ). u * k) whole in
    let above = square_above u in
    (omega (arith, times, is_p, above), omega (arith, times, is_p, above))

-- the room for a product, by its factors
pub product_room : (x y a b m k : ℕ) → x ≡ a → y ≡ b → a * b ≤ m → m < k → x * y < k
product_room x y a b m k is_x is_y most room = rw (is_x, is_y) (omega (arith, most, room))

pub turned_is : (whole u t : ℕ) → whole ≡ 16777216 → t ≡ whole - u → t ≡ 16777216 - u
turned_is whole u t is_whole is = omega (arith, is_whole, is)

-- a multiple of what a number lacks of 2^24
pub times_turned : (k u : ℕ) → u ≤ 16777216 → k * (16777216 - u) + k * u ≡ k * 16777216
times_turned k u within =
    let whole : (16777216 - u) + u ≡ 16777216 = omega (arith, within) in
    let times : k * ((16777216 - u) + u) ≡ k * 16777216 = ap (λ (n : ℕ). k * n) whole in
    omega (arith, times)

-- a quotient by its parts
pub parts_of : (even y r g s : ℕ) → 0 < r → y ≡ g * r + s → even * y / r ≡ even * g + even * s / r
parts_of even y r g s some is =
    let low : even * s / r * r ≤ even * s = div-mul-le_self (even * s) r in
    let high : even * s < even * s / r * r + r = lt-div-mul-add some in
    let times : even * y ≡ even * (g * r + s) = ap (λ (k : ℕ). even * k) is in
    quotient_is (even * y) r (even * g + even * s / r) (omega (arith, low, times)) (omega (arith, high, times))

-- a quotient even y / r that is taken in two parts, of which the first goes by a guess of y / r
pub record IsParted (even y r g : ℕ) : Type 0 where
  pub small : g ≤ 162791424
  pub room : g * r ≤ 288054866608128
  pub left : y - g * r < 3538944
  pub spread : even * (y - g * r) ≤ 442368 * r
  pub spread_room : even * (y - g * r) ≤ 782757789696
  pub whole : even * g ≤ 36006858326016
  pub value : even * g + even * (y - g * r) / r ≡ even * (y / r) + even * (y - y / r * r) / r

pub parted : (even y r g : ℕ) → even ≤ 221184 → 442368 ≤ r → r ≤ 1769472 → y ≤ 92 * (r * r) → g * r ≤ y → y < (g + 2) * r → IsParted even y r g
parted even y r g few thin dense small low high =
    let most : g ≤ 92 * r = elim (cases_lt (92 * r) g) [
      | inr fine ↦ fine
      | inl over ↦ (let more : (92 * r + 1) * r ≤ g * r = mul-le-mul_right r (omega (arith, over)) in absurd (omega (arith, more, low, small, thin)))
    ] in
    let squares : r * r ≤ 1769472 * 1769472 = mul-le r r 1769472 1769472 dense dense in
    let left : y - g * r < 2 * r = omega (arith, low, high) in
    let spread : even * (y - g * r) ≤ 221184 * (2 * r) = mul-le even (y - g * r) 221184 (2 * r) few (omega (arith, left)) in
    let exact : y / r * r ≤ y = div-mul-le_self y r in
    let one = parts_of even y r g (y - g * r) (omega (arith, thin)) (omega (arith, low)) in
    let two = parts_of even y r (y / r) (y - y / r * r) (omega (arith, thin)) (omega (arith, exact)) in
    record {
      small = omega (arith, most, dense);
      room = omega (arith, low, small, squares);
      left = omega (arith, left, dense);
      spread = omega (arith, spread);
      spread_room = omega (arith, spread, dense);
      whole = mul-le even g 221184 162791424 few (omega (arith, most, dense));
      value = sym one ∙ two;
    }

-- the square of a number that is at most b in size
pub square_small : (s u b : ℕ) → s + 16777216 * u ≡ u * u + 70368744177664 → u ≤ 8388608 + b → 8388608 ≤ u + b → s ≤ b * b
square_small s u b is forward backward = elim (cases_lt u 8388608) [
  | inl low ↦ (
      let k = 8388608 - u in
      let e : 8388608 ≡ u + k = omega arith in
      let squares : 8388608 * 8388608 ≡ (u + k) * (u + k) = ap (λ (n : ℕ). n * n) e in
      let crosses : u * 8388608 ≡ u * (u + k) = ap (λ (n : ℕ). u * n) e in
      let bound : k * k ≤ b * b = mul-le k k b b (omega (arith, backward)) (omega (arith, backward)) in
      omega (arith, is, squares, crosses, bound))
  | inr high ↦ (
      let k = u - 8388608 in
      let e : u ≡ 8388608 + k = omega arith in
      let squares : u * u ≡ (8388608 + k) * (8388608 + k) = ap (λ (n : ℕ). n * n) e in
      let bound : k * k ≤ b * b = mul-le k k b b (omega (arith, forward)) (omega (arith, forward)) in
      omega (arith, is, squares, e, bound))
]
