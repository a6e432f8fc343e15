use Rattle.std.proofs.Common.{◌≡◌, ℕ, ◌+◌, ◌*◌, ◌^◌, ◌<◌, ◌≤◌, ℤ, ◌+ℤ◌, ◌-ℤ◌, ◌*ℤ◌, unsigned_abs, FitsSigned, arith, to_z, of_z, ◌∙◌}
use Rattle.std.specs.Int.{w32, w64}
use Rattle.std.proofs.lemmas.Int.{ints, to_z-of_z, unsigned_abs-mul}
use Rattle.std.proofs.lemmas.Nat.{mul-le}

-- the size of a sum and of a product
pub unsigned_abs-add : (a b : ℤ) → unsigned_abs (a +ℤ b) ≤ unsigned_abs a + unsigned_abs b
unsigned_abs-add a b = omega (arith, ints)

pub product_size : (a b : ℤ) (m n : ℕ) → unsigned_abs a ≤ m → unsigned_abs b ≤ n → unsigned_abs (a *ℤ b) ≤ m * n
product_size a b m n small_a small_b = rw (unsigned_abs-mul a b) (mul-le (unsigned_abs a) (unsigned_abs b) m n small_a small_b)

-- a number that fits 32 bits
pub size_of_32 : (z : ℤ) → FitsSigned w32 z → unsigned_abs z ≤ 2147483648
size_of_32 z fits = omega (arith, ints)

-- a number below 2^28 fits 32 bits
pub fits_32 : (z : ℤ) → unsigned_abs z < 2 ^ 28 → FitsSigned w32 z
fits_32 z small = omega (arith, ints)

-- a product that a call made of numbers that fit
pub product_of : (r a b : ℤ) → FitsSigned w64 a → FitsSigned w64 b → r ≡ to_z w64 (of_z w64 a) *ℤ to_z w64 (of_z w64 b) → r ≡ a *ℤ b
product_of r a b fits_a fits_b e = rw (to_z-of_z w64 a fits_a, to_z-of_z w64 b fits_b) at e

-- the size of such a product
pub size_of_product : (r a b : ℤ) (n : ℕ) → FitsSigned w64 a → FitsSigned w64 b → r ≡ to_z w64 (of_z w64 a) *ℤ to_z w64 (of_z w64 b) → unsigned_abs (a *ℤ b) < n → unsigned_abs r < n
size_of_product r a b n fits_a fits_b e small = rw (product_of r a b fits_a fits_b e) small

-- the machine's number of a call's result that is z
pub clean : (r z : ℤ) → FitsSigned w64 r → r ≡ z → to_z w64 (of_z w64 r) ≡ z
clean r z fits e = to_z-of_z w64 r fits ∙ e

-- a product of two results
pub clean_product : (p a b x y : ℤ) → FitsSigned w64 a → FitsSigned w64 b → a ≡ x → b ≡ y → p ≡ to_z w64 (of_z w64 a) *ℤ to_z w64 (of_z w64 b) → p ≡ x *ℤ y
clean_product p a b x y fits_a fits_b is_a is_b e = rw (clean a x fits_a is_a, clean b y fits_b is_b) at e

-- a sum and a difference of two results
pub clean_sum : (s a b x y : ℤ) → FitsSigned w64 a → FitsSigned w64 b → a ≡ x → b ≡ y → s ≡ to_z w64 (of_z w64 a) +ℤ to_z w64 (of_z w64 b) → s ≡ x +ℤ y
clean_sum s a b x y fits_a fits_b is_a is_b e = rw (clean a x fits_a is_a, clean b y fits_b is_b) at e

pub clean_difference : (s a b x y : ℤ) → FitsSigned w64 a → FitsSigned w64 b → a ≡ x → b ≡ y → s ≡ to_z w64 (of_z w64 a) -ℤ to_z w64 (of_z w64 b) → s ≡ x -ℤ y
clean_difference s a b x y fits_a fits_b is_a is_b e = rw (clean a x fits_a is_a, clean b y fits_b is_b) at e

-- the size of the machine's number of a result that is z
pub size_below : (r z : ℤ) (n : ℕ) → FitsSigned w64 r → r ≡ z → unsigned_abs z < n → unsigned_abs (to_z w64 (of_z w64 r)) < n
size_below r z n fits e small = rw (clean r z fits e) small

pub size_at_most : (r z : ℤ) (n : ℕ) → FitsSigned w64 r → r ≡ z → unsigned_abs z ≤ n → unsigned_abs (to_z w64 (of_z w64 r)) ≤ n
size_at_most r z n fits e small = rw (clean r z fits e) small

-- the product of two results has room
pub room : (a b x y : ℤ) (m n k : ℕ) → FitsSigned w64 a → FitsSigned w64 b → a ≡ x → b ≡ y → unsigned_abs x ≤ m → unsigned_abs y ≤ n → m * n < k → unsigned_abs (to_z w64 (of_z w64 a) *ℤ to_z w64 (of_z w64 b)) < k
room a b x y m n k fits_a fits_b is_a is_b small_x small_y fits = rw (clean a x fits_a is_a, clean b y fits_b is_b) (omega (arith, product_size x y m n small_x small_y))
