-- A whole number as the difference of two natural numbers: an equation of sums and products of whole numbers is one of polynomials.
use Rattle.std.proofs.Common.{◌≡◌, ℕ, ◌+◌, ◌*◌, ℤ, pos, ◌+ℤ◌, ◌-ℤ◌, ◌*ℤ◌, ap, arith}
use Rattle.std.proofs.lemmas.Int.{ints}
use borrow.Author.Differences.{up, down, product_is}

-- z is a - b
pub record IsDifference (z : ℤ) (a b : ℕ) : Type 0 where
  pub is : up z + b ≡ down z + a

pub of_number : (n : ℕ) → IsDifference (pos n) n 0
of_number n = record { is = omega (arith, ints) }

pub of_sum : {x y : ℤ} {a b c d : ℕ} → IsDifference x a b → IsDifference y c d → IsDifference (x +ℤ y) (a + c) (b + d)
of_sum first second = record { is = omega (arith, ints, first.is, second.is) }

pub of_difference : {x y : ℤ} {a b c d : ℕ} → IsDifference x a b → IsDifference y c d → IsDifference (x -ℤ y) (a + d) (b + c)
of_difference first second = record { is = omega (arith, ints, first.is, second.is) }

pub of_product : {x y : ℤ} {a b c d : ℕ} → IsDifference x a b → IsDifference y c d → IsDifference (x *ℤ y) (a * c + b * d) (a * d + b * c)
of_product {x} {y} {a} {b} {c} {d} first second =
    let parts = product_is x y in
    let one : (up x + b) * up y ≡ (down x + a) * up y = ap (λ (k : ℕ). k * up y) first.is in
    let two : (up x + b) * down y ≡ (down x + a) * down y = ap (λ (k : ℕ). k * down y) first.is in
    let three : a * (up y + d) ≡ a * (down y + c) = ap (λ (k : ℕ). a * k) second.is in
    let four : b * (up y + d) ≡ b * (down y + c) = ap (λ (k : ℕ). b * k) second.is in
    record { is = omega (arith, parts.0, parts.1, one, two, three, four) }

pub equal_from : {x y : ℤ} {a b c d : ℕ} → IsDifference x a b → IsDifference y c d → a + d ≡ c + b → x ≡ y
equal_from first second e = omega (arith, ints, first.is, second.is)

-- the same difference, by other numbers
pub restated : {z : ℤ} {a b c d : ℕ} → IsDifference z a b → a + d ≡ c + b → IsDifference z c d
restated first e = record { is = omega (arith, first.is, e) }

-- each whole number is one
pub of_parts : (z : ℤ) → IsDifference z (up z) (down z)
of_parts z = record { is = omega arith }
