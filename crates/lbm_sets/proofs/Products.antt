-- Products of whole numbers.
use Rattle.std.proofs.Common.{◌≡◌, ℕ, zero, suc, ◌+◌, ◌*◌, ℤ, pos, negsuc, ◌+ℤ◌, ◌-ℤ◌, ◌*ℤ◌, neg_ℤ, ap, arith}
use Rattle.std.proofs.lemmas.Int.{ints}
use Rattle.std.proofs.Math.IntN.{*ℤ_comm}
use borrow.Author.Differences.{up, down, product_is}

pub product-add : (a b c : ℤ) → a *ℤ (b +ℤ c) ≡ a *ℤ b +ℤ a *ℤ c
product-add a b c =
    let e : up (b +ℤ c) + down b + down c ≡ down (b +ℤ c) + up b + up c = omega (arith, ints) in
    omega (arith, ints, ap (λ (k : ℕ). up a * k) e, ap (λ (k : ℕ). down a * k) e)

pub product-subtract : (a b c : ℤ) → a *ℤ (b -ℤ c) ≡ a *ℤ b -ℤ a *ℤ c
product-subtract a b c =
    let e : up (b -ℤ c) + down b + up c ≡ down (b -ℤ c) + up b + down c = omega (arith, ints) in
    omega (arith, ints, ap (λ (k : ℕ). up a * k) e, ap (λ (k : ℕ). down a * k) e)

pub product-neg : (a b : ℤ) → neg_ℤ a *ℤ b ≡ neg_ℤ (a *ℤ b)
product-neg (pos zero) b = omega (arith, ints)
product-neg (pos (suc n)) b = omega (arith, ints)
product-neg (negsuc n) b = omega (arith, ints)

pub product_assoc : (a b c : ℤ) → a *ℤ (b *ℤ c) ≡ a *ℤ b *ℤ c
product_assoc a b c =
    let inner = product_is b c in
    let outer = product_is a b in
    omega (
      arith,
      ints,
      ap (λ (k : ℕ). up a * k) inner.0,
      ap (λ (k : ℕ). down a * k) inner.0,
      ap (λ (k : ℕ). up a * k) inner.1,
      ap (λ (k : ℕ). down a * k) inner.1,
      ap (λ (k : ℕ). k * up c) outer.0,
      ap (λ (k : ℕ). k * down c) outer.0,
      ap (λ (k : ℕ). k * up c) outer.1,
      ap (λ (k : ℕ). k * down c) outer.1,
    )

pub product_swap : (a b c : ℤ) → a *ℤ (b *ℤ c) ≡ b *ℤ (a *ℤ c)
product_swap a b c =
    let left = product_assoc a b c in
    let right = product_assoc b a c in
    let same = *ℤ_comm a b in
    cc
