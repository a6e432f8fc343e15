-- Floors by quotients of natural numbers.
use Rattle.std.proofs.Common.{◌≡◌, ℕ, ◌+◌, ◌-◌, ◌*◌, ◌/◌, ◌<◌, ◌≤◌, ℤ, pos, negsuc, ◌+ℤ◌, ◌-ℤ◌, ◌*ℤ◌, ap, arith, inl, inr, ◌∙◌}
use Rattle.std.proofs.lemmas.Int.{ints}
use Rattle.std.proofs.Math.Nat.{mul-le-mul_left, lt-div-mul-add, div-mul-le_self}
use Rattle.lbm_cell.specs.Collision.{floor_div}
use Rattle.std.proofs.lemmas.Bool.{cases_lt}
use Rattle.std.proofs.lemmas.Nat.{mul-le}
use borrow.Author.Differences.{up, down}
use Rattle.lbm_lanes.proofs.Guess.{quotient_is}
use Rattle.lbm_lanes.proofs.Expansion.{of_number, of_sum, of_product, of_parts, restated, equal_from, IsDifference}

-- z + d c is the natural number n
pub floor_from : (z : ℤ) (d c n : ℕ) → 0 < d → z +ℤ pos (d * c) ≡ pos n → floor_div z (pos d) ≡ pos (n / d) -ℤ pos c
floor_from (pos a) d c n some e =
    let low : a / d * d ≤ a = div-mul-le_self a d in
    let high : a < a / d * d + d = lt-div-mul-add some in
    let number : n ≡ a + d * c = omega (arith, ints, e) in
    let quotient : n / d ≡ a / d + c = quotient_is n d (a / d + c) (omega (arith, low, number)) (omega (arith, high, number)) in
    rw quotient (omega (arith, ints))
floor_from (negsuc a) d c n some e =
    let low : a / d * d ≤ a = div-mul-le_self a d in
    let high : a < a / d * d + d = lt-div-mul-add some in
    let number : n + a + 1 ≡ d * c = omega (arith, ints, e) in
    let within : a / d + 1 ≤ c = elim (cases_lt (a / d) c) [
      | inl fine ↦ omega (arith, fine)
      | inr over ↦ (let more : d * c ≤ d * (a / d) = mul-le-mul_left d over in absurd (omega (arith, low, number, more)))
    ] in
    let whole : (c - (a / d + 1)) + (a / d + 1) ≡ c = omega (arith, within) in
    let product : d * ((c - (a / d + 1)) + (a / d + 1)) ≡ d * c = ap (λ (k : ℕ). d * k) whole in
    let quotient : n / d ≡ c - (a / d + 1) = quotient_is n d (c - (a / d + 1)) (omega (arith, low, high, number, product)) (omega (arith, low, high, number, product)) in
    rw quotient (omega (arith, ints, within))

-- floor((r z + s) / (r k)) is floor(z / k) for s below r, here with both numbers doubled, and z + k c the natural number n
pub nested : (num z : ℤ) (r s k c n : ℕ) → 0 < k → s < r → z +ℤ pos (k * c) ≡ pos n → num ≡ pos 2 *ℤ (pos r *ℤ z +ℤ pos s) → floor_div num (pos (2 * (r * k))) ≡ pos (n / k) -ℤ pos c
nested num z r s k c n some small e is =
    let low : n / k * k ≤ n = div-mul-le_self n k in
    let next : n < n / k * k + k = lt-div-mul-add some in
    let high : n + 1 ≤ n / k * k + k = omega (arith, next) in
    let above : 1 * 1 ≤ r * k = mul-le 1 1 r k (omega (arith, small)) some in
    let low_scaled : r * (n / k * k) ≤ r * n = mul-le-mul_left r low in
    let high_scaled : r * (n + 1) ≤ r * (n / k * k + k) = mul-le-mul_left r high in
    let line : up z + k * c ≡ down z + n = omega (arith, ints, e) in
    let times : r * (up z + k * c) ≡ r * (down z + n) = ap (λ (x : ℕ). r * x) line in
    let number : IsDifference (pos 2 *ℤ (pos r *ℤ z +ℤ pos s)) (2 * (r * up z) + 2 * s) (2 * (r * down z)) =
    restated (of_product (of_number 2) (of_sum (of_product (of_number r) (of_parts z)) (of_number s))) (omega arith) in
    let shifted : pos 2 *ℤ (pos r *ℤ z +ℤ pos s) +ℤ pos (2 * (r * k) * c) ≡ pos (2 * (r * n + s)) =
    equal_from (of_sum number (of_number (2 * (r * k) * c))) (of_number (2 * (r * n + s))) (omega (arith, times)) in
    let whole : num +ℤ pos (2 * (r * k) * c) ≡ pos (2 * (r * n + s)) = rw is shifted in
    let quotient : 2 * (r * n + s) / (2 * (r * k)) ≡ n / k = quotient_is (2 * (r * n + s)) (2 * (r * k)) (n / k) (omega (arith, low_scaled)) (omega (arith, high_scaled, small)) in
    floor_from num (2 * (r * k)) c (2 * (r * n + s)) (omega (arith, above)) whole ∙ ap (λ (x : ℕ). pos x -ℤ pos c) quotient
