-- The relaxation of a pair of directions, of which the part that both share is divided by the density, and the rest by numbers of the run.
use Rattle.std.proofs.Common.{◌≡◌, ℕ, ◌+◌, ◌*◌, ℤ, pos, ◌+ℤ◌, ◌-ℤ◌, ◌*ℤ◌, ap, arith}
use Rattle.lbm_lanes.specs.Pairs.{shortfall}
use Rattle.lbm_lanes.proofs.Expansion.{IsDifference, of_number, of_sum, of_difference, of_product, restated, equal_from}

-- the numbers of a pair, all of them natural but u, which is x - y
--     e, s     the quotient and the remainder of 11 r^2 + 9 u^2 - 3 own by the density r
--     e', s'   the quotient and the remainder of p w s by r
pub record IsPair (w p r own x y e s e' s' : ℕ) : Type 0 where
  pub shared : 11 * (r * r) + 9 * (x * x + y * y) ≡ e * r + s + 3 * own + 18 * (x * y)
  pub scaled : p * w * s ≡ e' * r + s'

-- what is divided by 2 d q
abbrev pub dividend : (w d p m r : ℕ) (u : ℤ) (f o e e' : ℕ) → ℤ
dividend w d p m r u f o e e' =
    pos (p * w) *ℤ (pos e -ℤ pos (9 * r)) +ℤ pos e' -ℤ pos (p * d) *ℤ (pos f +ℤ pos o) +ℤ (pos (6 * m * w) *ℤ u -ℤ pos (m * d) *ℤ (pos f -ℤ pos o))

of_sum-flat : {z z' : ℤ} {a b c d k l : ℕ} → IsDifference z a b → IsDifference z' c d → a + c + l ≡ k + (b + d) → IsDifference (z +ℤ z') k l
of_sum-flat first second e = restated (of_sum first second) e

-- a multiple
scaled_by : (p : ℕ) {z : ℤ} {a b : ℕ} → IsDifference z a b → IsDifference (pos p *ℤ z) (p * a) (p * b)
scaled_by p first = restated (of_product (of_number p) first) (omega arith)

shortfall_is : (w d r own x y f : ℕ) (u : ℤ) → IsDifference u x y →
    IsDifference (shortfall (pos w) (pos d) (pos r) (pos own) u (pos f)) (2 * (w * r * r) + 6 * (w * r * x) + 9 * (w * x * x) + 9 * (w * y * y)) (6 * (w * r * y) + 18 * (w * x * y) + 3 * (w * own) + 2 * (d * r * f))
shortfall_is w d r own x y f u of_u =
    let square : IsDifference (pos r *ℤ pos r) (r * r) 0 = restated (scaled_by r (of_number r)) (omega arith) in
    let cross : IsDifference (pos r *ℤ u) (r * x) (r * y) = scaled_by r of_u in
    let turn : IsDifference (u *ℤ u) (x * x + y * y) (2 * (x * y)) = restated (of_product of_u of_u) (omega arith) in
    let numerator = of_difference (of_sum (of_sum (scaled_by 2 square) (scaled_by 6 cross)) (scaled_by 9 turn)) (scaled_by 3 (of_number own)) in
    let flat : IsDifference (pos 2 *ℤ (pos r *ℤ pos r) +ℤ pos 6 *ℤ (pos r *ℤ u) +ℤ pos 9 *ℤ (u *ℤ u) -ℤ pos 3 *ℤ pos own) (2 * (r * r) + 6 * (r * x) + 9 * (x * x) + 9 * (y * y)) (6 * (r * y) + 18 * (x * y) + 3 * own) = restated numerator (omega arith) in
    let held : IsDifference (pos d *ℤ pos r *ℤ pos f) (d * r * f) 0 = restated (of_product (scaled_by d (of_number r)) (of_number f)) (omega arith) in
    restated (of_difference (scaled_by w flat) (scaled_by 2 held)) (omega arith)

pub dividend_is : (w d p m r x y f o e e' : ℕ) (u : ℤ) → IsDifference u x y →
    IsDifference (dividend w d p m r u f o e e') (p * w * e + e' + 6 * (m * w * x) + m * d * o) (9 * (p * w * r) + p * d * f + p * d * o + 6 * (m * w * y) + m * d * f)
dividend_is w d p m r x y f o e e' u of_u =
    let shared = scaled_by (p * w) (of_difference (of_number e) (of_number (9 * r))) in
    let even = of_difference (of_sum shared (of_number e')) (scaled_by (p * d) (of_sum (of_number f) (of_number o))) in
    let odd = of_difference (scaled_by (6 * m * w) of_u) (scaled_by (m * d) (of_difference (of_number f) (of_number o))) in
    restated (of_sum even odd) (omega arith)

pub pair_formula : (w d p m r own x y f o e s e' s' : ℕ) (u u' : ℤ) → IsPair w p r own x y e s e' s' → IsDifference u x y → IsDifference u' y x →
    (let a = shortfall (pos w) (pos d) (pos r) (pos own) u (pos f) in
    let b = shortfall (pos w) (pos d) (pos r) (pos own) u' (pos o) in
    pos p *ℤ (a +ℤ b) +ℤ pos m *ℤ (a -ℤ b) ≡ pos 2 *ℤ (pos r *ℤ dividend w d p m r u f o e e' +ℤ pos s'))
pair_formula w d p m r own x y f o e s e' s' u u' is ahead behind =
    let a = shortfall_is w d r own x y f u ahead in
    let b = shortfall_is w d r own y x o u' behind in
    let both : IsDifference (shortfall (pos w) (pos d) (pos r) (pos own) u (pos f) +ℤ shortfall (pos w) (pos d) (pos r) (pos own) u' (pos o))
    (4 * (w * r * r) + 18 * (w * x * x) + 18 * (w * y * y)) (36 * (w * x * y) + 6 * (w * own) + 2 * (d * r * f) + 2 * (d * r * o)) = restated (of_sum a b) (omega arith) in
    let between : IsDifference (shortfall (pos w) (pos d) (pos r) (pos own) u (pos f) -ℤ shortfall (pos w) (pos d) (pos r) (pos own) u' (pos o))
    (12 * (w * r * x) + 2 * (d * r * o)) (12 * (w * r * y) + 2 * (d * r * f)) = restated (of_difference a b) (omega arith) in
    let left : IsDifference (pos p *ℤ (shortfall (pos w) (pos d) (pos r) (pos own) u (pos f) +ℤ shortfall (pos w) (pos d) (pos r) (pos own) u' (pos o)) +ℤ pos m *ℤ (shortfall (pos w) (pos d) (pos r) (pos own) u (pos f) -ℤ shortfall (pos w) (pos d) (pos r) (pos own) u' (pos o)))
    (4 * (p * w * r * r) + 18 * (p * w * x * x) + 18 * (p * w * y * y) + 12 * (m * w * r * x) + 2 * (m * d * r * o))
    (36 * (p * w * x * y) + 6 * (p * w * own) + 2 * (p * d * r * f) + 2 * (p * d * r * o) + 12 * (m * w * r * y) + 2 * (m * d * r * f)) =
    of_sum-flat (scaled_by p both) (scaled_by m between) (omega arith) in
    let right = dividend_is w d p m r x y f o e e' u ahead in
    let whole : IsDifference (pos 2 *ℤ (pos r *ℤ dividend w d p m r u f o e e' +ℤ pos s'))
    (2 * (p * w * e * r) + 2 * (e' * r) + 12 * (m * w * r * x) + 2 * (m * d * r * o) + 2 * s')
    (18 * (p * w * r * r) + 2 * (p * d * r * f) + 2 * (p * d * r * o) + 12 * (m * w * r * y) + 2 * (m * d * r * f)) =
    restated (scaled_by 2 (of_sum (scaled_by r right) (of_number s'))) (omega arith) in
    let shared : p * w * (11 * (r * r) + 9 * (x * x + y * y)) ≡ p * w * (e * r + s + 3 * own + 18 * (x * y)) = ap (λ (k : ℕ). p * w * k) is.shared in
    equal_from left whole (omega (arith, shared, is.scaled))
