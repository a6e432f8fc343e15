use Rattle.std.proofs.Common.{◌≡◌, ◌≤◌, ◌^◌, ◌*◌, ◌*ℤ◌, ◌≤ℤ◌, ◌<ℤ◌, pos, negsuc, unsigned_abs, ℤ, to_z, of_z, w64, ◌∙◌, arith}
use Rattle.std.proofs.lemmas.Int.{ints}
use Rattle.std.proofs.Math.Nat.{mul-le-mul_right}
use Rattle.std.proofs.lemmas.Nat.{mul-le}
use Rattle.lbm_cell.specs.Collision.{RelaxationRates, IsRates, floor_div}
use Rattle.lbm_cell.proofs.Sizes.{product_size}
use Rattle.lbm_cell.proofs.Limits.{floor_div_small}
use Rattle.lbm_tracer.proofs.Numbers.{fits, held}
use Rattle.lbm_tracer.proofs.collision.relaxation.Goals as goal

-- how large the quotient is
quotient_size : (p q s b : ℤ) → pos 0 <ℤ p → pos 0 <ℤ q → p <ℤ (pos 2 *ℤ q) → pos 2654208 ≤ℤ s → unsigned_abs b ≤ 1009371525808128 → unsigned_abs (floor_div (p *ℤ b) (s *ℤ q)) ≤ 2 ^ 30
quotient_size (pos p) (pos q) (pos s) b above_p above_q stable least small =
    let size : unsigned_abs (pos p *ℤ b) ≤ 2 * q * 1009371525808128 = product_size (pos p) b (2 * q) 1009371525808128 (omega (arith, ints)) small in
    let scaled : 2654208 * q ≤ s * q = mul-le-mul_right q (omega (arith, ints)) in
    floor_div_small (pos p *ℤ b) (s * q) (2 ^ 30) (omega (arith, ints, scaled)) (omega (arith, size, scaled))
quotient_size (negsuc p) q s b above_p above_q stable least small = absurd (omega (arith, ints))
quotient_size p (negsuc q) s b above_p above_q stable least small = absurd (omega (arith, ints))
quotient_size p q (negsuc s) b above_p above_q stable least small = absurd (omega (arith, ints))

-- a number from 1 to 1024
small : (z : ℤ) → pos 0 <ℤ z → z ≤ℤ pos 1024 → unsigned_abs z ≤ 1024
small z above most = omega (arith, ints)

record Divisor (s q : ℤ) : Type 0 where
  size : unsigned_abs (s *ℤ q) ≤ 14155776 * 1024
  above : pos 0 <ℤ (s *ℤ q)

divisor : (s q : ℤ) → pos 2654208 ≤ℤ s → s ≤ℤ pos 14155776 → pos 0 <ℤ q → q ≤ℤ pos 1024 → Divisor s q
divisor (pos s) (pos q) least most above at_most =
    let some = mul-le 1 1 s q (omega (arith, ints)) (omega (arith, ints)) in
    record { size = product_size (pos s) (pos q) 14155776 1024 (omega (arith, ints)) (omega (arith, ints)); above = omega (arith, ints, some) }
divisor (negsuc s) q least most above at_most = absurd (omega (arith, ints))
divisor s (negsuc q) least most above at_most = absurd (omega (arith, ints))

scale_small : (s : ℤ) → pos 2654208 ≤ℤ s → s ≤ℤ pos 14155776 → unsigned_abs s ≤ 14155776
scale_small s least most = omega (arith, ints)

from_one : (x : ℤ) → pos 0 <ℤ x → pos 1 ≤ℤ x
from_one x above = omega (arith, ints)

at_most : (x : ℤ) → pos 0 <ℤ x → unsigned_abs x ≤ 14155776 * 1024 → x ≤ℤ pos 34359738368
at_most x above size = omega (arith, ints)

pub overflow_mul-p : goal.overflow_mul-p
overflow_mul-p c =
    let r = c.args.rates in let b = c.args.below in
    let p_small = small r.p c.p.ensures.valid.p_above c.p.ensures.valid.p_at_most in
    let size = product_size r.p b 1024 1009371525808128 p_small c.requires.below in
    rw (c.p.ensures.value, held r.p (omega (arith, p_small)), held b (omega (arith, c.requires.below))) (fits (r.p *ℤ b) (omega (arith, size)))

pub overflow_mul-scale : goal.overflow_mul-scale
overflow_mul-scale c =
    let r = c.args.rates in let s = c.args.scale in
    let q_small = small r.q c.p.ensures.valid.q_above c.p.ensures.valid.q_at_most in
    let d = divisor s r.q c.requires.least c.requires.most c.p.ensures.valid.q_above c.p.ensures.valid.q_at_most in
    rw (c.q.ensures.value, held s (omega (arith, scale_small s c.requires.least c.requires.most)), held r.q (omega (arith, q_small))) (fits (s *ℤ r.q) (omega (arith, d.size)))

pub quotient-requires-clause-small : goal.quotient-requires-clause-small
quotient-requires-clause-small c =
    let r = c.args.rates in let b = c.args.below in
    let p_small = small r.p c.p.ensures.valid.p_above c.p.ensures.valid.p_at_most in
    let size = product_size r.p b 1024 1009371525808128 p_small c.requires.below in
    rw (c.p.ensures.value, held r.p (omega (arith, p_small)), held b (omega (arith, c.requires.below)), held (r.p *ℤ b) (omega (arith, size))) (omega (arith, size))

pub quotient-requires-clause-some : goal.quotient-requires-clause-some
quotient-requires-clause-some c =
    let r = c.args.rates in let s = c.args.scale in
    let q_small = small r.q c.p.ensures.valid.q_above c.p.ensures.valid.q_at_most in
    let d = divisor s r.q c.requires.least c.requires.most c.p.ensures.valid.q_above c.p.ensures.valid.q_at_most in
    rw (c.q.ensures.value, held s (omega (arith, scale_small s c.requires.least c.requires.most)), held r.q (omega (arith, q_small)), held (s *ℤ r.q) (omega (arith, d.size))) (from_one (s *ℤ r.q) d.above)

pub quotient-requires-clause-few : goal.quotient-requires-clause-few
quotient-requires-clause-few c =
    let r = c.args.rates in let s = c.args.scale in
    let q_small = small r.q c.p.ensures.valid.q_above c.p.ensures.valid.q_at_most in
    let d = divisor s r.q c.requires.least c.requires.most c.p.ensures.valid.q_above c.p.ensures.valid.q_at_most in
    rw (c.q.ensures.value, held s (omega (arith, scale_small s c.requires.least c.requires.most)), held r.q (omega (arith, q_small)), held (s *ℤ r.q) (omega (arith, d.size))) (at_most (s *ℤ r.q) d.above d.size)

-- what the quotient is, and how large
quotient : (r : RelaxationRates) (p q s b z : ℤ) → IsRates r → p ≡ r.p → q ≡ r.q → pos 2654208 ≤ℤ s → s ≤ℤ pos 14155776 → unsigned_abs b ≤ 1009371525808128
    → z ≡ floor_div (to_z w64 (of_z w64 (to_z w64 (of_z w64 p) *ℤ to_z w64 (of_z w64 b)))) (to_z w64 (of_z w64 (to_z w64 (of_z w64 s) *ℤ to_z w64 (of_z w64 q))))
    → (z ≡ floor_div (r.p *ℤ b) (s *ℤ r.q)) × (unsigned_abs z ≤ 2 ^ 30)
quotient r p q s b z allowed p_is q_is least most below is =
    let p_small = small r.p allowed.p_above allowed.p_at_most in
    let q_small = small r.q allowed.q_above allowed.q_at_most in
    let size = product_size r.p b 1024 1009371525808128 p_small below in
    let d = divisor s r.q least most allowed.q_above allowed.q_at_most in
    let value : z ≡ floor_div (r.p *ℤ b) (s *ℤ r.q) = rw (p_is, q_is, held r.p (omega (arith, p_small)), held b (omega (arith, below)), held s (omega (arith, scale_small s least most)), held r.q (omega (arith, q_small)), held (r.p *ℤ b) (omega (arith, size)), held (s *ℤ r.q) (omega (arith, d.size))) at is in
    (value, rw value (quotient_size r.p r.q s b allowed.p_above allowed.q_above allowed.p_stable least below))

pub returns-clause-value : goal.returns-clause-value
returns-clause-value c =
    let z = c.quotient.result in
    let made = quotient c.args.rates c.p.result c.q.result c.args.scale c.args.below z c.p.ensures.valid c.p.ensures.value c.q.ensures.value c.requires.least c.requires.most c.requires.below c.quotient.ensures in
    held z (omega (arith, made.1)) ∙ made.0

pub returns-clause-size : goal.returns-clause-size
returns-clause-size c =
    let z = c.quotient.result in
    let made = quotient c.args.rates c.p.result c.q.result c.args.scale c.args.below z c.p.ensures.valid c.p.ensures.value c.q.ensures.value c.requires.least c.requires.most c.requires.below c.quotient.ensures in
    rw (held z (omega (arith, made.1))) made.1
