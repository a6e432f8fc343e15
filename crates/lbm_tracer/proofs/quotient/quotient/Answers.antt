use Rattle.std.proofs.Common.{◌≡◌, ◌<◌, ◌≤◌, ◌^◌, ℤ, pos, ◌≤ℤ◌, ◌-ℤ◌, ◌*ℤ◌, ◌<ℤ◌, unsigned_abs, true, T, FitsSigned, w64, to_z, of_z, arith, ◌∙◌, sym, subst}
use Rattle.std.specs.Prelude.{int_le, int_lt}
use Rattle.std.proofs.lemmas.Int.{ints, to_z-of_z}
use Rattle.lbm_cell.proofs.Sizes.{product_size}
use Rattle.lbm_tracer.proofs.Quotients.{floor_is}
use Rattle.lbm_tracer.proofs.quotient.quotient.Goals as goal

fits : (z : ℤ) → unsigned_abs z < 2 ^ 63 → FitsSigned w64 z
fits z small = omega (arith, ints)

held : (z : ℤ) → unsigned_abs z < 2 ^ 63 → to_z w64 (of_z w64 z) ≡ z
held z small = to_z-of_z w64 z (fits z small)

divisor_small : (d : ℤ) → pos 1 ≤ℤ d → d ≤ℤ pos 34359738368 → unsigned_abs d ≤ 34359738368
divisor_small d some few = omega (arith, ints)

-- what is taken from a, and what is left
part : (q d : ℤ) → unsigned_abs q ≤ 67108864 → pos 1 ≤ℤ d → d ≤ℤ pos 34359738368 → unsigned_abs (q *ℤ d) ≤ 2305843009213693952
part q d small some few = product_size q d 67108864 34359738368 small (divisor_small d some few)

left : (a b : ℤ) → unsigned_abs a < 2 ^ 62 → unsigned_abs b ≤ 2305843009213693952 → unsigned_abs (a -ℤ b) < 2 ^ 63
left a b small_a small_b = omega (arith, ints)

-- tests that have passed
at_most_from : (x y : ℤ) → int_le x y ≡ true → x ≤ℤ y
at_most_from x y passed = record { le = subst T (sym passed) tt }

below_from : (x y : ℤ) → int_lt x y ≡ true → x <ℤ y
below_from x y passed = record { lt = subst T (sym passed) tt }

pub overflow_mul-rest : goal.overflow_mul-rest
overflow_mul-rest c =
    let q = c.whole-guess.result in let d = c.args.d in
    rw (held q (omega (arith, c.whole-guess.ensures)), held d (omega (arith, divisor_small d c.requires.some c.requires.few)))
    (fits (q *ℤ d) (omega (arith, part q d c.whole-guess.ensures c.requires.some c.requires.few)))

pub overflow_sub-rest : goal.overflow_sub-rest
overflow_sub-rest c =
    let q = c.whole-guess.result in let d = c.args.d in let a = c.args.a in
    let taken = part q d c.whole-guess.ensures c.requires.some c.requires.few in
    rw (held a (omega (arith, c.requires.small)), held q (omega (arith, c.whole-guess.ensures)), held d (omega (arith, divisor_small d c.requires.some c.requires.few)), held (q *ℤ d) (omega (arith, taken)))
    (fits (a -ℤ q *ℤ d) (left a (q *ℤ d) c.requires.small taken))

pub returns-then-rest-d : goal.returns-then-rest-d
returns-then-rest-d c =
    let q = c.whole-guess.result in let d = c.args.d in let a = c.args.a in
    let taken = part q d c.whole-guess.ensures c.requires.some c.requires.few in
    let held_a = held a (omega (arith, c.requires.small)) in let held_q = held q (omega (arith, c.whole-guess.ensures)) in
    let held_d = held d (omega (arith, divisor_small d c.requires.some c.requires.few)) in let held_part = held (q *ℤ d) (omega (arith, taken)) in
    let held_rest = held (a -ℤ q *ℤ d) (left a (q *ℤ d) c.requires.small taken) in
    let above : int_le (pos 0) (a -ℤ q *ℤ d) ≡ true = rw (held_a, held_q, held_d, held_part, held_rest) at c.if-rest-ge0.true in
    let below : int_lt (a -ℤ q *ℤ d) d ≡ true = rw (held_a, held_q, held_d, held_part, held_rest) at c.if-rest-d.true in
    held_q ∙ sym (floor_is a d q (a -ℤ q *ℤ d) (at_most_from (pos 0) (a -ℤ q *ℤ d) above) (below_from (a -ℤ q *ℤ d) d below) (λ i. a -ℤ q *ℤ d))
