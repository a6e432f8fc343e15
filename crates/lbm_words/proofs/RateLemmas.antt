-- The relaxation rate of a tracer.
use Rattle.std.proofs.Common.{◌≡◌, ◌*◌, ◌&&◌, ℕ, true, inl, inr, refl, arith, leb-true}
use Rattle.std.specs.Prelude.{Option, Some, None, nat_le, nat_lt, pos}
use Rattle.std.specs.Option.{SomeIff}
use Rattle.std.proofs.lemmas.Bool.{cases_Bool, and_parts, ltb-true, lt-ltb, le-leb}
use Rattle.std.proofs.lemmas.Int.{ints}
use Rattle.lbm_cell.specs.Collision.{RelaxationRates, IsRates, rates}
use Rattle.lbm_words.specs.Rate.{is_rate, rate}

-- numbers that pass the test make a rate
pub rate_allowed : (p q : ℕ) → is_rate p q ≡ true → IsRates (rates (pos p) (pos p) (pos q))
rate_allowed p q passed =
    let stable = and_parts (nat_le 1 p && nat_le p 1024 && nat_le 1 q && nat_le q 1024) (nat_lt p (2 * q)) passed in
    let q_most = and_parts (nat_le 1 p && nat_le p 1024 && nat_le 1 q) (nat_le q 1024) stable.0 in
    let q_least = and_parts (nat_le 1 p && nat_le p 1024) (nat_le 1 q) q_most.0 in
    let p_range = and_parts (nat_le 1 p) (nat_le p 1024) q_least.0 in
    let below = ltb-true p (2 * q) stable.1 in
    let q_high = leb-true q 1024 q_most.1 in
    let q_low = leb-true 1 q q_least.1 in
    let p_high = leb-true p 1024 p_range.1 in
    let p_low = leb-true 1 p p_range.0 in
    record {
      p_above = omega (arith, ints);
      m_above = omega (arith, ints);
      q_above = omega (arith, ints);
      p_at_most = omega (arith, ints);
      m_at_most = omega (arith, ints);
      q_at_most = omega (arith, ints);
      p_stable = omega (arith, ints);
      m_stable = omega (arith, ints);
    }

-- and the numbers of a rate pass it
rate_passes : (p q : ℕ) → IsRates (rates (pos p) (pos p) (pos q)) → is_rate p q ≡ true
rate_passes p q allowed =
    let p_low = le-leb 1 p (omega (arith, ints)) in
    let p_high = le-leb p 1024 (omega (arith, ints)) in
    let q_low = le-leb 1 q (omega (arith, ints)) in
    let q_high = le-leb q 1024 (omega (arith, ints)) in
    let below = lt-ltb p (2 * q) (omega (arith, ints)) in
    rw (p_low, p_high, q_low, q_high, below) refl

-- what is made exactly of allowed numbers is their rate
pub rate-made : (p q : ℕ) (made : Option RelaxationRates) → SomeIff made (IsRates (rates (pos p) (pos p) (pos q))) (rates (pos p) (pos p) (pos q)) → made ≡ rate p q
rate-made p q None none = elim (cases_Bool (is_rate p q)) [
  | inl passed ↦ absurd (none (rate_allowed p q passed))
  | inr failed ↦ rw failed refl
]
rate-made p q (Some made) some = rw (some.1, rate_passes p q some.0) refl
