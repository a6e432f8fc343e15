-- The dividend of a pair and its quotient by the numbers of the run.
use Rattle.std.proofs.Common.{◌≡◌, ℕ, suc, ◌+◌, ◌*◌, ◌/◌, ◌<◌, ◌≤◌, ℤ, pos, negsuc, ◌+ℤ◌, ◌-ℤ◌, ◌*ℤ◌, unsigned_abs, ap, arith, ◌∙◌, inl, inr}
use Rattle.std.proofs.lemmas.Int.{ints}
use Rattle.std.proofs.lemmas.Bool.{cases_lt}
use Rattle.std.proofs.lemmas.Nat.{mul-le}
use Rattle.std.proofs.Math.Nat.{mul-le-mul_left}
use Rattle.lbm_cell.specs.Collision.{floor_div}
use Rattle.lbm_cell.proofs.Bounds.{numerator_between, departure_between}
use Rattle.lbm_cell.proofs.Limits.{parts_small}
use Rattle.lbm_lanes.specs.Pairs.{shortfall}
use Rattle.lbm_lanes.proofs.Floors.{nested}
use Rattle.lbm_lanes.proofs.Expansion.{IsDifference}
use Rattle.lbm_lanes.proofs.PairFormula.{IsPair, dividend, pair_formula}

-- what is known of a pair of populations of a cell of density r, whose velocity has n parts other than 0
pub record IsHeld (w d r own f o n : ℕ) (u : ℤ) : Type 0 where
  pub moves : 1 ≤ n
  pub light : w * (2 + 6 * n + 9 * n * n) ≤ 2 * d
  pub along : unsigned_abs u ≤ n * r
  pub square : own ≤ 3 * (r * r)
  pub ahead : f ≤ r
  pub behind : o ≤ r
  pub some : 0 < r

shortfall_small : (w d r own f n : ℕ) (u : ℤ) → 1 ≤ n → w * (2 + 6 * n + 9 * n * n) ≤ 2 * d → unsigned_abs u ≤ n * r → own ≤ 3 * (r * r) → f ≤ r →
    unsigned_abs (shortfall (pos w) (pos d) (pos r) (pos own) u (pos f)) ≤ 3 * (d * (r * r))
shortfall_small w d r own f n u moves light along square part =
    departure_between w d r f n (pos 2 *ℤ (pos r *ℤ pos r) +ℤ pos 6 *ℤ (pos r *ℤ u) +ℤ pos 9 *ℤ (u *ℤ u) -ℤ pos 3 *ℤ pos own) (numerator_between r own n u along square) part moves light

-- the dividend is below 4 r times the divisor in size
dividend_small : (k r s : ℕ) (num z : ℤ) → 0 < k → s < r → num ≡ pos 2 *ℤ (pos r *ℤ z +ℤ pos s) → unsigned_abs num ≤ 6 * (k * (r * r)) → unsigned_abs z ≤ 4 * (k * r)
dividend_small k r s num (pos a) some small is size = elim (cases_lt (4 * (k * r)) a) [
  | inr fine ↦ omega (arith, fine)
  | inl over ↦ (
      let number : unsigned_abs (pos 2 *ℤ (pos r *ℤ pos a +ℤ pos s)) ≤ 6 * (k * (r * r)) = rw is at size in
      let times : r * (4 * (k * r) + 1) ≤ r * a = mul-le-mul_left r (omega (arith, over)) in
      absurd (omega (arith, ints, number, times, small)))
]
dividend_small k r s num (negsuc a) some small is size = elim (cases_lt (4 * (k * r)) (suc a)) [
  | inr fine ↦ omega (arith, ints, fine)
  | inl over ↦ (
      let number : unsigned_abs (pos 2 *ℤ (pos r *ℤ negsuc a +ℤ pos s)) ≤ 6 * (k * (r * r)) = rw is at size in
      let times : r * (4 * (k * r) + 1) ≤ r * suc a = mul-le-mul_left r (omega (arith, over)) in
      absurd (omega (arith, ints, number, times, small)))
]

-- the relaxation of a pair
pub record IsRelaxed (d q r : ℕ) (num z : ℤ) : Type 0 where
  pub small : unsigned_abs z ≤ 4 * (2 * (d * q) * r)
  pub value : (n : ℕ) → z +ℤ pos (2 * (d * q) * 8388608) ≡ pos n → floor_div num (pos 4 *ℤ (pos d *ℤ pos r *ℤ pos q)) ≡ pos (n / (2 * (d * q))) -ℤ pos 8388608

pub pair_relaxed : (w d p m q r own x y f o n e s e' s' : ℕ) (u u' : ℤ) → 0 < d → 0 < q → p ≤ 2 * q → m ≤ 2 * q →
    IsHeld w d r own f o n u → IsHeld w d r own o f n u' → IsPair w p r own x y e s e' s' → s' < r → IsDifference u x y → IsDifference u' y x →
    (let a = shortfall (pos w) (pos d) (pos r) (pos own) u (pos f) in
    let b = shortfall (pos w) (pos d) (pos r) (pos own) u' (pos o) in
    IsRelaxed d q r (pos p *ℤ (a +ℤ b) +ℤ pos m *ℤ (a -ℤ b)) (dividend w d p m r u f o e e'))
pair_relaxed w d p m q r own x y f o n e s e' s' u u' d_some q_some p_most m_most held opposite is below ahead behind =
    let a = shortfall (pos w) (pos d) (pos r) (pos own) u (pos f) in
    let b = shortfall (pos w) (pos d) (pos r) (pos own) u' (pos o) in
    let z = dividend w d p m r u f o e e' in
    let num = pos p *ℤ (a +ℤ b) +ℤ pos m *ℤ (a -ℤ b) in
    let formula : num ≡ pos 2 *ℤ (pos r *ℤ z +ℤ pos s') = pair_formula w d p m r own x y f o e s e' s' u u' is ahead behind in
    let small_a = shortfall_small w d r own f n u held.moves held.light held.along held.square held.ahead in
    let small_b = shortfall_small w d r own o n u' held.moves held.light opposite.along held.square held.behind in
    let size : unsigned_abs num ≤ 4 * (q * (3 * (d * (r * r)))) = parts_small p m q (3 * (d * (r * r))) a b p_most m_most small_a small_b in
    let some : 1 * 1 ≤ d * q = mul-le 1 1 d q d_some q_some in
    let divisor : 4 * (d * r * q) ≡ 2 * (r * (2 * (d * q))) = omega arith in
    record {
      small = dividend_small (2 * (d * q)) r s' num z (omega (arith, some)) below formula (omega (arith, size));
      value = λ n e. ap (λ (k : ℕ). floor_div num (pos k)) divisor ∙ nested num z r s' (2 * (d * q)) 8388608 n (omega (arith, some)) below e formula;
    }
