-- What is known of the amounts of a cell in limits.
use Rattle.std.proofs.Common.{◌≡◌, ℕ, ◌<◌, ◌≤◌, ℤ, pos, ◌≤ℤ◌, unsigned_abs, true, T, sym, subst, arith}
use Rattle.std.specs.Prelude.{IsTrue, int_le}
use Rattle.std.proofs.lemmas.Int.{ints}
use Rattle.std.proofs.lemmas.Bool.{and_parts}
use Rattle.lbm_space.specs.Sum.{all_below}
use Rattle.lbm_space.specs.Stencil.{Stencil}
use Rattle.lbm_space.specs.Laws.{all_below_at}
use Rattle.lbm_cell.specs.Moments.{density}
use Rattle.lbm_cell.proofs.Bounds.{one_at_most}
use Rattle.lbm_tracer.specs.Collision.{in_tracer_limits}
use Rattle.lbm_tracer.proofs.Sets.{IsTracerSet}

pub record InTracerLimits (v : Stencil) (g : ℕ → ℤ) : Type 0 where
  pub not_negative : (k : ℕ) → k < v.directions → pos 0 ≤ℤ g k
  pub few : density v g ≤ℤ pos 16777216

at_most_from : (x y : ℤ) → int_le x y ≡ true → x ≤ℤ y
at_most_from x y passed = record { le = subst T (sym passed) tt }

pub InTracerLimits-from_test : (v : Stencil) (g : ℕ → ℤ) → IsTrue (in_tracer_limits v g) → InTracerLimits v g
InTracerLimits-from_test v g h =
    let both : (all_below v.directions (λ k. int_le (pos 0) (g k)) ≡ true) × (int_le (density v g) (pos 16777216) ≡ true) = and_parts _ _ h in
    record {
      not_negative = λ k known. at_most_from (pos 0) (g k) (all_below_at (λ j. int_le (pos 0) (g j)) v.directions both.0 k known);
      few = at_most_from (density v g) (pos 16777216) both.1;
    }

pub total_small : (v : Stencil) (g : ℕ → ℤ) → IsTracerSet v → InTracerLimits v g → unsigned_abs (density v g) ≤ 16777216
total_small v g facts limits =
    let whole = one_at_most v.directions g limits.not_negative 0 facts.some in
    let above : pos 0 ≤ℤ density v g = whole.0 in
    let few : density v g ≤ℤ pos 16777216 = limits.few in
    omega (arith, ints)

pub amount_small : (v : Stencil) (g : ℕ → ℤ) (k : ℕ) → InTracerLimits v g → k < v.directions → unsigned_abs (g k) ≤ 16777216
amount_small v g k limits known =
    let whole = one_at_most v.directions g limits.not_negative k known in
    let above : pos 0 ≤ℤ g k = limits.not_negative k known in
    let part : g k ≤ℤ density v g = whole.1 in
    let few : density v g ≤ℤ pos 16777216 = limits.few in
    omega (arith, ints)
