-- How large the gain of a wall is.
use Rattle.std.proofs.Common.{◌≡◌, ℕ, zero, suc, ◌+◌, ◌*◌, ◌^◌, ◌<◌, ◌≤◌, ℤ, pos, negsuc, ◌*ℤ◌, ◌≤ℤ◌, ◌<ℤ◌, unsigned_abs, List, arith, inl, inr, lit<, refl, ◌+ℤ◌, FitsSigned, to_z, of_z}
use Rattle.std.specs.Int.{w64}
use Rattle.std.proofs.lemmas.Int.{ints, unsigned_abs-mul}
use Rattle.std.proofs.lemmas.Bool.{cases_lt}
use Rattle.std.proofs.lemmas.Nat.{mul-le}
use Rattle.lbm_space.specs.Stencil.{Stencil, dot, velocity, weight, moving_axes, IsVelocitySet}
use Rattle.lbm_cell.specs.Collision.{IsForce, push}
use Rattle.lbm_cell.proofs.Bounds.{dot_size}

-- the weight of a moving direction is small beside its velocity
light_weight : (w d : ℤ) (k : ℕ) → pos 0 <ℤ w → d ≤ℤ pos 216 → (w *ℤ pos k) ≤ℤ (pos 2 *ℤ d) → unsigned_abs w * k ≤ 432
light_weight (pos a) d k above small light = omega (arith, ints)
light_weight (negsuc a) d k above small light = absurd (omega (arith, ints))

light_push : (w n : ℕ) → n ≤ 3 → w * (2 + 6 * n + 9 * n * n) ≤ 432 → w * (n * 1024) < 32768
light_push w zero few light = omega arith
light_push w (suc zero) few light = omega arith
light_push w (suc (suc zero)) few light = omega arith
light_push w (suc (suc (suc zero))) few light = omega arith
light_push w (suc (suc (suc (suc n)))) few light = absurd (omega arith)

-- what a wall gives in one direction is below 2^15
pub push_small : (v : Stencil) (u : List ℤ) (i : ℕ) → IsVelocitySet v → IsForce u → i < v.directions → unsigned_abs (push v u i) < 2 ^ 15
push_small v u i laws allowed known =
    let n = moving_axes (velocity v i) in
    let along : unsigned_abs (dot (velocity v i) u) ≤ n * 1024 = dot_size (velocity v i) u 1024 allowed.x_small allowed.y_small allowed.z_small in
    let product = mul-le (unsigned_abs (weight v i)) (unsigned_abs (dot (velocity v i) u)) (unsigned_abs (weight v i)) (n * 1024) (omega arith) along in
    let size : unsigned_abs (push v u i) ≤ unsigned_abs (weight v i) * (n * 1024) = rw (unsigned_abs-mul (weight v i) (dot (velocity v i) u)) product in
    elim (cases_lt 0 i) [
      | inl moving ↦ (
          let axes : n ≤ 3 = omega (arith, laws.unit_parts i 0 known (lit< tt), laws.unit_parts i 1 known (lit< tt), laws.unit_parts i 2 known (lit< tt)) in
          let light : unsigned_abs (weight v i) * (2 + 6 * n + 9 * n * n) ≤ 432 = light_weight (weight v i) v.denominator (2 + 6 * n + 9 * n * n) (laws.positive_weights i known) laws.small_denominator (laws.light i moving known) in
          omega (arith, size, light_push (unsigned_abs (weight v i)) n axes light))
      | inr still ↦ (
          let rest : i ≡ 0 = omega arith in
          let none : n ≡ 0 = rw rest (rw (laws.rest 0 (lit< tt), laws.rest 1 (lit< tt), laws.rest 2 (lit< tt)) refl) in
          let nothing : unsigned_abs (weight v i) * (n * 1024) ≡ 0 = rw none (omega arith) in
          omega (arith, size, nothing))
    ]

-- the sum of a population and a gain fits, and is what the machine gives
pub gain_fits : (x z : ℤ) → unsigned_abs x ≤ 2 ^ 28 → unsigned_abs z < 2 ^ 15 → FitsSigned w64 (to_z w64 (of_z w64 x) +ℤ to_z w64 (of_z w64 z))
gain_fits x z small_x small_z = omega (arith, ints)

pub gain_is : (x z : ℤ) → unsigned_abs x ≤ 2 ^ 28 → unsigned_abs z < 2 ^ 15 → to_z w64 (of_z w64 (to_z w64 (of_z w64 x) +ℤ to_z w64 (of_z w64 z))) ≡ x +ℤ z
gain_is x z small_x small_z = omega (arith, ints)
