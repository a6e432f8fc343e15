-- The numbers of a lane, whether it collides or not.
use Rattle.std.proofs.Common.{◌≡◌, ℕ, ◌+◌, ◌*◌, ◌≤◌, ◌<◌, Bool, true, false, List, ℤ, pos, ◌+ℤ◌, ◌-ℤ◌, ◌*ℤ◌, ◌≤ℤ◌, unsigned_abs, refl, sym, arith, ap, ◌-◌, inl, inr, replicate}
use Rattle.std.proofs.lemmas.Simd.{get_or-replicate}
use Rattle.lbm_lanes.specs.Lanes.{entry}
use Rattle.std.proofs.lemmas.Bool.{cases_lt}
use Rattle.std.specs.Prelude.{if◌then◌else◌, FitsSigned}
use Rattle.std.specs.Int.{w64}
use Rattle.std.proofs.lemmas.Int.{ints, fits_signed_from_abs}
use Rattle.lbm_space.specs.Stencil.{part, dot}
use Rattle.lbm_lanes.specs.Cells.{lowered}

-- a momentum along a velocity, axis by axis
pub along_is : (c : List ℤ) (x y z k a b s : ℕ) → k ≡ 8388608 → pos a ≡ pos k +ℤ part c 0 *ℤ (pos x -ℤ pos 8388608) → pos b ≡ pos a +ℤ part c 1 *ℤ (pos y -ℤ pos 8388608) → pos s ≡ pos b +ℤ part c 2 *ℤ (pos z -ℤ pos 8388608) →
    dot c (lowered x y z) ≡ pos s -ℤ pos 8388608
along_is c x y z k a b s is_k is_a is_b is_s =
    let whole : part c 0 *ℤ (pos x -ℤ pos 8388608) +ℤ part c 1 *ℤ (pos y -ℤ pos 8388608) +ℤ part c 2 *ℤ (pos z -ℤ pos 8388608) ≡ pos s -ℤ pos 8388608 =
    sums (part c 0 *ℤ (pos x -ℤ pos 8388608)) (part c 1 *ℤ (pos y -ℤ pos 8388608)) (part c 2 *ℤ (pos z -ℤ pos 8388608)) k a b s is_k is_a is_b is_s in
    whole
  where
    sums : (p q t : ℤ) (k a b s : ℕ) → k ≡ 8388608 → pos a ≡ pos k +ℤ p → pos b ≡ pos a +ℤ q → pos s ≡ pos b +ℤ t → p +ℤ q +ℤ t ≡ pos s -ℤ pos 8388608
    sums p q t k a b s is_k is_a is_b is_s = omega (arith, ints, is_k, is_a, is_b, is_s)

pub size_fits : (z : ℤ) → unsigned_abs z ≤ 57982058496 → FitsSigned w64 z
size_fits z small = fits_signed_from_abs w64 z (omega (arith, small))

-- a density where a lane collides, and elsewhere that of a fluid at rest
pub density_kept : (on : Bool) (s k z : ℤ) → k ≡ (if on then s else z) → z ≡ pos 884736 → (on ≡ true → pos 442368 ≤ℤ s) → (on ≡ true → s ≤ℤ pos 1769472) → (pos 442368 ≤ℤ k) × (k ≤ℤ pos 1769472)
density_kept true s k z is rest low high = (omega (arith, ints, is, low refl), omega (arith, ints, is, high refl))
density_kept false s k z is rest low high = (omega (arith, ints, is, rest), omega (arith, ints, is, rest))

-- a part of its momentum
pub part_kept : (on : Bool) (s k z sx kx zx : ℤ) → k ≡ (if on then s else z) → kx ≡ (if on then sx else zx) → zx ≡ pos 0 → (on ≡ true → unsigned_abs sx ≤ unsigned_abs s) → unsigned_abs kx ≤ unsigned_abs k
part_kept true s k z sx kx zx is is_x none within = rw (is, is_x) (within refl)
part_kept false s k z sx kx zx is is_x none within = omega (arith, ints, is_x, none)

pub part_small : (x r : ℕ) (k kx : ℤ) → pos x -ℤ pos 8388608 ≡ kx → k ≡ pos r → unsigned_abs kx ≤ unsigned_abs k → unsigned_abs (pos x -ℤ pos 8388608) ≤ r
part_small x r k kx is number within = omega (arith, ints, is, number, within)

pub rest_density : (l : ℕ) → l < 8 → entry (replicate 8 (pos 884736)) l ≡ pos 884736
rest_density l known = get_or-replicate 8 l (pos 884736) (pos 0) known

pub no_momentum : (l : ℕ) → l < 8 → entry (replicate 8 (pos 0)) l ≡ pos 0
no_momentum l known = get_or-replicate 8 l (pos 0) (pos 0) known

pub kept_on : (on : Bool) (s k rest : ℤ) → k ≡ (if on then s else rest) → on ≡ true → s ≡ k
kept_on true s k rest is on = sym is
kept_on false s k rest is on = absurd cc

-- the square of a number that is raised, by its size
pub square_is : (s x : ℕ) → s + 16777216 * x ≡ x * x + 70368744177664 → s ≡ unsigned_abs (pos x -ℤ pos 8388608) * unsigned_abs (pos x -ℤ pos 8388608)
square_is s x is = elim (cases_lt x 8388608) [
  | inl low ↦ (
      let k : ℕ = 8388608 - x in
      let size : unsigned_abs (pos x -ℤ pos 8388608) ≡ k = omega (arith, ints, low) in
      let e : 8388608 ≡ x + k = omega arith in
      let squares : 8388608 * 8388608 ≡ (x + k) * (x + k) = ap (λ (n : ℕ). n * n) e in
      let crosses : x * 8388608 ≡ x * (x + k) = ap (λ (n : ℕ). x * n) e in
      rw size (omega (arith, is, squares, crosses)))
  | inr high ↦ (
      let k : ℕ = x - 8388608 in
      let size : unsigned_abs (pos x -ℤ pos 8388608) ≡ k = omega (arith, ints, high) in
      let e : x ≡ 8388608 + k = omega arith in
      let squares : x * x ≡ (8388608 + k) * (8388608 + k) = ap (λ (n : ℕ). n * n) e in
      rw size (omega (arith, is, squares, e)))
]
