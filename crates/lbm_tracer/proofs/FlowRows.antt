-- The sums over the directions of the populations of a cell.
use Rattle.std.proofs.Common.{◌≡◌, ℕ, ◌+◌, ◌*◌, ◌^◌, ◌<◌, ◌≤◌, ℤ, pos, ◌+ℤ◌, ◌*ℤ◌, List, unsigned_abs, FitsSigned, to_z, of_z, w32, w64, slice_index_or, sym, ap, ◌∙◌, arith, lit<}
use Rattle.std.proofs.lemmas.Int.{ints}
use Rattle.lbm_space.specs.Sum.{sum_below}
use Rattle.lbm_space.specs.Stencil.{Stencil, IsVelocitySet, part, velocity}
use Rattle.lbm_space.proofs.Sums.{sum_below_more}
use Rattle.lbm_cell.proofs.Sizes.{product_size, unsigned_abs-add}
use Rattle.lbm_cell.specs.declared.populations.Moment.{Moment}
use Rattle.lbm_tracer.specs.Collision.{IsMomentOf}
use Rattle.lbm_tracer.proofs.Numbers.{held}

-- the sums over the first i directions of the populations f of a cell, and their sizes
pub record IsSummed (v : Stencil) (i : ℕ) (f : ℕ → ℤ) (flow : Moment) : Type 0 where
  pub rho : flow.rho ≡ sum_below i f
  pub x : flow.jx ≡ sum_below i (λ k. part (velocity v k) 0 *ℤ f k)
  pub y : flow.jy ≡ sum_below i (λ k. part (velocity v k) 1 *ℤ f k)
  pub z : flow.jz ≡ sum_below i (λ k. part (velocity v k) 2 *ℤ f k)
  pub rho_small : unsigned_abs flow.rho ≤ i * 2 ^ 31
  pub x_small : unsigned_abs flow.jx ≤ i * 2 ^ 31
  pub y_small : unsigned_abs flow.jy ≤ i * 2 ^ 31
  pub z_small : unsigned_abs flow.jz ≤ i * 2 ^ 31

pub word_small : (p : ℤ) → FitsSigned w32 p → unsigned_abs p ≤ 2 ^ 31
word_small p fits = omega (arith, ints, fits.sfits)

-- a sum of few terms is small
pub sum_small : (z : ℤ) (i : ℕ) → i ≤ 27 → unsigned_abs z ≤ i * 2 ^ 31 → unsigned_abs z ≤ 2 ^ 40
sum_small z i few small = omega (arith, few, small)

-- one term more
term_small : (z t : ℤ) (i : ℕ) → unsigned_abs z ≤ i * 2 ^ 31 → unsigned_abs t ≤ 2 ^ 31 → unsigned_abs (z +ℤ t) ≤ (i + 1) * 2 ^ 31
term_small z t i small_z small_t = omega (arith, unsigned_abs-add z t, small_z, small_t)

times_small : (c p : ℤ) → unsigned_abs c ≤ 1 → unsigned_abs p ≤ 2 ^ 31 → unsigned_abs (c *ℤ p) ≤ 2 ^ 31
times_small c p unit small = let size = product_size c p 1 (2 ^ 31) unit small in omega (arith, size)

sum-more : (i : ℕ) (f : ℕ → ℤ) (z t new : ℤ) → z ≡ sum_below i f → t ≡ f i → new ≡ z +ℤ t → new ≡ sum_below (i + 1) f
sum-more i f z t new z_is t_is is = rw (is, z_is, t_is) (sym (sum_below_more i f))

-- one direction more
module _ (v : Stencil) (laws : IsVelocitySet v) (i : ℕ) (known : i < v.directions) (f : ℕ → ℤ) (old new : Moment) (p : ℤ) (is : p ≡ f i) (small : unsigned_abs p ≤ 2 ^ 31) where
  part_unit : (a : ℕ) → a < 3 → unsigned_abs (part (velocity v i) a) ≤ 1
  part_unit a axis = laws.unit_parts i a known axis

  pub summed-more : IsSummed v i f old → new.rho ≡ old.rho +ℤ p → new.jx ≡ old.jx +ℤ part (velocity v i) 0 *ℤ p → new.jy ≡ old.jy +ℤ part (velocity v i) 1 *ℤ p
      → new.jz ≡ old.jz +ℤ part (velocity v i) 2 *ℤ p → IsSummed v (i + 1) f new
  summed-more before rho_is x_is y_is z_is = record {
    rho = sum-more i f old.rho p new.rho before.rho is rho_is;
    x = sum-more i (λ k. part (velocity v k) 0 *ℤ f k) old.jx (part (velocity v i) 0 *ℤ p) new.jx before.x (ap (λ (z : ℤ). part (velocity v i) 0 *ℤ z) is) x_is;
    y = sum-more i (λ k. part (velocity v k) 1 *ℤ f k) old.jy (part (velocity v i) 1 *ℤ p) new.jy before.y (ap (λ (z : ℤ). part (velocity v i) 1 *ℤ z) is) y_is;
    z = sum-more i (λ k. part (velocity v k) 2 *ℤ f k) old.jz (part (velocity v i) 2 *ℤ p) new.jz before.z (ap (λ (z : ℤ). part (velocity v i) 2 *ℤ z) is) z_is;
    rho_small = rw rho_is (term_small old.rho p i before.rho_small small);
    x_small = rw x_is (term_small old.jx (part (velocity v i) 0 *ℤ p) i before.x_small (times_small (part (velocity v i) 0) p (part_unit 0 (lit< tt)) small));
    y_small = rw y_is (term_small old.jy (part (velocity v i) 1 *ℤ p) i before.y_small (times_small (part (velocity v i) 1) p (part_unit 1 (lit< tt)) small));
    z_small = rw z_is (term_small old.jz (part (velocity v i) 2 *ℤ p) i before.z_small (times_small (part (velocity v i) 2) p (part_unit 2 (lit< tt)) small));
  }

-- no direction yet
pub none-summed : (v : Stencil) (f : ℕ → ℤ) (flow : Moment) → flow.rho ≡ pos 0 → flow.jx ≡ pos 0 → flow.jy ≡ pos 0 → flow.jz ≡ pos 0 → IsSummed v 0 f flow
none-summed v f flow rho_is x_is y_is z_is = record {
  rho = rho_is;
  x = x_is;
  y = y_is;
  z = z_is;
  rho_small = rw rho_is (omega arith);
  x_small = rw x_is (omega arith);
  y_small = rw y_is (omega arith);
  z_small = rw z_is (omega arith);
}

-- and all of them
pub all-summed : (v : Stencil) (f : ℕ → ℤ) (flow : Moment) → IsSummed v v.directions f flow → IsMomentOf v f flow
all-summed v f flow is = record { rho = is.rho; x = is.x; y = is.y; z = is.z }

-- a part of a velocity as a word holds it
pub held_part : (c u : List ℤ) (a : ℕ) → c ≡ u → unsigned_abs (part u a) ≤ 1 → to_z w64 (of_z w64 (slice_index_or c a (pos 0))) ≡ part u a
held_part c u a is unit = ap (λ (w : List ℤ). to_z w64 (of_z w64 (part w a))) is ∙ held (part u a) (omega (arith, unit))
