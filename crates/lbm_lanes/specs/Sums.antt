-- Sums over directions.
use Rattle.std.specs.Prelude.{◌≡◌, ℕ, ◌*◌, ◌≤◌, min, ℤ, pos, ◌*ℤ◌, int_le, unsigned_abs, FitsSigned}
use Rattle.std.specs.Int.{w64}
use Rattle.lbm_space.specs.Sum.{sum_below, all_below}
use Rattle.lbm_space.specs.Stencil.{Stencil, part, velocity}

-- the sums over the directions below m, of a cell of populations h
pub record IsSummed (v : Stencil) (m : ℕ) (h : ℕ → ℤ) (rho x y z signs : ℤ) : Type 0 where
  pub density_is : rho ≡ sum_below (min m v.directions) h
  pub x_is : x ≡ sum_below (min m v.directions) (λ i. part (velocity v i) 0 *ℤ h i)
  pub y_is : y ≡ sum_below (min m v.directions) (λ i. part (velocity v i) 1 *ℤ h i)
  pub z_is : z ≡ sum_below (min m v.directions) (λ i. part (velocity v i) 2 *ℤ h i)
  pub sign_is : int_le (pos 0) signs ≡ all_below (min m v.directions) (λ i. int_le (pos 0) (h i))
  pub rho_small : unsigned_abs rho ≤ m * 2147483648
  pub x_small : unsigned_abs x ≤ m * 2147483648
  pub y_small : unsigned_abs y ≤ m * 2147483648
  pub z_small : unsigned_abs z ≤ m * 2147483648
  pub signs_fit : FitsSigned w64 signs
