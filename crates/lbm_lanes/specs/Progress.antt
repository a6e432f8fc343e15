-- The kernel on its way over the pairs of directions.
use Rattle.std.specs.Prelude.{◌≡◌, ℕ, ◌*◌, ◌<◌, ◌≤◌, Bool, true, List, ℤ, pos, ◌*ℤ◌, unsigned_abs, slice_index}
use Rattle.lbm_space.specs.Stencil.{Stencil}
use Rattle.lbm_cell.specs.Collision.{RelaxationRates, IsForce}
use Rattle.lbm_walk.specs.Turns.{IsUnderway, sum_before}
use Rattle.lbm_lanes.specs.Cells.{IsReady, is_on}
use Rattle.lbm_lanes.specs.Lanes.{entry}
use Rattle.lbm_lanes.specs.Pairs.{IsDivisor, IsOne}

-- rates and a force that are allowed, and 2 den q with its reciprocal; the rates are one where that is said
pub record IsRun (v : Stencil) (one : Bool) (r : RelaxationRates) (g : List ℤ) (d shift reciprocal : ℕ) : Type 0 where
  pub force : IsForce g
  pub prepared : IsDivisor d shift reciprocal
  pub divisor : pos d ≡ pos 2 *ℤ (v.denominator *ℤ r.q)
  pub ones : one ≡ true → IsOne r

-- the numbers of eight cells, of which cell l had the populations h l
pub record AreCells (v : Stencil) (mixed : Bool) (colliding rho reciprocal base x y z : List ℕ) (h : ℕ → ℕ → ℤ) : Type 0 where
  pub ready : (l : ℕ) → l < 8 → IsReady v (is_on mixed (slice_index colliding l)) (slice_index rho l) (slice_index reciprocal l) (slice_index base l) (slice_index x l) (slice_index y l) (slice_index z l) (h l)
  pub small : (k l : ℕ) → k < v.directions → l < 8 → unsigned_abs (h l k) ≤ 2147483648

-- the pairs whose turn is below m were put; `total` is the sum of what moves of them
pub record IsProgress (v : Stencil) (n m : ℕ) (after h there sent : ℕ → ℕ → ℤ) (total : List ℤ) : Type 0 where
  pub underway : IsUnderway v n m after h there sent
  pub past : (k l : ℕ) → k < v.directions → n ≤ l → h l k ≡ pos 0
  pub total_is : (l : ℕ) → l < 8 → entry total l ≡ sum_before v m (after l)
  pub small : (l : ℕ) → l < 8 → unsigned_abs (entry total l) ≤ m * 8589934592

-- at first the cells take h, and a lane past them has nothing
pub record IsBegun (v : Stencil) (n : ℕ) (h there : ℕ → ℕ → ℤ) : Type 0 where
  pub taken : (k j : ℕ) → k < v.directions → j < n → there k j ≡ h j k
  pub past : (k l : ℕ) → k < v.directions → n ≤ l → h l k ≡ pos 0
