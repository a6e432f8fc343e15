use Rattle.std.specs.Prelude.{◌≡◌, ◌≢◌, ℕ, ◌+◌, ◌<◌, ◌≤◌, Bool, not, ◌&&◌, nat_eq, nat_lt, nat_le, List, length, ℤ, pos, unsigned_abs, slice_index, if◌then◌else◌, All}
use Rattle.std.specs.List.{list_any}
use Rattle.std.specs.List.Sorted.{IsStrictlyIncreasing}
use Rattle.lbm_space.specs.Sum.{sum_below}
use Rattle.lbm_space.specs.Stencil.{Stencil, IsVelocitySet, part, velocity, opposite}
use Rattle.lbm_space.specs.Torus.{Torus, IsSpace, cells, back}
use Rattle.lbm_cell.specs.Limits.{least_density, greatest_first_density, greatest_first_momentum}
use Rattle.lbm_cell.specs.Collision.{RelaxationRates, IsRates, IsForce, push}

-- a case: all that a flow depends on
pub record FlowCase : Type 0 where
  -- the velocity set and the box of cells
  pub stencil : Stencil
  pub torus : Torus
  -- the first density of each cell, where 0 is a solid cell
  pub densities : List ℕ
  -- the solid cells that move, and their velocity
  pub moving : List ℕ
  pub wall : List ℤ
  -- the relaxation of the fluid, and the force on it
  pub rates : RelaxationRates
  pub force : List ℤ
  -- the first momentum of each fluid cell
  pub momentum : List ℤ

abbrev pub first_density : FlowCase → ℕ → ℕ
first_density case x = slice_index case.densities x

abbrev pub is_solid : FlowCase → ℕ → Bool
is_solid case x = nat_eq (first_density case x) 0

abbrev pub is_moving : FlowCase → ℕ → Bool
is_moving case x = list_any (λ y. nat_eq x y) case.moving

-- whether one of the n cells from x on moves
abbrev pub any_moving : FlowCase → (x n : ℕ) → Bool
any_moving case x n = list_any (λ y. nat_le x y && nat_lt y (x + n)) case.moving

-- the cell from which direction i leads to cell x
abbrev pub source : FlowCase → ℕ → ℕ → ℕ
source case x i = back case.torus (velocity case.stencil i) x

-- the cell to which direction i leads from cell x
abbrev pub target : FlowCase → ℕ → ℕ → ℕ
target case x i = source case x (opposite case.stencil i)

-- what a moving wall adds in direction i, toward a fluid cell
abbrev pub gain : FlowCase → ℕ → ℕ → ℤ
gain case x i =
    if is_moving case x && not (is_solid case (target case x i))
    then push case.stencil case.wall i
    else pos 0

-- the sum of the gains of cell x in all directions, where it is solid
abbrev pub cell_gain : FlowCase → ℕ → ℤ
cell_gain case x = if is_solid case x then sum_below case.stencil.directions (gain case x) else pos 0

-- the sum of the gains of all cells
abbrev pub all_gain : FlowCase → ℤ
all_gain case = sum_below (cells case.torus) (cell_gain case)

-- the first densities of the cells of a box: 0 is a solid cell, and a fluid cell has no less than the least density in limits
pub record AreDensities (t : Torus) (densities : List ℕ) : Type 0 where
  pub one_each : length densities ≡ cells t
  pub not_thin : All (λ n. n ≢ 0 → least_density ≤ n) densities
  pub not_dense : All (λ n. n ≤ greatest_first_density) densities

-- the parts of a vector past the dimension are 0
abbrev pub IsFlat : ℕ → List ℤ → Type 0
IsFlat dimension u = (a : ℕ) → a < 3 → dimension ≤ a → part u a ≡ pos 0

-- the first momenta that are allowed
pub record IsMomentum (dimension : ℕ) (j : List ℤ) : Type 0 where
  pub small : (a : ℕ) → a < 3 → unsigned_abs (part j a) ≤ greatest_first_momentum
  pub flat : IsFlat dimension j

-- the moving cells are listed once each, in order, and are solid
pub record AreMoving (densities moving : List ℕ) : Type 0 where
  pub rising : IsStrictlyIncreasing moving
  pub known : All (λ x. x < length densities) moving
  pub solid : All (λ x. slice_index densities x ≡ 0) moving

-- the cases that are accepted
pub record IsCase (case : FlowCase) : Type 0 where
  pub set : IsVelocitySet case.stencil
  pub space : IsSpace case.torus
  pub dimension : case.torus.dimension ≡ case.stencil.dimension
  pub densities : AreDensities case.torus case.densities
  pub moving : AreMoving case.densities case.moving
  pub wall : IsForce case.wall
  pub wall_flat : IsFlat case.stencil.dimension case.wall
  pub rates : IsRates case.rates
  pub force : IsForce case.force
  pub momentum : IsMomentum case.stencil.dimension case.momentum
