-- Motions that were worked by hand.
use Rattle.std.specs.Prelude.{◌≡◌, ℕ, ◌++◌, List, [], ◌∷◌, ℤ, pos, negsuc, replicate}
use Rattle.lbm_space.specs.Sum.{list_below}
use Rattle.lbm_space.specs.Stencil.{Stencil, IsVelocitySet}
use Rattle.lbm_space.specs.Tables.{d2q9, d3q19}
use Rattle.lbm_space.specs.Torus.{Torus, torus, cells}
use Rattle.lbm_cell.specs.Collision.{rates}
use Rattle.lbm_model.specs.Case.{FlowCase}
use Rattle.lbm_symmetry.specs.Motions.{Motion, translation, mirror, exchange, quarter_turn, moved_vector, moved_torus, moved_cell, former_cell}
use Rattle.lbm_symmetry.specs.Sets.{IsSymmetric, former_direction}
use Rattle.lbm_symmetry.specs.Moved.{moved_case}

abbrev vector : ℤ → ℤ → ℤ → List ℤ
vector x y z = x ∷ y ∷ z ∷ []

-- a plane of three columns and two rows, whose cells are 0 1 2 and, above them, 3 4 5
abbrev plane : Torus
plane = torus 2 3 2 1

-- for each cell, in order, the cell to which it is moved
abbrev places : Motion → List ℕ
places m = list_below (cells plane) (moved_cell m plane)

pub record MovedCells : Type 0 where
  -- one to the right and one up: 0 comes to 4, and 5, in the last column of the last row, to 0
  pub shifted : places (translation (vector (pos 1) (pos 1) (pos 0))) ≡ 4 ∷ 5 ∷ 3 ∷ 1 ∷ 2 ∷ 0 ∷ []
  -- one to the left
  pub shifted_left : places (translation (vector (negsuc 0) (pos 0) (pos 0))) ≡ 2 ∷ 0 ∷ 1 ∷ 5 ∷ 3 ∷ 4 ∷ []
  pub left_and_right : places (mirror 0) ≡ 2 ∷ 1 ∷ 0 ∷ 5 ∷ 4 ∷ 3 ∷ []
  pub up_and_down : places (mirror 1) ≡ 3 ∷ 4 ∷ 5 ∷ 0 ∷ 1 ∷ 2 ∷ []
  -- rows become columns: two columns and three rows
  pub sides : moved_torus (exchange 0 1) plane ≡ torus 2 2 3 1
  pub exchanged : places (exchange 0 1) ≡ 0 ∷ 2 ∷ 4 ∷ 1 ∷ 3 ∷ 5 ∷ []
  -- to the left by a quarter: the first row becomes the last column
  pub turned : places (quarter_turn 0 1) ≡ 1 ∷ 3 ∷ 5 ∷ 0 ∷ 2 ∷ 4 ∷ []
  -- and back: which cell was moved to each cell
  pub former : list_below 6 (former_cell (quarter_turn 0 1) plane) ≡ 3 ∷ 0 ∷ 4 ∷ 1 ∷ 5 ∷ 2 ∷ []

-- directions 1 to 4 of D2Q9 are right, up, left and down, and 5 to 8 the diagonals from right and up on
pub record MovedDirections : Type 0 where
  pub turned_vector : moved_vector (quarter_turn 0 1) (vector (pos 1) (pos 2) (pos 3)) ≡ vector (negsuc 1) (pos 1) (pos 3)
  -- what was turned to the left came from the right of it
  pub turned : list_below 9 (former_direction (quarter_turn 0 1) d2q9) ≡ 0 ∷ 4 ∷ 1 ∷ 2 ∷ 3 ∷ 8 ∷ 5 ∷ 6 ∷ 7 ∷ []
  pub mirrored : list_below 9 (former_direction (mirror 0) d2q9) ≡ 0 ∷ 3 ∷ 2 ∷ 1 ∷ 4 ∷ 6 ∷ 5 ∷ 8 ∷ 7 ∷ []
  pub shifted : list_below 9 (former_direction (translation (vector (pos 5) (pos 7) (pos 0))) d2q9) ≡ 0 ∷ 1 ∷ 2 ∷ 3 ∷ 4 ∷ 5 ∷ 6 ∷ 7 ∷ 8 ∷ []

-- a wall that moves to the right below two fluid cells, of which the upper one is denser
unfoldable pub column : FlowCase
column = record {
  stencil = d2q9;
  torus = torus 2 1 3 1;
  densities = 0 ∷ 884736 ∷ 921600 ∷ [];
  moving = 0 ∷ [];
  wall = vector (pos 7) (pos 0) (pos 0);
  rates = rates (pos 5) (pos 4) (pos 4);
  force = vector (pos 1) (pos 2) (pos 0);
  momentum = vector (pos 0) (pos 9) (pos 0);
}

-- turned to the left it stands on the right, at the end of a row of three, and moves up
pub record MovedCase : Type 0 where
  pub box : (moved_case (quarter_turn 0 1) column).torus ≡ torus 2 3 1 1
  pub densities : (moved_case (quarter_turn 0 1) column).densities ≡ 921600 ∷ 884736 ∷ 0 ∷ []
  pub moving : (moved_case (quarter_turn 0 1) column).moving ≡ 2 ∷ []
  pub wall : (moved_case (quarter_turn 0 1) column).wall ≡ vector (pos 0) (pos 7) (pos 0)
  pub force : (moved_case (quarter_turn 0 1) column).force ≡ vector (negsuc 1) (pos 1) (pos 0)
  pub momentum : (moved_case (quarter_turn 0 1) column).momentum ≡ vector (negsuc 8) (pos 0) (pos 0)
  pub twice : moved_case (mirror 1) (moved_case (mirror 1) column) ≡ column

-- The eight laws of a velocity set do not say that it is symmetric: these weights of the directions of D3Q19 meet them, and along z they
-- are less than along x and y.
unfoldable pub skewed : Stencil
skewed = record d3q19 {
  denominator = pos 72;
  weights = pos 20 ∷ replicate 4 (pos 6) ++ replicate 2 (pos 4) ++ replicate 2 (pos 1) ++ replicate 4 (pos 2) ++ replicate 2 (pos 1) ++ replicate 4 (pos 2);
}

pub record SkewedSet : Type 0 where
  pub laws : IsVelocitySet skewed
  pub not_symmetric : ¬ IsSymmetric skewed
