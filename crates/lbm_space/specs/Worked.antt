-- Boxes that were worked by hand: their neighbours, padded places and rows.
use Rattle.std.specs.Prelude.{◌≡◌, pos, negsuc}
use Rattle.lbm_space.specs.Stencil.{velocity}
use Rattle.lbm_space.specs.Tables.{d2q9, d3q19}
use Rattle.lbm_space.specs.Torus.{Torus, torus, cell_number, x_of, y_of, back, padded}
use Rattle.lbm_space.specs.Padded.{padded_index, offset, reach, wrap, row_start}

-- a plane of 4 by 3 cells, and a cube of 3 cells a side, whose layers have 9 cells
abbrev small_plane : Torus
small_plane = torus 2 4 3 1

abbrev cube : Torus
cube = torus 3 3 3 3

pub record Neighbours : Type 0 where
  -- (3, 2) is the last cell; behind (0, 0) along (1, 1) it lies, and behind it along (-1, -1) lies (0, 0)
  pub last_cell : cell_number small_plane 3 2 0 ≡ 11
  pub last_column : x_of small_plane 11 ≡ 3
  pub last_row : y_of small_plane 11 ≡ 2
  pub first_from_last : back small_plane (velocity d2q9 5) 0 ≡ 11
  pub last_from_first : back small_plane (velocity d2q9 7) 11 ≡ 0
  -- behind (0, 0, 0) along (0, 0, 1) lies (0, 0, 2), and behind (2, 2, 2) along (0, -1, -1) lies (2, 0, 0)
  pub layer_below : back cube (velocity d3q19 5) 0 ≡ 18
  pub edge_above : back cube (velocity d3q19 12) 26 ≡ 2

-- a plane of 5 by 7 cells: with its pads it has 9 lines of 7 places, and cell (x, y) is place x + 1 + 7 * (y + 1)
abbrev plane : Torus
plane = torus 2 5 7 1

pub record PlacesOfPlane : Type 0 where
  pub all : padded plane ≡ 63
  pub first_cell : padded_index plane 0 ≡ 8
  pub last_cell : padded_index plane 34 ≡ 54
  pub at_rest : offset plane (velocity d2q9 0) ≡ pos 0
  pub right_and_up : offset plane (velocity d2q9 5) ≡ pos 8
  pub left_and_up : offset plane (velocity d2q9 6) ≡ pos 6
  pub left_and_down : offset plane (velocity d2q9 7) ≡ negsuc 7
  pub farthest : reach plane d2q9 ≡ 8
  -- the first pad stands for the last cell, and the last pad for the first cell
  pub first_place : wrap plane 0 ≡ 34
  pub cell_itself : wrap plane 8 ≡ 0
  pub last_place : wrap plane 62 ≡ 0
  pub first_row : row_start plane 0 ≡ 7
  pub last_row : row_start plane 6 ≡ 49
  pub past_rows : row_start plane 7 ≡ 56

-- the cube: with its pads it has 5 places a side, 25 a layer
pub record PlacesOfCube : Type 0 where
  pub all : padded cube ≡ 125
  pub middle : padded_index cube 13 ≡ 62
  pub back_and_up : offset cube (velocity d3q19 11) ≡ pos 30
  pub right_and_below : offset cube (velocity d3q19 15) ≡ negsuc 23
  pub farthest : reach cube d3q19 ≡ 30
  pub first_place : wrap cube 0 ≡ 26
  pub cell_itself : wrap cube 62 ≡ 13
  pub last_place : wrap cube 124 ≡ 0
  pub first_row : row_start cube 0 ≡ 30
  pub second_layer : row_start cube 3 ≡ 55
  pub past_rows : row_start cube 9 ≡ 95
