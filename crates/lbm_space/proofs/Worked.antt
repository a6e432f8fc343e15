-- The worked boxes, by computation.
use Rattle.std.proofs.Common.{refl}
use Rattle.lbm_space.specs.Padded.{padded_index, offset, reach, wrap, row_start}
use Rattle.lbm_space.specs.Worked.{Neighbours, PlacesOfPlane, PlacesOfCube}

pub neighbours : Neighbours
neighbours = record { last_cell = refl; last_column = refl; last_row = refl; first_from_last = refl; last_from_first = refl; layer_below = refl; edge_above = refl }

pub places_of_plane : PlacesOfPlane
unfolding padded_index offset reach wrap row_start
places_of_plane = record {
  all = refl;
  first_cell = refl;
  last_cell = refl;
  at_rest = refl;
  right_and_up = refl;
  left_and_up = refl;
  left_and_down = refl;
  farthest = refl;
  first_place = refl;
  cell_itself = refl;
  last_place = refl;
  first_row = refl;
  last_row = refl;
  past_rows = refl;
}

pub places_of_cube : PlacesOfCube
unfolding padded_index offset reach wrap row_start
places_of_cube = record {
  all = refl;
  middle = refl;
  back_and_up = refl;
  right_and_below = refl;
  farthest = refl;
  first_place = refl;
  cell_itself = refl;
  last_place = refl;
  first_row = refl;
  second_layer = refl;
  past_rows = refl;
}
