-- The worked steps, by computation.
use Rattle.std.proofs.Common.{refl}
use Rattle.lbm_space.specs.Padded.{padded_index, offset, reach, row_start}
use Rattle.lbm_arrays.specs.Worked.{StepsOfPlane}

pub steps_of_plane : StepsOfPlane
unfolding padded_index offset reach row_start
steps_of_plane = record {
  in_place = refl;
  exchange = refl;
  ahead = refl;
  rise = refl;
  fall = refl;
  nothing_rising = refl;
  rising = refl;
  rising_to_the_end = refl;
  falling_from_the_front = refl;
  nothing_falling = refl;
}
