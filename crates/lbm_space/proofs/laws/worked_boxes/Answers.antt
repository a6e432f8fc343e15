use Rattle.lbm_space.proofs.Worked.{neighbours, places_of_plane, places_of_cube}
use Rattle.lbm_space.proofs.laws.worked_boxes.Goals as goal

pub returns : goal.returns
returns c = record { neighbours = neighbours; plane = places_of_plane; cube = places_of_cube }
