use Rattle.lbm_arrays.proofs.Worked.{steps_of_plane}
use Rattle.lbm_arrays.proofs.laws.worked_steps.Goals as goal

pub returns : goal.returns
returns c = steps_of_plane
