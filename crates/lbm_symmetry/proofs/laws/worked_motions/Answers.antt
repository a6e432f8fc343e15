use Rattle.lbm_symmetry.proofs.Worked.{cells, directions, case, skewed_set}
use Rattle.lbm_symmetry.proofs.laws.worked_motions.Goals as goal

pub returns : goal.returns
returns c = record { cells = cells; directions = directions; case = case; skewed = skewed_set }
