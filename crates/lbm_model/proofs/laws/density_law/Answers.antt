use Rattle.lbm_cell.proofs.Conservation.{density-collision, density-reflection}
use Rattle.lbm_model.proofs.laws.density_law.Goals as goal

pub returns-clause-collision : goal.returns-clause-collision
returns-clause-collision c = λ v r g f laws. density-collision v r g f laws.some_direction

pub returns-clause-reflection : goal.returns-clause-reflection
returns-clause-reflection c = density-reflection
