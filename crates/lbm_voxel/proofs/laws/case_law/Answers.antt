use Rattle.lbm_voxel.proofs.MadeCases.{makes-cases}
use Rattle.lbm_voxel.proofs.laws.case_law.Goals as goal

pub returns : goal.returns
returns c = makes-cases
