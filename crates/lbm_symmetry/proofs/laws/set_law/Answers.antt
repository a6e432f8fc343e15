use Rattle.lbm_symmetry.proofs.Tables.{sets_are_symmetric, sets_are_isotropic}
use Rattle.lbm_symmetry.proofs.laws.set_law.Goals as goal

pub returns : goal.returns
returns c = record { symmetric = sets_are_symmetric; fourth_order = sets_are_isotropic }
