use Rattle.lbm_case.proofs.Spelled.{spells-cases}
use Rattle.lbm_case.proofs.laws.case_law.Goals as goal

pub returns : goal.returns
returns c = spells-cases
