use Rattle.lbm_case.proofs.FirstFault.{refuses_least_unknown_key}
use Rattle.lbm_case.proofs.laws.unknown_key_law.Goals as goal

pub returns : goal.returns
returns c = refuses_least_unknown_key
