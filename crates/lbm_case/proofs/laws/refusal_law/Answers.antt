use Rattle.lbm_case.proofs.FirstFault.{refuses_first_fault, accepts_faultless}
use Rattle.lbm_case.proofs.laws.refusal_law.Goals as goal

pub returns-clause-refused : goal.returns-clause-refused
returns-clause-refused c = refuses_first_fault

pub returns-clause-accepted : goal.returns-clause-accepted
returns-clause-accepted c = accepts_faultless
