use Rattle.lbm_sweep.proofs.Steps.{swept_is_step}
use Rattle.lbm_sweep.proofs.laws.step_law.Goals as goal

pub returns : goal.returns
returns c = record { step = swept_is_step }
