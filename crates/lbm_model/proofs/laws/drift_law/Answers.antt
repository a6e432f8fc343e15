use Rattle.lbm_model.proofs.Drift.{drift-step, drift-run}
use Rattle.lbm_model.proofs.laws.drift_law.Goals as goal

pub returns : goal.returns
returns c = record { step = drift-step; run = drift-run }
