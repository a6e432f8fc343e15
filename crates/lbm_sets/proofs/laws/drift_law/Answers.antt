use Rattle.lbm_sets.proofs.Drift.{drift-collision}
use Rattle.lbm_sets.proofs.laws.drift_law.Goals as goal

pub returns : goal.returns
returns c = drift-collision
