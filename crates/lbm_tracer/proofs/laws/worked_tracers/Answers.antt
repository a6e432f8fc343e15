use Rattle.lbm_tracer.proofs.Worked.{spread, driven, walled, in_space}
use Rattle.lbm_tracer.proofs.laws.worked_tracers.Goals as goal

pub returns : goal.returns
returns c = record { two = spread; fast = driven; walled = walled; in_space = in_space }
