use Rattle.lbm_answer.proofs.TracerLaws.{tracer-passive, tracer-total}
use Rattle.lbm_answer.proofs.laws.tracer_law.Goals as goal

pub returns : goal.returns
returns c = record { passive = tracer-passive; total = tracer-total }
