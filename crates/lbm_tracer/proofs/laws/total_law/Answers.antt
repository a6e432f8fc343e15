use Rattle.lbm_tracer.proofs.Total.{total-first, total-next, total-run}
use Rattle.lbm_tracer.proofs.laws.total_law.Goals as goal

pub returns : goal.returns
returns c = record { first = total-first; step = total-next; run = total-run }
