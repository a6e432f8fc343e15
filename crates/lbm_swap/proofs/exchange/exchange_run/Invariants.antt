use Rattle.lbm_swap.proofs.Pairs.{HasRun}
use Rattle.lbm_swap.proofs.exchange.exchange_run.Given as goal

abbrev pub invariant-loop-k : goal.invariant-loop-k
invariant-loop-k l = HasRun l.partners l.at l.n l.k l.initial.loan l.loan
