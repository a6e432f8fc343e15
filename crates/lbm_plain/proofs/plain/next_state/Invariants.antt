use Rattle.std.proofs.Common.{◌≡◌, take}
use Rattle.lbm_model.specs.Flow.{next}
use Rattle.lbm_plain.proofs.plain.next_state.Given as goal

abbrev pub invariant-loop-k : goal.invariant-loop-k
invariant-loop-k g l = l.pops.items ≡ take l.k (next l.case l.state).numbers
