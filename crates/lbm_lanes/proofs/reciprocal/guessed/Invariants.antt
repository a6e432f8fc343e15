use Rattle.std.proofs.Common.{◌≡◌, length}
use Rattle.lbm_lanes.proofs.reciprocal.guessed.Given as goal

abbrev pub invariant-loop-l : goal.invariant-loop-l
invariant-loop-l l = length l.bits ≡ 8
