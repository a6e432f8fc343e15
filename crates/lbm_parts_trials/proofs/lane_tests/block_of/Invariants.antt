use Rattle.std.proofs.Common.{◌<◌, ℕ, FitsSigned}
use Rattle.std.specs.Int.{w32}
use Rattle.lbm_walk.specs.Blocks.{lane}
use Rattle.lbm_parts_trials.proofs.lane_tests.block_of.Given as goal

abbrev pub invariant-loop-i : goal.invariant-loop-i
invariant-loop-i l = (k j : ℕ) → k < 27 → j < 8 → FitsSigned w32 (lane l.block.rows j k)
