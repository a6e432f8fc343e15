use Rattle.std.proofs.Common.{◌<◌, ◌≤◌, ◌^◌, ℕ, unsigned_abs}
use Rattle.lbm_walk.specs.Blocks.{lane}
use Rattle.lbm_parts_trials.proofs.rule_tests.block_of.Given as goal

abbrev pub invariant-loop-dir : goal.invariant-loop-dir
invariant-loop-dir l = (k j : ℕ) → k < 27 → j < 8 → unsigned_abs (lane l.block.rows j k) ≤ 2 ^ 28
