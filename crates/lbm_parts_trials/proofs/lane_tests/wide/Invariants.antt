use Rattle.std.proofs.Common.{◌≡◌, ◌<◌, ℕ, FitsSigned, pos, slice_index_or, length}
use Rattle.std.specs.Int.{w32}
use Rattle.lbm_parts_trials.proofs.lane_tests.wide.Given as goal

abbrev pub invariant-loop-j : goal.invariant-loop-j
invariant-loop-j l = record {
  fits : (k : ℕ) → k < 8 → FitsSigned w32 (slice_index_or l.all k (pos 0));
  long : length l.all ≡ 8;
}
