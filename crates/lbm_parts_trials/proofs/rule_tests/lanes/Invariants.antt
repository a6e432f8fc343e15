use Rattle.std.proofs.Common.{◌≡◌, ◌<◌, ◌≤◌, ◌^◌, ℕ, pos, slice_index_or, length, unsigned_abs}
use Rattle.lbm_parts_trials.proofs.rule_tests.lanes.Given as goal

abbrev pub invariant-loop-j : goal.invariant-loop-j
invariant-loop-j l = record {
  small : (k : ℕ) → k < 8 → unsigned_abs (slice_index_or l.all k (pos 0)) ≤ 2 ^ 28;
  long : length l.all ≡ 8;
}
