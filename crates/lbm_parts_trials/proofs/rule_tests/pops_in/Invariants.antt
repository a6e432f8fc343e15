use Rattle.std.proofs.Common.{◌≡◌, ◌<◌, ◌≤◌, ◌^◌, ℕ, length, unsigned_abs}
use Rattle.lbm_cell.specs.Moments.{populations}
use Rattle.lbm_parts_trials.proofs.rule_tests.pops_in.Given as goal

abbrev pub invariant-loop-i : goal.invariant-loop-i
invariant-loop-i l = record {
  small : (k : ℕ) → k < 27 → unsigned_abs (populations l.pops.f k) ≤ 2 ^ 28;
  long : length l.pops.f ≡ 27;
}
