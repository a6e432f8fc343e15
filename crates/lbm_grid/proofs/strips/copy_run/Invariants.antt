use Rattle.std.proofs.Common.{◌≡◌, ◌⊎◌, ℕ, ◌+◌, ◌<◌, ◌≤◌, length}
use Rattle.lbm_arrays.specs.Arrays.{held}
use Rattle.lbm_grid.proofs.strips.copy_run.Given as goal

abbrev pub invariant-loop-i : goal.invariant-loop-i
invariant-loop-i l = record {
  long : length l.to ≡ length l.initial.to;
  copied : (j : ℕ) → j < l.i → held l.to (l.at + j) ≡ held l.from (l.place + j);
  others : (s : ℕ) → (s < l.at) ⊎ (l.at + l.i ≤ s) → held l.to s ≡ held l.initial.to s;
}
