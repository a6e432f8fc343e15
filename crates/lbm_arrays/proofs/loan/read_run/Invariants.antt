use Rattle.std.proofs.Common.{◌≡◌, ℕ, ◌+◌, ◌<◌, ◌≤◌, length, slice_index_or, pos}
use Rattle.lbm_arrays.proofs.loan.read_run.Given as goal

abbrev pub invariant-loop-j : goal.invariant-loop-j
invariant-loop-j l = record {
  long : length l.lanes ≡ 8;
  slots : (i : ℕ) → i < l.j → slice_index_or l.lanes i (pos 0) ≡ slice_index_or l.patch.items (l.first + i) (pos 0);
  others : (i : ℕ) → l.j ≤ i → slice_index_or l.lanes i (pos 0) ≡ pos 0;
}
