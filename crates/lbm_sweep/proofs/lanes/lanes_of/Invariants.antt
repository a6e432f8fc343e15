use Rattle.std.proofs.Common.{◌≡◌, ℕ, ◌<◌, ◌≤◌, length, pos, slice_index_or}
use Rattle.lbm_sweep.proofs.lanes.lanes_of.Given as goal

abbrev pub invariant-loop-j : goal.invariant-loop-j
invariant-loop-j l = record {
  long : length l.lanes ≡ 8;
  copied : (i : ℕ) → i < l.j → slice_index_or l.lanes i (pos 0) ≡ slice_index_or l.run i (pos 0);
  left : (i : ℕ) → l.j ≤ i → slice_index_or l.lanes i (pos 0) ≡ pos 0;
}
