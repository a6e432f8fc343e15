use Rattle.std.proofs.Common.{◌≡◌, ◌<◌, ◌/◌, ℕ, slice_index, length}
use Rattle.lbm_lanes.proofs.reciprocal.divided.Given as goal

abbrev pub invariant-loop-l : goal.invariant-loop-l
invariant-loop-l l = record {
  done : (k : ℕ) → k < l.l → slice_index l.lanes k ≡ 562949953421312 / slice_index l.rhos k;
  eight : length l.lanes ≡ 8;
}
