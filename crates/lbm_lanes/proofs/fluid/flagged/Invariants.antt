use Rattle.std.proofs.Common.{◌≡◌, ◌<◌, ◌/◌, ◌%◌, ◌^◌, ℕ, slice_index, length}
use Rattle.lbm_lanes.proofs.fluid.flagged.Given as goal

abbrev pub invariant-loop-l : goal.invariant-loop-l
invariant-loop-l l = record {
  done : (k : ℕ) → k < l.l → slice_index l.lanes k ≡ l.mask / 2 ^ k % 2;
  eight : length l.lanes ≡ 8;
}
