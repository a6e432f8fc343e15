use Rattle.std.proofs.Common.{◌≡◌, ℕ, ◌<◌, length, slice_index}
use Rattle.lbm_arrays.specs.LentRanges.{range_start}
use Rattle.lbm_arrays.proofs.slabs.firsts_of.Given as goal

abbrev pub invariant-loop-k : goal.invariant-loop-k
invariant-loop-k l = record {
  count : length l.firsts.items ≡ l.k;
  begins : (j : ℕ) → j < l.k → slice_index l.firsts.items j ≡ range_start l.space l.margin l.shifts.items j 0;
}
