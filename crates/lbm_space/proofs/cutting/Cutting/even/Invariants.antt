use Rattle.std.proofs.Common.{◌≡◌, ℕ, ◌<◌, ◌*◌, ◌/◌, length, slice_index}
use Rattle.lbm_space.proofs.cutting.Cutting.even.Given as goal

abbrev pub invariant-loop-k : goal.invariant-loop-k
invariant-loop-k l = record {
  count : length l.bounds.items ≡ l.k;
  firsts : (j : ℕ) → j < l.k → slice_index l.bounds.items j ≡ j * l.rows / l.slabs;
}
