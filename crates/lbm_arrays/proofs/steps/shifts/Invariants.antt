use Rattle.std.proofs.Common.{◌≡◌, ℕ, ◌<◌, length, slice_index_or, pos, ◌+ℤ◌}
use Rattle.lbm_arrays.specs.Steps.{shift_of}
use Rattle.lbm_arrays.proofs.steps.shifts.Given as goal

abbrev pub invariant-loop-k : goal.invariant-loop-k
invariant-loop-k g l = record {
  count : length l.table.items ≡ l.k;
  table : (j : ℕ) → j < l.k → slice_index_or l.table.items j (pos 0) ≡ pos l.base +ℤ shift_of l.space g.V.VelocitySet.stencil l.step j;
}
