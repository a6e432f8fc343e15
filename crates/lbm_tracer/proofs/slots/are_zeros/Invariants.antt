use Rattle.std.proofs.Common.{◌≡◌, ◌<◌, ℕ, pos, slice_index_or}
use Rattle.lbm_tracer.proofs.slots.are_zeros.Given as goal

abbrev pub invariant-loop-x : goal.invariant-loop-x
invariant-loop-x l = record {
  zeros : l.any ≡ 0 → (y : ℕ) → y < l.x → slice_index_or l.run y (pos 0) ≡ pos 0;
}
