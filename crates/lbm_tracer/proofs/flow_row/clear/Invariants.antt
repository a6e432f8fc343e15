use Rattle.std.proofs.Common.{◌≡◌, ℕ, ◌<◌, length, slice_index_or, pos}
use Rattle.lbm_tracer.proofs.flow_row.clear.Given as goal

abbrev pub invariant-loop-x : goal.invariant-loop-x
invariant-loop-x l = record {
  room : length l.sums ≡ length l.initial.sums;
  zeros : (x : ℕ) → x < l.x → slice_index_or l.sums x (pos 0) ≡ pos 0;
}
