use Rattle.std.proofs.Common.{◌≡◌, ℕ, ◌<◌, ◌≤◌, ◌+ℤ◌, length, slice_index_or, pos}
use Rattle.lbm_tracer.proofs.flow_row.plus.Given as goal

abbrev pub invariant-loop-x : goal.invariant-loop-x
invariant-loop-x l = record {
  room : length l.sums ≡ length l.initial.sums;
  done : (x : ℕ) → x < l.x → slice_index_or l.sums x (pos 0) ≡ slice_index_or l.initial.sums x (pos 0) +ℤ slice_index_or l.f x (pos 0);
  rest : (x : ℕ) → l.x ≤ x → slice_index_or l.sums x (pos 0) ≡ slice_index_or l.initial.sums x (pos 0);
}
