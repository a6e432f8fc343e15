use Rattle.std.proofs.Common.{◌≡◌, ℕ, ◌+◌, ◌<◌, length, slice_index_or, pos}
use Rattle.lbm_lattice.proofs.reading.copy_run.Given as goal

abbrev pub invariant-loop-k : goal.invariant-loop-k
invariant-loop-k l = record {
  room : length l.to ≡ length l.initial.to;
  before : (x : ℕ) → x < l.start → slice_index_or l.to x (pos 0) ≡ slice_index_or l.initial.to x (pos 0);
  copied : (j : ℕ) → j < l.k → slice_index_or l.to (l.start + j) (pos 0) ≡ slice_index_or l.from (l.first + j) (pos 0);
}
