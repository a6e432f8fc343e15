use Rattle.std.proofs.Common.{◌≡◌, ◌+◌, ◌<◌, ◌≤◌, ℕ, length, slice_index}
use Rattle.lbm_model.proofs.case.numbers_from.Given as goal

abbrev pub invariant-loop-j : goal.invariant-loop-j
invariant-loop-j l = record {
  done : (k : ℕ) → k < l.j → slice_index l.numbers k ≡ slice_index l.list (l.at + k);
  left : (k : ℕ) → l.j ≤ k → k < 8 → slice_index l.numbers k ≡ 1;
  eight : length l.numbers ≡ 8;
}
