use Rattle.std.proofs.Common.{◌≡◌, ℕ, ◌+◌, ◌<◌, ◌≤◌, length, pos, slice_index_or}
use Rattle.lbm_grid.specs.Near.{seen, IsRead}
use Rattle.lbm_grid.proofs.reading.lanes_saved.Given as goal

abbrev pub invariant-loop-j : goal.invariant-loop-j
invariant-loop-j g l = record {
  long : length l.lanes ≡ 8;
  read : (k i : ℕ) → IsRead g.W.Way.RISES (length l.saved) l.loan l.slot k l.reading l.at l.n → i < l.j → slice_index_or l.lanes i (pos 0) ≡ seen g.W.Way.RISES l.saved l.loan.ranges k l.reading (l.at + i);
  past : (i : ℕ) → l.j ≤ i → slice_index_or l.lanes i (pos 0) ≡ pos 0;
}
