use Rattle.std.proofs.Common.{◌≡◌, ◌+◌, ◌<◌, ◌≤◌, ℕ, ◌+ℤ◌, length}
use Rattle.lbm_lanes.specs.Lanes.{entry}
use Rattle.lbm_model.specs.Case.{gain}
use Rattle.lbm_rule.proofs.gains.gained.Given as goal

abbrev pub invariant-loop-j : goal.invariant-loop-j
invariant-loop-j g l = record {
  done : (k : ℕ) → k < l.j → entry l.lanes k ≡ entry l.fn.sent k +ℤ gain l.case (l.cell + k) l.dir;
  left : (k : ℕ) → l.j ≤ k → entry l.lanes k ≡ entry l.fn.sent k;
  eight : length l.lanes ≡ 8;
}
