use Rattle.std.proofs.Common.{◌≡◌, ◌+◌, ◌++◌, length}
use Rattle.lbm_case.proofs.Numbered.{moving_from}
use Rattle.lbm_case.proofs.cells.push_moving.Given as goal

abbrev pub invariant-loop-c : goal.invariant-loop-c
invariant-loop-c l = record {
  ready : (goal.iterator-loop-c).can_next l.c-iterator;
  finite : (goal.iterator-loop-c).is_finite l.c-iterator;
  counted : l.number ≡ l.first + length l.yielded;
  so_far : l.moving.items ≡ l.initial.moving.items ++ moving_from l.first l.yielded;
}
