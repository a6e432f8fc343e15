use Rattle.std.proofs.Common.{◌≡◌, pos}
use Rattle.lbm_arrays.proofs.Ranges.{written}
use Rattle.lbm_arrays.proofs.loan.write_run.Given as goal

abbrev pub invariant-loop-j : goal.invariant-loop-j
invariant-loop-j l = record {
  items : l.patch.items ≡ written l.initial.patch.items l.first l.v (pos 0) l.j;
  mine : l.patch.mine ≡ l.initial.patch.mine;
  start : l.patch.ptr ≡ l.initial.patch.ptr;
  count : l.patch.len ≡ l.initial.patch.len;
}
