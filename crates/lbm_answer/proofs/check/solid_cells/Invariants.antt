use Rattle.std.proofs.Common.{◌≡◌, ◌≤◌}
use Rattle.lbm_answer.specs.Reports.{solid_below}
use Rattle.lbm_answer.proofs.check.solid_cells.Given as goal

abbrev pub invariant-loop-cell : goal.invariant-loop-cell
invariant-loop-cell l = record {
  counted : l.count ≡ solid_below l.case l.cell;
  few : l.count ≤ l.cell;
}
