use Rattle.std.proofs.Common.{◌≡◌, ◌*◌, ◌≤◌, unsigned_abs}
use Rattle.lbm_space.specs.Sum.{sum_below}
use Rattle.lbm_model.specs.Case.{cell_gain}
use Rattle.lbm_model.proofs.walls.all_gain.Given as goal

abbrev pub invariant-loop-cell : goal.invariant-loop-cell
invariant-loop-cell g l = record {
  done : l.sum ≡ sum_below l.cell (cell_gain l.case);
  small : unsigned_abs l.sum ≤ 1048576 * l.cell;
}
