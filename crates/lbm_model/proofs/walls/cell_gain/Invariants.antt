use Rattle.std.proofs.Common.{◌≡◌, ◌*◌, ◌≤◌, unsigned_abs}
use Rattle.lbm_space.specs.Sum.{sum_below}
use Rattle.lbm_model.specs.Case.{gain}
use Rattle.lbm_model.proofs.walls.cell_gain.Given as goal

abbrev pub invariant-loop-dir : goal.invariant-loop-dir
invariant-loop-dir g l = record {
  done : l.sum ≡ sum_below l.dir (gain l.case l.cell);
  small : unsigned_abs l.sum ≤ 32768 * l.dir;
}
