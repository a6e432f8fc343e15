use Rattle.std.proofs.Common.{◌≡◌, ◌≤◌, ◌*◌, unsigned_abs}
use Rattle.lbm_space.specs.Sum.{sum_below}
use Rattle.lbm_cell.specs.Moments.{density}
use Rattle.lbm_model.specs.State.{population}
use Rattle.lbm_tracer.specs.Limits.{cell_bound}
use Rattle.lbm_tracer.specs.Tracing.{set_in}
use Rattle.lbm_tracer.specs.Carried.{carried}
use Rattle.lbm_tracer.proofs.tracer.Tracer.total.Given as goal

abbrev pub invariant-loop-cell : goal.invariant-loop-cell
invariant-loop-cell g l = record {
  done : l.total ≡ sum_below l.cell (λ x. density (set_in l.self.torus) (population (carried l.self).state x));
  small : unsigned_abs l.total ≤ cell_bound * l.cell;
}
