use Rattle.std.proofs.Common.{◌≡◌, ◌≤◌, ◌^◌, ◌*◌, unsigned_abs}
use Rattle.lbm_space.specs.Sum.{sum_below}
use Rattle.lbm_cell.specs.Moments.{populations}
use Rattle.lbm_tracer.proofs.collision.sum_of.Given as goal

abbrev pub invariant-loop-k : goal.invariant-loop-k
invariant-loop-k l = record {
  done : l.sum ≡ sum_below l.k (populations l.amounts);
  small : unsigned_abs l.sum ≤ 2 ^ 35 * l.k;
}
