use Rattle.std.proofs.Common.{◌≡◌, ◌≤◌, ◌^◌, ◌*◌, unsigned_abs}
use Rattle.lbm_space.specs.Sum.{sum_from_one}
use Rattle.lbm_cell.specs.Moments.{populations}
use Rattle.lbm_tracer.proofs.collision.with_rest.Given as goal

abbrev pub invariant-loop-k : goal.invariant-loop-k
invariant-loop-k l = record {
  some : 1 ≤ l.k;
  done : l.gone ≡ sum_from_one l.k (populations l.moving);
  small : unsigned_abs l.gone ≤ 2 ^ 31 * l.k;
}
