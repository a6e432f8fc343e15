use Rattle.std.proofs.Common.{◌≡◌, ◌*◌, ◌≤◌, unsigned_abs}
use Rattle.lbm_space.specs.Sum.{sum_below}
use Rattle.lbm_cell.specs.Moments.{populations}
use Rattle.lbm_cell.proofs.moments.density.Given as goal

abbrev pub invariant-loop-i : goal.invariant-loop-i
invariant-loop-i g l = record {
  sum_is : l.total ≡ sum_below l.i (λ k. populations l.f.f k);
  sum_small : unsigned_abs l.total ≤ 2147483648 * l.i;
}
