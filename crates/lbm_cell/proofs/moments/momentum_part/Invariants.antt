use Rattle.std.proofs.Common.{◌≡◌, ◌*◌, ◌≤◌, unsigned_abs, ◌*ℤ◌}
use Rattle.lbm_space.specs.Sum.{sum_below}
use Rattle.lbm_space.specs.Stencil.{part, velocity}
use Rattle.lbm_cell.specs.Moments.{populations}
use Rattle.lbm_cell.proofs.moments.momentum_part.Given as goal

abbrev pub invariant-loop-i : goal.invariant-loop-i
invariant-loop-i g l = record {
  sum_is : l.total ≡ sum_below l.i (λ k. part (velocity g.V.VelocitySet.stencil k) l.axis *ℤ populations l.f.f k);
  sum_small : unsigned_abs l.total ≤ 2147483648 * l.i;
}
