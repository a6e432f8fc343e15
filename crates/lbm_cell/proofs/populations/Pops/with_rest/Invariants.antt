use Rattle.std.proofs.Common.{◌≡◌, ◌+◌, ◌-◌}
use Rattle.lbm_space.specs.Sum.{sum_below}
use Rattle.lbm_cell.specs.Moments.{populations}
use Rattle.lbm_cell.proofs.populations.Pops.with_rest.Given as goal

abbrev pub invariant-loop-i : goal.invariant-loop-i
invariant-loop-i g l = l.moving ≡ sum_below (l.i - 1) (λ k. populations l.self.f (k + 1))
