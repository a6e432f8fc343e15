use Rattle.std.proofs.Common.{◌≡◌}
use Rattle.std.specs.Prelude.{◌&&◌}
use Rattle.lbm_lanes.specs.Lanes.{has, least_passing}
use Rattle.lbm_lanes.proofs.kernel.least.Given as goal

abbrev pub invariant-loop-j : goal.invariant-loop-j
invariant-loop-j l = l.found ≡ least_passing l.j (λ k. has l.fluid k && has l.out k)
