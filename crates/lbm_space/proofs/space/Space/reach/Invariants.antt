use Rattle.std.proofs.Common.{◌≡◌}
use Rattle.lbm_space.specs.Stencil.{velocity}
use Rattle.lbm_space.specs.Padded.{offset, greatest_below}
use Rattle.lbm_space.proofs.space.Space.reach.Given as goal

abbrev pub invariant-loop-i : goal.invariant-loop-i
invariant-loop-i g l = l.greatest ≡ greatest_below l.i (λ j. offset l.self (velocity g.V.VelocitySet.stencil j))
