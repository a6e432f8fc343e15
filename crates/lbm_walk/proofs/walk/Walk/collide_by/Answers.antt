use Rattle.std.proofs.Common.{ap}
use Rattle.lbm_walk.proofs.walk.Walk.collide_by.Goals as goal

pub returns-clause-stopped : goal.returns-clause-stopped
returns-clause-stopped g c = λ k is i p. ap (λ w. g.Self.Walk.before w i p) (c.collide.ensures.stopped k is)
