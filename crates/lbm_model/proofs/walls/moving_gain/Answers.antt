use Rattle.std.proofs.Common.{FitsSigned, rules}
use Rattle.std.specs.Int.{w64}
use Rattle.std.proofs.lemmas.Int.{to_z-of_z}
use Rattle.lbm_model.proofs.Gains.{push_small}
use Rattle.lbm_model.proofs.walls.moving_gain.Goals as goal

pub returns-then-not-is_solid-clause-size : goal.returns-then-not-is_solid-clause-size
returns-then-not-is_solid-clause-size g c =
    let fits : FitsSigned w64 c.push.result = search rules in
    rw (to_z-of_z w64 c.push.result fits, c.push.ensures, c.parts.ensures.value, c.wall.ensures.value)
    (push_small g.V.VelocitySet.stencil c.args.case.now.wall c.args.dir g.met.V.VelocitySet.laws c.space.ensures.valid.wall c.requires.direction)
