use Rattle.std.proofs.Common.{FitsSigned, w64, refl, rules}
use Rattle.std.proofs.lemmas.Int.{to_z-of_z}
use Rattle.lbm_space.specs.Padded.{offset}
use Rattle.lbm_space.proofs.Offsets.{offset_least, offset_most}
use Rattle.lbm_space.proofs.space.Space.offset.Goals as goal

pub returns-clause-value : goal.returns-clause-value
unfolding offset
returns-clause-value g c =
    let fits : FitsSigned w64 c.distance.result = search rules in
    rw (to_z-of_z w64 c.distance.result fits, c.distance.ensures, c.c-c.ensures, c.sides-sides.ensures.value) refl

pub returns-clause-low : goal.returns-clause-low
returns-clause-low g c =
    rw (returns-clause-value g c) (offset_least c.args.self.now c.sides-sides.ensures.valid g.V.VelocitySet.stencil g.met.V.VelocitySet.laws c.requires.dimension c.args.i c.requires.direction)

pub returns-clause-high : goal.returns-clause-high
returns-clause-high g c =
    rw (returns-clause-value g c) (offset_most c.args.self.now c.sides-sides.ensures.valid g.V.VelocitySet.stencil g.met.V.VelocitySet.laws c.requires.dimension c.args.i c.requires.direction)
