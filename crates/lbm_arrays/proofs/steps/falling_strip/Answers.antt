use Rattle.lbm_arrays.proofs.Moves.{falling_saved}
use Rattle.lbm_arrays.proofs.steps.falling_strip.Goals as goal

pub returns-clause-few : goal.returns-clause-few
returns-clause-few g c bounds cutting whole = falling_saved c.args.space.now c.reach.ensures.valid g.V.VelocitySet.stencil g.met.V.VelocitySet.laws c.requires.dimension c.args.k bounds cutting whole
