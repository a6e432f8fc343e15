use Rattle.lbm_model.proofs.SetLaws.{IsVelocitySet-stencil_of}
use Rattle.lbm_model.proofs.case.Case.with_wall.Goals as goal

pub invariant_of-result : goal.invariant_of-result
invariant_of-result c = record {
  set = IsVelocitySet-stencil_of c.args.set;
  space = c.cells.ensures.valid;
  dimension = c.requires.dimension;
  densities = c.requires.densities;
  moving = c.requires.moving;
  wall = c.parts-2.ensures.valid;
  wall_flat = c.requires.wall;
  rates = c.q.ensures.valid;
  force = c.parts.ensures.valid;
  momentum = c.requires.momentum;
}
