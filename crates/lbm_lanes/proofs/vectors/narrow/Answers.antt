use Rattle.std.proofs.Common.{◌∙◌, arith}
use Rattle.lbm_lanes.proofs.Operators.{lane_twice, length_map}
use Rattle.lbm_lanes.proofs.vectors.narrow.Goals as goal

pub returns-clause-value : goal.returns-clause-value
returns-clause-value c l known = lane_twice _ _ c.args.a l (omega (arith, c.fits-a.0, known))

pub returns-clause-eight : goal.returns-clause-eight
returns-clause-eight c = length_map _ _ ∙ length_map _ c.args.a ∙ c.fits-a.0
