use Rattle.lbm_lanes.proofs.Operators.{each2_from}
use Rattle.lbm_lanes.proofs.vectors.difference.Goals as goal

pub overflow_sub-result : goal.overflow_sub-result
overflow_sub-result c = each2_from _ 8 c.args.a c.args.b c.fits-a.0 c.fits-b.0 c.requires
