use Rattle.std.proofs.Common.{arith}
use Rattle.lbm_lanes.proofs.Operators.{each2_from}
use Rattle.lbm_lanes.proofs.vectors.sum.Goals as goal

pub overflow_add-result : goal.overflow_add-result
overflow_add-result c = each2_from _ 8 c.args.a c.args.b c.fits-a.0 c.fits-b.0 (λ l below. record { fits = omega (arith, c.requires l below) })
