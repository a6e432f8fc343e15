use Rattle.std.proofs.Common.{arith}
use Rattle.lbm_lanes.specs.Lanes.{entry, held, has}
use Rattle.lbm_lanes.proofs.Outcome.{limits_of}
use Rattle.lbm_lanes.proofs.kernel.out_of_limits.Goals as goal

pub out_of_limits-requires-clause-rho : goal.out_of_limits-requires-clause-rho
out_of_limits-requires-clause-rho g c l lane = omega (arith, (c.requires l lane).rho_small)

pub out_of_limits-requires-clause-signs : goal.out_of_limits-requires-clause-signs
out_of_limits-requires-clause-signs g c l lane = (c.requires l lane).signs_fit

pub returns : goal.returns
returns g c l lane =
    let s = c.args.sums.now in let R = g.R.Rows in let rows = c.args.rows.now in
    limits_of g.V.VelocitySet.stencil (held (R.count rows) (R.there rows) l) (entry s.rho l) (entry s.x l) (entry s.y l) (entry s.z l) (entry s.signs l) (has c.out_of_limits.result l) g.met.V.VelocitySet.laws (c.requires l lane) (c.out_of_limits.ensures l lane)
