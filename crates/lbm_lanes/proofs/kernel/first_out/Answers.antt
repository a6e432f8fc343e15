use Rattle.std.proofs.Common.{Bool, ap, ◌∙◌}
use Rattle.std.specs.Prelude.{◌&&◌}
use Rattle.lbm_lanes.specs.Lanes.{held, has, is_out}
use Rattle.lbm_lanes.proofs.Outcome.{least_same}
use Rattle.lbm_lanes.proofs.kernel.first_out.Goals as goal

pub returns : goal.returns
returns g c =
    let R = g.R.Rows in let rows = c.args.rows.now in
    c.least.ensures ∙ least_same 8 (λ j. has c.args.fluid j && has c.args.out j) (is_out g.V.VelocitySet.stencil c.args.fluid (held (R.count rows) (R.there rows))) (λ j lane. ap (λ (b : Bool). has c.args.fluid j && b) (c.requires.out j lane))
