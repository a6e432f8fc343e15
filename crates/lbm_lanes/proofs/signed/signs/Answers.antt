use Rattle.std.proofs.Common.{arith, ◌∙◌, ap, ℤ, pos, subst, sym}
use Rattle.std.specs.Int.{w64}
use Rattle.std.specs.Prelude.{int_le, FitsSigned, bit_or}
use Rattle.lbm_lanes.specs.Lanes.{entry}
use Rattle.lbm_lanes.proofs.Wrapping.{lane_made, or_sign, or_fits}
use Rattle.lbm_lanes.proofs.signed.signs.Goals as goal

pub returns-clause-sign : goal.returns-clause-sign
returns-clause-sign c = λ l known. ap (λ (z : ℤ). int_le (pos 0) z) (lane_made bit_or c.args.a c.args.b l (omega arith) (omega arith) known) ∙ or_sign (entry c.args.a l) (entry c.args.b l) (c.requires.first l known) (c.requires.second l known)

pub returns-clause-fits : goal.returns-clause-fits
returns-clause-fits c = λ l known. subst (FitsSigned w64) (sym (lane_made bit_or c.args.a c.args.b l (omega arith) (omega arith) known)) (or_fits (entry c.args.a l) (entry c.args.b l) (c.requires.first l known) (c.requires.second l known))
