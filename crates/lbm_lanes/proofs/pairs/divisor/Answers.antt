use Rattle.std.proofs.Common.{◌≡◌, ◌<ℤ◌, pos, arith, rules, FitsSigned, sym, ◌∙◌}
use Rattle.std.specs.Int.{w64}
use Rattle.std.proofs.lemmas.Int.{ints}
use Rattle.std.proofs.lemmas.Nat.{mul-le}
use Rattle.lbm_cell.proofs.Sizes.{clean}
use Rattle.lbm_cell.proofs.Limits.{denominator_above}
use Rattle.lbm_lanes.proofs.pairs.divisor.Goals as goal

pub unsigned-requires : goal.unsigned-requires
unsigned-requires g c =
    let v = g.V.VelocitySet.stencil in
    let fits : FitsSigned w64 c.DEN.result = search rules in
    rw (clean c.DEN.result v.denominator fits (c.DEN.ensures ∙ g.met.V.VelocitySet.constants.1)) (omega (arith, ints, denominator_above v g.met.V.VelocitySet.laws))

pub new-requires-clause-some : goal.new-requires-clause-some
new-requires-clause-some g c =
    let v = g.V.VelocitySet.stencil in
    let fits : FitsSigned w64 c.DEN.result = search rules in
    let fits_q : FitsSigned w64 c.q.result = search rules in
    let d : v.denominator ≡ pos c.unsigned.result = sym (clean c.DEN.result v.denominator fits (c.DEN.ensures ∙ g.met.V.VelocitySet.constants.1)) ∙ c.unsigned.ensures in
    let q : c.args.r.q ≡ pos c.unsigned-2.result = sym (clean c.q.result c.args.r.q fits_q c.q.ensures.value) ∙ c.unsigned-2.ensures in
    let above : pos 0 <ℤ c.args.r.q = c.q.ensures.valid.q_above in
    omega (arith, mul-le 1 1 c.unsigned.result c.unsigned-2.result (omega (arith, ints, d, denominator_above v g.met.V.VelocitySet.laws)) (omega (arith, ints, q, above)))
