use Rattle.std.proofs.Common.{◌≡◌, ◌≤◌, pos, unsigned_abs, arith, rules, FitsSigned, sym, ◌∙◌}
use Rattle.std.specs.Int.{w64}
use Rattle.std.proofs.lemmas.Int.{ints}
use Rattle.lbm_space.specs.Stencil.{weight}
use Rattle.lbm_cell.proofs.Sizes.{clean}
use Rattle.lbm_cell.proofs.Limits.{weight_small, denominator_above}
use Rattle.lbm_lanes.proofs.pairs.pair_of.Goals as goal

pub unsigned-requires-2 : goal.unsigned-requires-2
unsigned-requires-2 g c =
    let v = g.V.VelocitySet.stencil in
    let fits : FitsSigned w64 c.DEN.result = search rules in
    rw (clean c.DEN.result v.denominator fits (c.DEN.ensures ∙ g.met.V.VelocitySet.constants.1)) (omega (arith, ints, denominator_above v g.met.V.VelocitySet.laws))

pub returns-clause-light : goal.returns-clause-light
returns-clause-light g c =
    let v = g.V.VelocitySet.stencil in
    let fits : FitsSigned w64 c.w.result = search rules in
    let is : weight v c.args.i ≡ pos c.unsigned.result = sym (clean c.w.result (weight v c.args.i) fits c.w.ensures) ∙ c.unsigned.ensures in
    let small : unsigned_abs (weight v c.args.i) ≤ 216 = weight_small v c.args.i g.met.V.VelocitySet.laws c.requires.known in
    omega (arith, ints, is, small)
