use Rattle.std.proofs.Common.{◌^◌, FitsSigned, w64, arith, rules, lit<, refl}
use Rattle.lbm_space.specs.Stencil.{weight}
use Rattle.lbm_cell.proofs.Sizes.{room}
use Rattle.lbm_cell.proofs.Limits.{weight_small}
use Rattle.lbm_cell.proofs.equilibrium.equilibrium.Goals as goal

pub product-requires : goal.product-requires
product-requires g c =
    let fits_w : FitsSigned w64 c.w.result = search rules in
    let fits_n : FitsSigned w64 c.equilibrium_numerator-numerator.result = search rules in
    room c.w.result c.equilibrium_numerator-numerator.result (weight g.V.VelocitySet.stencil c.args.i) c.equilibrium_numerator-numerator.result 216 (2 ^ 53) (2 ^ 62) fits_w fits_n c.w.ensures refl
    (weight_small g.V.VelocitySet.stencil c.args.i g.met.V.VelocitySet.laws c.requires.known) (omega (arith, c.equilibrium_numerator-numerator.ensures.size)) (lit< tt)
