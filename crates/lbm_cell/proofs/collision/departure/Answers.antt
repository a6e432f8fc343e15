use Rattle.std.proofs.Common.{◌*ℤ◌, FitsSigned, w64, arith, rules, ap, ◌∙◌, ℤ, refl}
use Rattle.lbm_space.specs.Stencil.{weight}
use Rattle.lbm_cell.specs.Moments.{populations, density}
use Rattle.lbm_cell.proofs.Sizes.{product_size, size_at_most}
use Rattle.lbm_cell.proofs.Limits.{InLimits-from_test, weight_small, denominator_small, density_small, population_small, momentum_at_most}
use Rattle.lbm_cell.proofs.collision.departure.Goals as goal

pub equilibrium_numerator-numerator-requires-clause-momentum : goal.equilibrium_numerator-numerator-requires-clause-momentum
equilibrium_numerator-numerator-requires-clause-momentum g c =
    let v = g.V.VelocitySet.stencil in
    let f = populations c.args.f.now.f in
    λ a axis. rw c.requires.momentum (omega (arith, momentum_at_most v f g.met.V.VelocitySet.laws (InLimits-from_test v f c.requires.limits) a axis))

pub below_equilibrium-requires-clause-weight_small : goal.below_equilibrium-requires-clause-weight_small
below_equilibrium-requires-clause-weight_small g c =
    let v = g.V.VelocitySet.stencil in
    let fits : FitsSigned w64 c.w.result = search rules in
    size_at_most c.w.result (weight v c.args.i) 216 fits c.w.ensures (weight_small v c.args.i g.met.V.VelocitySet.laws c.requires.known)

pub below_equilibrium-requires-clause-scale_small : goal.below_equilibrium-requires-clause-scale_small
below_equilibrium-requires-clause-scale_small g c =
    let v = g.V.VelocitySet.stencil in
    let f = populations c.args.f.now.f in
    size_at_most c.args.scale (v.denominator *ℤ density v f) 382205952 c.ranges.scale (c.requires.scale ∙ ap (λ (rho : ℤ). v.denominator *ℤ rho) c.requires.density)
    (omega (arith, product_size v.denominator (density v f) 216 1769472 (denominator_small v g.met.V.VelocitySet.laws) (density_small v f (InLimits-from_test v f c.requires.limits))))

pub below_equilibrium-requires-clause-population_small : goal.below_equilibrium-requires-clause-population_small
below_equilibrium-requires-clause-population_small g c =
    let v = g.V.VelocitySet.stencil in
    let f = populations c.args.f.now.f in
    let fits : FitsSigned w64 (f c.args.i) = search rules in
    size_at_most (f c.args.i) (f c.args.i) 1769472 fits refl (population_small v f c.args.i (InLimits-from_test v f c.requires.limits) c.requires.known)
