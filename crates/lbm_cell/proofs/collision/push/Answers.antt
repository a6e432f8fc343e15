use Rattle.std.proofs.Common.{◌^◌, FitsSigned, w64, arith, rules, lit<, ◌∙◌, ap, List, ℤ}
use Rattle.lbm_space.specs.Stencil.{part, dot, velocity, weight}
use Rattle.lbm_cell.proofs.Sizes.{product_size, room}
use Rattle.lbm_cell.proofs.Bounds.{unit_dot_small}
use Rattle.lbm_cell.proofs.Limits.{weight_small, force_small}
use Rattle.lbm_cell.proofs.collision.push.Goals as goal

pub dot-requires : goal.dot-requires
dot-requires g c =
    rw c.c.ensures
    (λ a axis. omega (arith, product_size (part (velocity g.V.VelocitySet.stencil c.args.i) a) (part c.args.force.now a) 1 1024 (g.met.V.VelocitySet.laws.unit_parts c.args.i a c.requires.known axis) (force_small c.args.force.now c.requires.allowed a axis)))

pub product-requires : goal.product-requires
product-requires g c =
    let v = g.V.VelocitySet.stencil in
    let laws = g.met.V.VelocitySet.laws in
    let force = c.requires.allowed in
    let fits_w : FitsSigned w64 c.w.result = search rules in
    let fits_d : FitsSigned w64 c.dot.result = search rules in
    room c.w.result c.dot.result (weight v c.args.i) (dot (velocity v c.args.i) c.args.force.now) 216 3072 (2 ^ 62) fits_w fits_d c.w.ensures (c.dot.ensures ∙ ap (λ (u : List ℤ). dot u c.args.force.now) c.c.ensures)
    (weight_small v c.args.i laws c.requires.known) (unit_dot_small (velocity v c.args.i) c.args.force.now 1024 (λ a axis. laws.unit_parts c.args.i a c.requires.known axis) force.x_small force.y_small force.z_small) (lit< tt)
