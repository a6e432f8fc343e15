use Rattle.std.proofs.Common.{◌≡◌, ◌<◌, ◌-◌, ◌^◌, ◌*ℤ◌, unsigned_abs, FitsSigned, w64, arith, rules, lit<, refl}
use Rattle.lbm_space.specs.Stencil.{part, dot}
use Rattle.lbm_cell.proofs.Sizes.{clean_product, product_size, room, size_below}
use Rattle.lbm_cell.proofs.Bounds.{moving_dot_small, own_dot_small}
use Rattle.lbm_cell.proofs.equilibrium.equilibrium_numerator.Goals as goal

pub dot-u-requires : goal.dot-u-requires
dot-u-requires c a axis =
    omega (arith, product_size (part c.args.c.now a) (part c.args.j.now a) 1 4194304 (c.requires.velocity a axis) (c.requires.momentum a axis))

pub dot-own-requires : goal.dot-own-requires
dot-own-requires c a axis =
    omega (arith, product_size (part c.args.j.now a) (part c.args.j.now a) 4194304 4194304 (c.requires.momentum a axis) (c.requires.momentum a axis))

pub product-requires-2 : goal.product-requires-2
product-requires-2 c =
    let fits_u : FitsSigned w64 c.dot-u.result = search rules in
    room c.args.rho c.dot-u.result c.args.rho (dot c.args.c.now c.args.j.now) 4194304 (2 ^ 24) (2 ^ 62) c.ranges.rho fits_u refl c.dot-u.ensures c.requires.density (omega (arith, moving_dot_small c.args.c.now c.args.j.now c.requires.momentum c.requires.velocity)) (lit< tt)

pub product-requires-3 : goal.product-requires-3
product-requires-3 c =
    let fits_u : FitsSigned w64 c.dot-u.result = search rules in
    room c.dot-u.result c.dot-u.result (dot c.args.c.now c.args.j.now) (dot c.args.c.now c.args.j.now) (2 ^ 24) (2 ^ 24) (2 ^ 62) fits_u fits_u c.dot-u.ensures c.dot-u.ensures (omega (arith, moving_dot_small c.args.c.now c.args.j.now c.requires.momentum c.requires.velocity)) (omega (arith, moving_dot_small c.args.c.now c.args.j.now c.requires.momentum c.requires.velocity)) (lit< tt)

pub combined-requires-clause-square_small : goal.combined-requires-clause-square_small
combined-requires-clause-square_small c =
    let fits : FitsSigned w64 c.product.result = search rules in
    let square : c.product.result ≡ c.args.rho *ℤ c.args.rho = clean_product c.product.result c.args.rho c.args.rho c.args.rho c.args.rho c.ranges.rho c.ranges.rho refl refl c.product.ensures.value in
    size_below c.product.result (c.args.rho *ℤ c.args.rho) (2 ^ 48) fits square (omega (arith, product_size c.args.rho c.args.rho 4194304 4194304 c.requires.density c.requires.density))

pub combined-requires-clause-cross_small : goal.combined-requires-clause-cross_small
combined-requires-clause-cross_small c =
    let u = dot c.args.c.now c.args.j.now in
    let small : unsigned_abs u < 2 ^ 24 = moving_dot_small c.args.c.now c.args.j.now c.requires.momentum c.requires.velocity in
    let fits_u : FitsSigned w64 c.dot-u.result = search rules in
    let fits : FitsSigned w64 c.product-2.result = search rules in
    let cross : c.product-2.result ≡ c.args.rho *ℤ u = clean_product c.product-2.result c.args.rho c.dot-u.result c.args.rho u c.ranges.rho fits_u refl c.dot-u.ensures c.product-2.ensures.value in
    size_below c.product-2.result (c.args.rho *ℤ u) (2 ^ 48) fits cross (omega (arith, product_size c.args.rho u 4194304 (2 ^ 24) c.requires.density (omega arith)))

pub combined-requires-clause-turn_small : goal.combined-requires-clause-turn_small
combined-requires-clause-turn_small c =
    let u = dot c.args.c.now c.args.j.now in
    let small : unsigned_abs u < 2 ^ 24 = moving_dot_small c.args.c.now c.args.j.now c.requires.momentum c.requires.velocity in
    let fits_u : FitsSigned w64 c.dot-u.result = search rules in
    let fits : FitsSigned w64 c.product-3.result = search rules in
    let turn : c.product-3.result ≡ u *ℤ u = clean_product c.product-3.result c.dot-u.result c.dot-u.result u u fits_u fits_u c.dot-u.ensures c.dot-u.ensures c.product-3.ensures.value in
    size_below c.product-3.result (u *ℤ u) (2 ^ 48) fits turn (omega (arith, product_size u u (2 ^ 24 - 1) (2 ^ 24 - 1) (omega arith) (omega arith)))

pub combined-requires-clause-own_small : goal.combined-requires-clause-own_small
combined-requires-clause-own_small c =
    let fits : FitsSigned w64 c.dot-own.result = search rules in
    size_below c.dot-own.result (dot c.args.j.now c.args.j.now) (2 ^ 48) fits c.dot-own.ensures (own_dot_small c.args.j.now c.requires.momentum)
