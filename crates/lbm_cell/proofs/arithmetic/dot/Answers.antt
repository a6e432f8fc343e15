use Rattle.std.proofs.Common.{◌≡◌, ◌<◌, ◌^◌, ℤ, ◌*ℤ◌, unsigned_abs, FitsSigned, w64, to_z, of_z, arith, rules, lit<}
use Rattle.std.proofs.lemmas.Int.{ints, to_z-of_z}
use Rattle.lbm_space.specs.Stencil.{part}
use Rattle.lbm_cell.proofs.Sizes.{product_of, size_of_product, clean, clean_sum}
use Rattle.lbm_cell.proofs.arithmetic.dot.Goals as goal

-- a product of two numbers that fit has room, where it is small
product_room : (a b : ℤ) → FitsSigned w64 a → FitsSigned w64 b → unsigned_abs (a *ℤ b) < 2 ^ 60 → unsigned_abs (to_z w64 (of_z w64 a) *ℤ to_z w64 (of_z w64 b)) < 2 ^ 62
product_room a b fits_a fits_b small = rw (to_z-of_z w64 a fits_a, to_z-of_z w64 b fits_b) (omega arith)

pub product-x-requires : goal.product-x-requires
product-x-requires c =
    let u_0 : FitsSigned w64 (part c.args.u.now 0) = search rules in
    let v_0 : FitsSigned w64 (part c.args.v.now 0) = search rules in
    product_room _ _ u_0 v_0 (c.requires 0 (lit< tt))

pub product-y-requires : goal.product-y-requires
product-y-requires c =
    let u_1 : FitsSigned w64 (part c.args.u.now 1) = search rules in
    let v_1 : FitsSigned w64 (part c.args.v.now 1) = search rules in
    product_room _ _ u_1 v_1 (c.requires 1 (lit< tt))

pub product-z-requires : goal.product-z-requires
product-z-requires c =
    let u_2 : FitsSigned w64 (part c.args.u.now 2) = search rules in
    let v_2 : FitsSigned w64 (part c.args.v.now 2) = search rules in
    product_room _ _ u_2 v_2 (c.requires 2 (lit< tt))

pub sum-requires : goal.sum-requires
sum-requires c =
    let u_0 : FitsSigned w64 (part c.args.u.now 0) = search rules in
    let v_0 : FitsSigned w64 (part c.args.v.now 0) = search rules in
    let u_1 : FitsSigned w64 (part c.args.u.now 1) = search rules in
    let v_1 : FitsSigned w64 (part c.args.v.now 1) = search rules in
    let x : unsigned_abs c.product-x.result < 2 ^ 60 = size_of_product _ _ _ (2 ^ 60) u_0 v_0 c.product-x.ensures.value (c.requires 0 (lit< tt)) in
    let y : unsigned_abs c.product-y.result < 2 ^ 60 = size_of_product _ _ _ (2 ^ 60) u_1 v_1 c.product-y.ensures.value (c.requires 1 (lit< tt)) in
    omega (arith, ints)

pub sum-requires-2 : goal.sum-requires-2
sum-requires-2 c =
    let u_0 : FitsSigned w64 (part c.args.u.now 0) = search rules in
    let v_0 : FitsSigned w64 (part c.args.v.now 0) = search rules in
    let u_1 : FitsSigned w64 (part c.args.u.now 1) = search rules in
    let v_1 : FitsSigned w64 (part c.args.v.now 1) = search rules in
    let u_2 : FitsSigned w64 (part c.args.u.now 2) = search rules in
    let v_2 : FitsSigned w64 (part c.args.v.now 2) = search rules in
    let x : unsigned_abs c.product-x.result < 2 ^ 60 = size_of_product _ _ _ (2 ^ 60) u_0 v_0 c.product-x.ensures.value (c.requires 0 (lit< tt)) in
    let y : unsigned_abs c.product-y.result < 2 ^ 60 = size_of_product _ _ _ (2 ^ 60) u_1 v_1 c.product-y.ensures.value (c.requires 1 (lit< tt)) in
    let z : unsigned_abs c.product-z.result < 2 ^ 60 = size_of_product _ _ _ (2 ^ 60) u_2 v_2 c.product-z.ensures.value (c.requires 2 (lit< tt)) in
    omega (arith, ints, c.sum.ensures.value)

pub returns : goal.returns
returns c =
    let u_0 : FitsSigned w64 (part c.args.u.now 0) = search rules in
    let v_0 : FitsSigned w64 (part c.args.v.now 0) = search rules in
    let u_1 : FitsSigned w64 (part c.args.u.now 1) = search rules in
    let v_1 : FitsSigned w64 (part c.args.v.now 1) = search rules in
    let u_2 : FitsSigned w64 (part c.args.u.now 2) = search rules in
    let v_2 : FitsSigned w64 (part c.args.v.now 2) = search rules in
    let x : c.product-x.result ≡ part c.args.u.now 0 *ℤ part c.args.v.now 0 = product_of _ _ _ u_0 v_0 c.product-x.ensures.value in let fits_x : FitsSigned w64 c.product-x.result = search rules in
    let y : c.product-y.result ≡ part c.args.u.now 1 *ℤ part c.args.v.now 1 = product_of _ _ _ u_1 v_1 c.product-y.ensures.value in let fits_y : FitsSigned w64 c.product-y.result = search rules in
    let z : c.product-z.result ≡ part c.args.u.now 2 *ℤ part c.args.v.now 2 = product_of _ _ _ u_2 v_2 c.product-z.ensures.value in let fits_z : FitsSigned w64 c.product-z.result = search rules in
    let fits : FitsSigned w64 c.sum.result = search rules in
    let two = clean_sum _ _ _ _ _ fits_x fits_y x y c.sum.ensures.value in
    let fits_2 : FitsSigned w64 c.sum-2.result = search rules in
    clean _ _ fits_2 (clean_sum _ _ _ _ _ fits fits_z two z c.sum-2.ensures.value)
