use Rattle.std.proofs.Common.{◌≤◌, ◌<◌, ◌/◌, arith}
use Rattle.std.specs.Prelude.{slice_index}
use Rattle.std.proofs.lemmas.Nat.{div_below}
use Rattle.lbm_lanes.proofs.Guess.{steps_low, steps_high}
use Rattle.lbm_lanes.proofs.Quotients.{density_guess, cut_small, reciprocal_small, product_below}
use Rattle.lbm_lanes.proofs.quotient.near_by_density.Goals as goal

pub product-requires-clause-room : goal.product-requires-clause-room
product-requires-clause-room c l known =
    let cut : slice_index c.cut.result l ≤ 2197684224 = rw (c.cut.ensures l known) (cut_small (slice_index c.args.n l) (slice_index c.args.rho l) (c.requires.not_dense l known) (c.requires.small l known)) in
    let reciprocal : slice_index c.args.reciprocal l ≤ 1272582902 = rw (c.requires.reciprocal l known) (reciprocal_small (slice_index c.args.rho l) (c.requires.not_thin l known)) in
    product_below (slice_index c.cut.result l) (slice_index c.args.reciprocal l) 2197684224 1272582902 4611686018427387904 cut reciprocal (omega arith)

pub returns-clause-low : goal.returns-clause-low
returns-clause-low c l known =
    let n = slice_index c.args.n l in let rho = slice_index c.args.rho l in let m = slice_index c.args.reciprocal l in
    steps_low n rho m 131072 4294967296 (slice_index c.cut.result l) (slice_index c.product.result l) (slice_index c.cut-2.result l)
    (density_guess n rho m (c.requires.not_thin l known) (c.requires.not_dense l known) (c.requires.reciprocal l known) (c.requires.small l known)) (c.cut.ensures l known) (c.product.ensures l known) (c.cut-2.ensures l known)

pub returns-clause-high : goal.returns-clause-high
returns-clause-high c l known =
    let n = slice_index c.args.n l in let rho = slice_index c.args.rho l in let m = slice_index c.args.reciprocal l in
    steps_high n rho m 131072 4294967296 (slice_index c.cut.result l) (slice_index c.product.result l) (slice_index c.cut-2.result l)
    (density_guess n rho m (c.requires.not_thin l known) (c.requires.not_dense l known) (c.requires.reciprocal l known) (c.requires.small l known)) (c.cut.ensures l known) (c.product.ensures l known) (c.cut-2.ensures l known)

pub returns-clause-fits : goal.returns-clause-fits
returns-clause-fits c l known =
    let cut : slice_index c.cut.result l ≤ 2197684224 = rw (c.cut.ensures l known) (cut_small (slice_index c.args.n l) (slice_index c.args.rho l) (c.requires.not_dense l known) (c.requires.small l known)) in
    let reciprocal : slice_index c.args.reciprocal l ≤ 1272582902 = rw (c.requires.reciprocal l known) (reciprocal_small (slice_index c.args.rho l) (c.requires.not_thin l known)) in
    let product : slice_index c.product.result l < 4611686018427387904 = rw (c.product.ensures l known) (product_below (slice_index c.cut.result l) (slice_index c.args.reciprocal l) 2197684224 1272582902 4611686018427387904 cut reciprocal (omega arith)) in
    let below : slice_index c.product.result l / 4294967296 < 1073741824 = div_below (slice_index c.product.result l) 4294967296 1073741824 (omega arith) (omega (arith, product)) in
    omega (arith, c.cut-2.ensures l known, below)
