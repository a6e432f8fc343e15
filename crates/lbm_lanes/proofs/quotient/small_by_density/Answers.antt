use Rattle.std.proofs.Common.{◌≤◌, arith}
use Rattle.std.specs.Prelude.{slice_index}
use Rattle.lbm_lanes.proofs.Guess.{steps_low, steps_high}
use Rattle.lbm_lanes.proofs.Quotients.{small_density_guess, small_cut_small, reciprocal_small, product_below}
use Rattle.lbm_lanes.proofs.quotient.small_by_density.Goals as goal

pub product-requires-clause-room : goal.product-requires-clause-room
product-requires-clause-room c l known =
    let cut : slice_index c.cut.result l ≤ 3057647616 = rw (c.cut.ensures l known) (small_cut_small (slice_index c.args.n l) (slice_index c.args.rho l) (c.requires.not_dense l known) (c.requires.small l known)) in
    let reciprocal : slice_index c.args.reciprocal l ≤ 1272582902 = rw (c.requires.reciprocal l known) (reciprocal_small (slice_index c.args.rho l) (c.requires.not_thin l known)) in
    product_below (slice_index c.cut.result l) (slice_index c.args.reciprocal l) 3057647616 1272582902 4611686018427387904 cut reciprocal (omega arith)

pub corrected-requires-clause-low : goal.corrected-requires-clause-low
corrected-requires-clause-low c l known =
    let n = slice_index c.args.n l in let rho = slice_index c.args.rho l in let m = slice_index c.args.reciprocal l in
    steps_low n rho m 256 2199023255552 (slice_index c.cut.result l) (slice_index c.product.result l) (slice_index c.cut-2.result l)
    (small_density_guess n rho m (c.requires.not_thin l known) (c.requires.not_dense l known) (c.requires.reciprocal l known) (c.requires.small l known)) (c.cut.ensures l known) (c.product.ensures l known) (c.cut-2.ensures l known)

pub corrected-requires-clause-high : goal.corrected-requires-clause-high
corrected-requires-clause-high c l known =
    let n = slice_index c.args.n l in let rho = slice_index c.args.rho l in let m = slice_index c.args.reciprocal l in
    steps_high n rho m 256 2199023255552 (slice_index c.cut.result l) (slice_index c.product.result l) (slice_index c.cut-2.result l)
    (small_density_guess n rho m (c.requires.not_thin l known) (c.requires.not_dense l known) (c.requires.reciprocal l known) (c.requires.small l known)) (c.cut.ensures l known) (c.product.ensures l known) (c.cut-2.ensures l known)
