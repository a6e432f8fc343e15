use Rattle.std.proofs.Common.{◌<◌, ◌≤◌, ◌*◌, ◌/◌, ◌∙◌, ℕ, ap, arith}
use Rattle.std.specs.Prelude.{slice_index}
use Rattle.lbm_lanes.proofs.Quotients.{product_below}
use Rattle.lbm_lanes.proofs.reciprocal.reciprocals.Goals as goal

part_below : (g r k : ℕ) → g < 4294967296 → r ≤ 1769472 → 4294967295 * 1769472 < k → g * r < k
part_below g r k small dense room = product_below g r 4294967295 1769472 k (omega (arith, small)) dense room

pub product-part-requires-clause-room : goal.product-part-requires-clause-room
product-part-requires-clause-room c l known = part_below (slice_index c.guessed-guess.result l) (slice_index c.args.rho l) 4611686018427387904 (c.guessed-guess.ensures l known) (c.requires.not_dense l known) (omega arith)

pub near-requires-clause-part : goal.near-requires-clause-part
near-requires-clause-part c l known = rw (c.product-part.ensures l known) (part_below (slice_index c.guessed-guess.result l) (slice_index c.args.rho l) 1152921504606846976 (c.guessed-guess.ensures l known) (c.requires.not_dense l known) (omega arith))

pub corrected-requires-clause-low : goal.corrected-requires-clause-low
corrected-requires-clause-low c l known = omega (arith, c.near.ensures.low l c.if-not-near.false known, c.product-part.ensures l known, c.all-whole.ensures l known)

pub corrected-requires-clause-high : goal.corrected-requires-clause-high
corrected-requires-clause-high c l known = omega (arith, c.near.ensures.high l c.if-not-near.false known, c.product-part.ensures l known, c.all-whole.ensures l known)

pub corrected-requires-clause-room : goal.corrected-requires-clause-room
corrected-requires-clause-room c l known = omega (arith, c.all-whole.ensures l known)

pub returns : goal.returns
returns c l known = c.corrected.ensures l known ∙ ap (λ (n : ℕ). n / slice_index c.args.rho l) (c.all-whole.ensures l known)
