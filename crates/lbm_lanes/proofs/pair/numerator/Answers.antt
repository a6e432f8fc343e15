use Rattle.std.proofs.Common.{◌≡◌, ◌≤◌, ◌<◌, ◌+◌, ◌-◌, ◌*◌, ℕ, arith, refl}
use Rattle.std.specs.Prelude.{slice_index}
use Rattle.std.proofs.lemmas.Nat.{mul-le}
use Rattle.lbm_lanes.proofs.Quotients.{square_small, square_by, turned_is}
use Rattle.lbm_lanes.proofs.pair.numerator.Goals.{After-product-both}
use Rattle.lbm_lanes.proofs.pair.numerator.Goals as goal

-- the square of the momentum along the velocity
record IsSquare (both raised r : ℕ) : Type 0 where
  within : both ≤ 70368744177664
  square : 70368744177664 - both + 16777216 * raised ≡ raised * raised + 70368744177664
  small : 70368744177664 - both ≤ 9 * (r * r)

squared : (whole turned both raised r : ℕ) → whole ≡ 16777216 → turned ≡ whole - raised → both ≡ raised * turned → r ≤ 1769472 → raised ≤ 8388608 + 3 * r → 8388608 ≤ raised + 3 * r → IsSquare both raised r
squared whole turned both raised r is_whole is_turned is_both dense forward backward =
    let by = square_by raised turned both (turned_is whole raised turned is_whole is_turned) (omega (arith, forward, dense)) is_both in
    record { within = by.0; square = by.1; small = (let most = square_small (70368744177664 - both) raised (3 * r) by.1 forward backward in omega (arith, most)) }

square : (c : After-product-both) (l : ℕ) → l < 8 → IsSquare (slice_index c.product-both.result l) (slice_index c.args.raised l) (slice_index c.args.cells.now.rho l)
square c l known =
    squared (slice_index c.all.result l) (slice_index c.difference-turned.result l) (slice_index c.product-both.result l) (slice_index c.args.raised l) (slice_index c.args.cells.now.rho l) (c.all.ensures l known) (c.difference-turned.ensures l known) (c.product-both.ensures l known)
    (c.requires.not_dense l known) (c.requires.forward l known) (c.requires.backward l known)

dense : (r : ℕ) → r ≤ 1769472 → r * r ≤ 3131031158784
dense r most = mul-le r r 1769472 1769472 most most

pub product-both-requires-clause-room : goal.product-both-requires-clause-room
product-both-requires-clause-room c l known =
    omega (
      arith,
      (squared (slice_index c.all.result l) (slice_index c.difference-turned.result l) (slice_index c.args.raised l * slice_index c.difference-turned.result l) (slice_index c.args.raised l) (slice_index c.args.cells.now.rho l) (c.all.ensures l known) (c.difference-turned.ensures l known) refl
          (c.requires.not_dense l known) (c.requires.forward l known) (c.requires.backward l known)).within,
    )

pub sum-whole-requires : goal.sum-whole-requires
sum-whole-requires c l known = omega (arith, dense (slice_index c.args.cells.now.rho l) (c.requires.not_dense l known), c.requires.base l known, c.all-2.ensures l known)

pub multiple-nine-requires : goal.multiple-nine-requires
multiple-nine-requires c l known = omega (arith, (square (goal.at.multiple-nine-requires c).After-product-both l known).within)

pub difference-requires : goal.difference-requires
difference-requires c l known =
    omega (arith, (square (goal.at.difference-requires c).After-product-both l known).within, c.multiple-nine.ensures l known, c.sum-whole.ensures l known, c.all-2.ensures l known)

pub returns-clause-small : goal.returns-clause-small
returns-clause-small c l known =
    let is = square (goal.at.returns-clause-small c).After-product-both l known in
    omega (arith, is.within, is.small, c.requires.base l known, c.multiple-nine.ensures l known, c.sum-whole.ensures l known, c.all-2.ensures l known, c.difference.ensures l known)

pub returns-clause-value : goal.returns-clause-value
returns-clause-value c l known =
    let is = square (goal.at.returns-clause-value c).After-product-both l known in
    (70368744177664 - slice_index c.product-both.result l, is.square, omega (arith, is.within, c.multiple-nine.ensures l known, c.sum-whole.ensures l known, c.all-2.ensures l known, c.difference.ensures l known))
