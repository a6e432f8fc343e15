use Rattle.std.proofs.Common.{◌≡◌, ◌≤◌, ◌+◌, ◌*◌, ℕ, pos, ◌-ℤ◌, unsigned_abs, arith}
use Rattle.std.specs.Prelude.{slice_index}
use Rattle.std.proofs.lemmas.Nat.{mul-le}
use Rattle.lbm_lanes.proofs.Ready.{square_is}
use Rattle.lbm_lanes.proofs.fluid.base.Goals as goal

-- a square, and that it is at most that of the density
square_within : (s x r : ℕ) → s + 16777216 * x ≡ x * x + 70368744177664 → unsigned_abs (pos x -ℤ pos 8388608) ≤ r → s ≤ r * r
square_within s x r is within = omega (arith, square_is s x is, mul-le (unsigned_abs (pos x -ℤ pos 8388608)) (unsigned_abs (pos x -ℤ pos 8388608)) r r within within)

dense_square : (r : ℕ) → r ≤ 1769472 → r * r ≤ 3131031158784
dense_square r dense = mul-le r r 1769472 1769472 dense dense

pub sum-own-requires : goal.sum-own-requires
sum-own-requires c l known =
    let r = slice_index c.args.rho l in
    let x = square_within (slice_index c.square.result l) (slice_index c.args.x l) r (c.square.ensures l known) (c.requires.x_small l known) in
    let y = square_within (slice_index c.square-2.result l) (slice_index c.args.y l) r (c.square-2.ensures l known) (c.requires.y_small l known) in
    let z = square_within (slice_index c.square-3.result l) (slice_index c.args.z l) r (c.square-3.ensures l known) (c.requires.z_small l known) in
    omega (arith, x, y, z, c.sum.ensures l known, dense_square r (c.requires.not_dense l known))

pub multiple-requires : goal.multiple-requires
multiple-requires c l known = omega (arith, c.product.ensures l known, dense_square (slice_index c.args.rho l) (c.requires.not_dense l known))

pub multiple-requires-2 : goal.multiple-requires-2
multiple-requires-2 c l known =
    let r = slice_index c.args.rho l in
    let x = square_within (slice_index c.square.result l) (slice_index c.args.x l) r (c.square.ensures l known) (c.requires.x_small l known) in
    let y = square_within (slice_index c.square-2.result l) (slice_index c.args.y l) r (c.square-2.ensures l known) (c.requires.y_small l known) in
    let z = square_within (slice_index c.square-3.result l) (slice_index c.args.z l) r (c.square-3.ensures l known) (c.requires.z_small l known) in
    omega (arith, x, y, z, c.sum.ensures l known, c.sum-own.ensures l known, dense_square r (c.requires.not_dense l known))

pub difference-requires : goal.difference-requires
difference-requires c l known =
    let r = slice_index c.args.rho l in
    let x = square_within (slice_index c.square.result l) (slice_index c.args.x l) r (c.square.ensures l known) (c.requires.x_small l known) in
    let y = square_within (slice_index c.square-2.result l) (slice_index c.args.y l) r (c.square-2.ensures l known) (c.requires.y_small l known) in
    let z = square_within (slice_index c.square-3.result l) (slice_index c.args.z l) r (c.square-3.ensures l known) (c.requires.z_small l known) in
    omega (arith, x, y, z, c.sum.ensures l known, c.sum-own.ensures l known, c.multiple.ensures l known, c.multiple-2.ensures l known, c.product.ensures l known)

pub returns : goal.returns
returns c l known =
    let r = slice_index c.args.rho l in
    let x = square_within (slice_index c.square.result l) (slice_index c.args.x l) r (c.square.ensures l known) (c.requires.x_small l known) in
    let y = square_within (slice_index c.square-2.result l) (slice_index c.args.y l) r (c.square-2.ensures l known) (c.requires.y_small l known) in
    let z = square_within (slice_index c.square-3.result l) (slice_index c.args.z l) r (c.square-3.ensures l known) (c.requires.z_small l known) in
    let x_is = square_is (slice_index c.square.result l) (slice_index c.args.x l) (c.square.ensures l known) in
    let y_is = square_is (slice_index c.square-2.result l) (slice_index c.args.y l) (c.square-2.ensures l known) in
    let z_is = square_is (slice_index c.square-3.result l) (slice_index c.args.z l) (c.square-3.ensures l known) in
    rw (← x_is, ← y_is, ← z_is) (omega (arith, x, y, z, c.sum.ensures l known, c.sum-own.ensures l known, c.multiple.ensures l known, c.multiple-2.ensures l known, c.product.ensures l known, c.difference.ensures l known))
