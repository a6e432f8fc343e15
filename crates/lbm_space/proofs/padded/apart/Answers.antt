use Rattle.std.proofs.Common.{◌≡◌, ℕ, ◌+◌, ◌*◌, ℤ, pos, ◌+ℤ◌, ◌*ℤ◌, ◌≤◌, unsigned_abs, FitsSigned, to_z, of_z, w64, arith}
use Rattle.std.proofs.lemmas.Int.{ints, to_z-of_z, fits_signed_from_abs, unsigned_abs-mul}
use Rattle.std.proofs.lemmas.Nat.{mul-le}
use Rattle.lbm_space.proofs.padded.apart.Goals as goal

-- the product and the sum fit their type
product_size : (side : ℕ) (lines : ℤ) → side ≤ 4096 → unsigned_abs lines ≤ 4099 → unsigned_abs (pos (side + 2) *ℤ lines) ≤ 16797702
product_size side lines small few = let e = unsigned_abs-mul (pos (side + 2)) lines in let top = mul-le (side + 2) (unsigned_abs lines) 4098 4099 (omega arith) few in omega (arith, e, top)

product_fits : (side : ℕ) (lines : ℤ) → side ≤ 4096 → unsigned_abs lines ≤ 4099 → FitsSigned w64 (pos (side + 2) *ℤ lines)
product_fits side lines small few = let size = product_size side lines small few in fits_signed_from_abs w64 (pos (side + 2) *ℤ lines) (omega arith)

sum_size : (step : ℤ) (side : ℕ) (lines : ℤ) → unsigned_abs step ≤ 1 → unsigned_abs (step +ℤ pos (side + 2) *ℤ lines) ≤ 1 + (side + 2) * unsigned_abs lines
sum_size step side lines unit =
    let e : unsigned_abs (pos (side + 2) *ℤ lines) ≡ (side + 2) * unsigned_abs lines = unsigned_abs-mul (pos (side + 2)) lines in
    abs_sum step (pos (side + 2) *ℤ lines) ((side + 2) * unsigned_abs lines) unit (omega arith)
  where
    abs_sum : (a b : ℤ) (n : ℕ) → unsigned_abs a ≤ 1 → unsigned_abs b ≤ n → unsigned_abs (a +ℤ b) ≤ 1 + n
    abs_sum a b n one few = omega (arith, ints)

sum_fits : (step : ℤ) (side : ℕ) (lines : ℤ) → unsigned_abs step ≤ 1 → side ≤ 4096 → unsigned_abs lines ≤ 4099 → FitsSigned w64 (step +ℤ pos (side + 2) *ℤ lines)
sum_fits step side lines unit small few =
    let size = sum_size step side lines unit in let top = mul-le (side + 2) (unsigned_abs lines) 4098 4099 (omega arith) few in
    fits_signed_from_abs w64 (step +ℤ pos (side + 2) *ℤ lines) (omega arith)

pub overflow_mul-result : goal.overflow_mul-result
overflow_mul-result c =
    let width : to_z w64 (of_z w64 (to_z w64 (of_z w64 c.from-width.result) +ℤ pos 2)) ≡ pos (c.args.side + 2) = omega (arith, ints) in
    rw (width, to_z-of_z w64 c.args.lines c.ranges.lines) (product_fits c.args.side c.args.lines c.requires.side c.requires.lines)

pub overflow_add-result : goal.overflow_add-result
overflow_add-result c =
    let width : to_z w64 (of_z w64 (to_z w64 (of_z w64 c.from-width.result) +ℤ pos 2)) ≡ pos (c.args.side + 2) = omega (arith, ints) in
    rw (width, to_z-of_z w64 c.args.lines c.ranges.lines, to_z-of_z w64 c.args.step c.ranges.step, to_z-of_z w64 (pos (c.args.side + 2) *ℤ c.args.lines) (product_fits c.args.side c.args.lines c.requires.side c.requires.lines))
    (sum_fits c.args.step c.args.side c.args.lines c.requires.step c.requires.side c.requires.lines)

pub returns-clause-value : goal.returns-clause-value
returns-clause-value c =
    let width : to_z w64 (of_z w64 (to_z w64 (of_z w64 c.from-width.result) +ℤ pos 2)) ≡ pos (c.args.side + 2) = omega (arith, ints) in
    rw (width, to_z-of_z w64 c.args.lines c.ranges.lines, to_z-of_z w64 c.args.step c.ranges.step, to_z-of_z w64 (pos (c.args.side + 2) *ℤ c.args.lines) (product_fits c.args.side c.args.lines c.requires.side c.requires.lines))
    (to_z-of_z w64 (c.args.step +ℤ pos (c.args.side + 2) *ℤ c.args.lines) (sum_fits c.args.step c.args.side c.args.lines c.requires.step c.requires.side c.requires.lines))

pub returns-clause-size : goal.returns-clause-size
returns-clause-size c =
    let width : to_z w64 (of_z w64 (to_z w64 (of_z w64 c.from-width.result) +ℤ pos 2)) ≡ pos (c.args.side + 2) = omega (arith, ints) in
    rw (width, to_z-of_z w64 c.args.lines c.ranges.lines, to_z-of_z w64 c.args.step c.ranges.step, to_z-of_z w64 (pos (c.args.side + 2) *ℤ c.args.lines) (product_fits c.args.side c.args.lines c.requires.side c.requires.lines), to_z-of_z w64 (c.args.step +ℤ pos (c.args.side + 2) *ℤ c.args.lines) (sum_fits c.args.step c.args.side c.args.lines c.requires.step c.requires.side c.requires.lines))
    (sum_size c.args.step c.args.side c.args.lines c.requires.step)
