use Rattle.std.proofs.Common.{◌+◌, arith}
use Rattle.lbm_number.proofs.Digits.{digits_value_more, digits_value_small, digit_at}
use Rattle.lbm_number.proofs.digits_value.Goals as goal

pub overflow_mul-value : goal.overflow_mul-value
overflow_mul-value c =
    let i = c.loop-digit.digit-index in
    let ds = c.args.digits.now in
    let more = digits_value_more ds i 0 (omega arith) in
    let small = digits_value_small ds (i + 1) c.requires.few c.requires.digits in
    omega (arith, more, small, c.loop-digit.invariant)

pub overflow_add-value : goal.overflow_add-value
overflow_add-value c =
    let i = c.loop-digit.digit-index in
    let ds = c.args.digits.now in
    let more = digits_value_more ds i 0 (omega arith) in
    let small = digits_value_small ds (i + 1) c.requires.few c.requires.digits in
    let digit = digit_at ds i 0 c.requires.digits (omega arith) in
    omega (arith, more, small, digit, c.loop-digit.invariant, c.from.ensures)

pub loop-digit-preserved : goal.loop-digit-preserved
loop-digit-preserved c =
    let i = c.loop-digit.digit-index in
    let ds = c.args.digits.now in
    let more = digits_value_more ds i 0 (omega arith) in
    let digit = digit_at ds i 0 c.requires.digits (omega arith) in
    omega (arith, more, digit, c.loop-digit.invariant, c.from.ensures)
