use Rattle.std.proofs.Common.{◌*◌, ◌<◌, ◌^◌, get_or, ap, arith, rules}
use Rattle.lbm_space.proofs.RowStarts.{row_start_rises}
use Rattle.lbm_walk.proofs.Places.{width, few_cells}
use Rattle.lbm_walk.proofs.slab.slab_row.Goals as goal

pub overflow_mul-result : goal.overflow_mul-result
overflow_mul-result c =
    let t = c.args.space.now in let number = c.args.number in let few = few_cells t c.sides.ensures.valid number (omega (arith, c.requires.high, c.requires.inside)) in
    let whole = ap (λ n. number * n) (width t c.sides.result c.sides.ensures.value) in let small : number * get_or c.sides.result 0 0 < 2 ^ 32 = omega (arith, few, whole) in search (rules, small)

pub overflow_sub-result : goal.overflow_sub-result
overflow_sub-result c =
    let row = c.row_start.ensures.start in let first = c.row_start-2.ensures.start in
    let rise = row_start_rises c.args.space.now c.sides.ensures.valid c.args.rows.0 c.args.number c.requires.low (omega (arith, c.requires.high, c.requires.inside)) in omega (arith, row, first, rise)

pub returns : goal.returns
returns c =
    let t = c.args.space.now in let number = c.args.number in let row = c.row_start.ensures.start in let first = c.row_start-2.ensures.start in let whole = width t c.sides.result c.sides.ensures.value in
    let rise = row_start_rises t c.sides.ensures.valid c.args.rows.0 number c.requires.low (omega (arith, c.requires.high, c.requires.inside)) in
    record { inside = c.requires.inside; low = c.requires.low; high = c.requires.high; first = ap (λ n. number * n) whole; whole = whole; begins = omega (arith, row, first, rise) }
