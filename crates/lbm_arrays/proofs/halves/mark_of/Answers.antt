use Rattle.std.proofs.Common.{arith}
use Rattle.lbm_space.proofs.RowStarts.{row_start_rises}
use Rattle.lbm_arrays.proofs.halves.mark_of.Goals as goal

pub overflow_sub-result : goal.overflow_sub-result
overflow_sub-result c =
    let up = row_start_rises c.args.space.now c.row_start.ensures.valid 0 c.args.row (omega arith) c.requires in
    let high = c.row_start.ensures.start in let low = c.row_start-2.ensures.start in omega arith
