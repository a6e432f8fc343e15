use Rattle.std.proofs.Common.{sym, arith}
use Rattle.lbm_case.specs.Views.{drawing_view}
use Rattle.lbm_case.proofs.Even.{ragged-within}
use Rattle.lbm_case.proofs.rows.check_lengths.Goals as goal

pub overflow_cast-result : goal.overflow_cast-result
overflow_cast-result c =
    let few = ragged-within c.args.layers (drawing_view c.args.rows.now) c.in-Some.row (sym c.in-Some.ensures) in
    let small = c.requires.small.few in
    omega arith
