use Rattle.std.proofs.Common.{arith}
use Rattle.lbm_model.proofs.Sizes.{few_cells}
use Rattle.lbm_tracer.proofs.Rows.{cell_known}
use Rattle.lbm_tracer.proofs.slots.TracerRow.cell.Goals as goal

pub overflow_mul-result : goal.overflow_mul-result
overflow_mul-result c =
    let r = c.args.self.now in
    let below = cell_known r c.requires.row c.args.x c.requires.x in let few = few_cells r.space c.requires.row.space in
    record { fits = omega (arith, below, few) }

pub overflow_add-result : goal.overflow_add-result
overflow_add-result c =
    let r = c.args.self.now in
    let below = cell_known r c.requires.row c.args.x c.requires.x in let few = few_cells r.space c.requires.row.space in
    record { fits = omega (arith, below, few) }

pub returns-clause-known : goal.returns-clause-known
returns-clause-known c = cell_known c.args.self.now c.requires.row c.args.x c.requires.x
