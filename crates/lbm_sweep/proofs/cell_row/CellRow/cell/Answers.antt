use Rattle.std.proofs.Common.{arith}
use Rattle.lbm_model.proofs.Sizes.{few_cells}
use Rattle.lbm_sweep.proofs.CellRows.{cell_known}
use Rattle.lbm_sweep.proofs.cell_row.CellRow.cell.Goals as goal

pub overflow_mul-result : goal.overflow_mul-result
overflow_mul-result g c =
    let r = c.args.self.now in
    let below = cell_known g.V.VelocitySet.stencil r c.requires.row c.args.x c.requires.x in let few = few_cells r.case.now.torus c.requires.row.valid.space in
    record { fits = omega (arith, below, few) }

pub overflow_add-result : goal.overflow_add-result
overflow_add-result g c =
    let r = c.args.self.now in
    let below = cell_known g.V.VelocitySet.stencil r c.requires.row c.args.x c.requires.x in let few = few_cells r.case.now.torus c.requires.row.valid.space in
    record { fits = omega (arith, below, few) }

pub returns-clause-known : goal.returns-clause-known
returns-clause-known g c = cell_known g.V.VelocitySet.stencil c.args.self.now c.requires.row c.args.x c.requires.x
