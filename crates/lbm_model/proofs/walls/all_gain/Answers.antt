use Rattle.std.proofs.Common.{◌≡◌, ◌<◌, ◌≤◌, ◌+ℤ◌, FitsSigned, rules, arith, sym, to_z, of_z}
use Rattle.std.specs.Int.{w64}
use Rattle.std.proofs.lemmas.Int.{ints}
use Rattle.lbm_space.proofs.Sums.{sum_below_more}
use Rattle.lbm_model.specs.Case.{cell_gain}
use Rattle.lbm_model.proofs.Sizes.{few_cells}
use Rattle.lbm_model.proofs.walls.all_gain.Goals as goal

pub loop-cell-preserved : goal.loop-cell-preserved
loop-cell-preserved g c =
    let known : c.loop-cell.cell < 4194304 = omega (arith, few_cells c.space.result.now c.cells-cell-end.ensures.valid) in
    let sum = to_z w64 c.loop-cell.sum-bits in
    let fits : FitsSigned w64 c.cell_gain-sum.result = search rules in
    let added : to_z w64 (of_z w64 (sum +ℤ to_z w64 (of_z w64 c.cell_gain-sum.result))) ≡ sum +ℤ c.cell_gain-sum.result = omega (arith, ints, c.loop-cell.invariant.small, c.cell_gain-sum.ensures.size) in
    let more = sum_below_more c.loop-cell.cell (cell_gain c.args.case.now) in
    record {
      done = rw (added, c.loop-cell.invariant.done, c.cell_gain-sum.ensures.value) (sym more);
      small = rw added (omega (arith, ints, c.loop-cell.invariant.small, c.cell_gain-sum.ensures.size));
    }

pub returns-clause-size : goal.returns-clause-size
returns-clause-size g c =
    let known : c.loop-cell.cell ≤ 4194304 = omega (arith, few_cells c.space.result.now c.cells-cell-end.ensures.valid) in
    omega (arith, c.loop-cell.invariant.small)
