use Rattle.std.proofs.Common.{ℕ, ◌+◌, ◌*◌, ◌≤◌, Bool, refl, sym, ap, subst, ◌∙◌, arith}
use Rattle.std.proofs.Math.Nat.{mul-le-mul_right}
use Rattle.lbm_space.specs.Torus.{cells, rows}
use Rattle.lbm_cell.proofs.Least.{least_failing-all}
use Rattle.lbm_model.specs.State.{population}
use Rattle.lbm_model.specs.Flow.{is_sound}
use Rattle.lbm_model.specs.Layout.{state_in}
use Rattle.lbm_walk.specs.First.{IsFirst}
use Rattle.lbm_walk.proofs.Firsts.{first_later}
use Rattle.lbm_sweep.proofs.CellRows.{rows_known, none_of, early, row_answer}
use Rattle.lbm_sweep.proofs.Steps.{first-least}
use Rattle.lbm_sweep.proofs.lattice.least_out_of_limits.Goals as goal

pub returns-then-is_some : goal.returns-then-is_some
returns-then-is_some g c =
    let case = c.args.case.now in let slots = c.args.region.now.slots in let n = c.loop-number.number in let nx = case.torus.nx in let s = state_in case c.args.layout slots in
    let test : ℕ → Bool = λ y. is_sound case y (population s y) in
    let answer = row_answer g.V.VelocitySet.stencil c.of-row.result c.of-row.ensures.row case c.args.layout n slots c.least_in_row-answer.result c.of-row.ensures.case c.of-row.ensures.layout c.of-row.ensures.number c.least_in_row-answer.ensures in
    let inside : n + 1 ≤ rows case.torus = omega (arith, c.loop-number-test.true, c.rows-number-end.ensures.count ∙ ap rows c.space.ensures.value) in
    let first = first_later test 0 (n * nx) ((n + 1) * nx) c.least_in_row-answer.result (omega arith) c.loop-number.invariant answer in
    first-least (cells case.torus) test test c.least_in_row-answer.result (λ k below. refl)
    (early test 0 ((n + 1) * nx) (cells case.torus) c.least_in_row-answer.result (rows_known case.torus (n + 1) inside) (sym c.is_some.ensures ∙ c.if-is_some.true) first)

pub loop-number-preserved : goal.loop-number-preserved
loop-number-preserved g c =
    let case = c.args.case.now in let slots = c.args.region.now.slots in let n = c.loop-number.number in let nx = case.torus.nx in let s = state_in case c.args.layout slots in
    let test : ℕ → Bool = λ y. is_sound case y (population s y) in
    let answer = row_answer g.V.VelocitySet.stencil c.of-row.result c.of-row.ensures.row case c.args.layout n slots c.least_in_row-answer.result c.of-row.ensures.case c.of-row.ensures.layout c.of-row.ensures.number c.least_in_row-answer.ensures in
    let none = none_of c.least_in_row-answer.result (sym c.is_some.ensures ∙ c.if-is_some.false) in
    subst (IsFirst test 0 ((n + 1) * nx)) none (first_later test 0 (n * nx) ((n + 1) * nx) c.least_in_row-answer.result (omega arith) c.loop-number.invariant answer)

pub returns : goal.returns
returns g c =
    let case = c.args.case.now in let n = c.loop-number.number in let s = state_in case c.args.layout c.args.region.now.slots in
    let all : rows case.torus ≤ n = omega (arith, c.loop-number-test.false, c.rows-number-end.ensures.count ∙ ap rows c.space.ensures.value) in
    let whole = mul-le-mul_right case.torus.nx all in
    sym (least_failing-all (cells case.torus) (λ y. is_sound case y (population s y)) (λ y here. c.loop-number.invariant.passed y (omega arith) (omega (arith, here, whole))))
