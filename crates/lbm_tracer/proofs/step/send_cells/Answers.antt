use Rattle.std.proofs.Common.{◌≡◌, ℕ, ◌+◌, ◌<◌, subst, arith}
use Rattle.std.proofs.lemmas.Result.{err_from_is_err_and}
use Rattle.lbm_arrays.proofs.Padding.{same_again}
use Rattle.lbm_tracer.specs.Rows.{cell_at}
use Rattle.lbm_tracer.specs.Sending.{HaveSent}
use Rattle.lbm_tracer.proofs.Sending.{stopped-early}
use Rattle.lbm_tracer.proofs.step.send_cells.Goals as goal

pub returns-in_err-send_cell-clause-sent : goal.returns-in_err-send_cell-clause-sent
returns-in_err-send_cell-clause-sent g c =
    let case = c.args.case.now in let row = c.args.row.now in let x = c.loop-x.x in let end = c.in_err-send_cell.field-0.0 in
    let below : x < row.width = omega (arith, c.loop-x-test.true) in
    let p = err_from_is_err_and c.from_residual.result c.from_residual.ensures.1 in
    rw (p.1, p.2) (λ s old moments before.
    stopped-early case c.args.rates s row.time old c.send_cell.new.region.slots (cell_at row x + 1) (cell_at row row.width) end (omega (arith, below))
    (c.in_err-send_cell.ensures.sent s old (moments x (omega (arith, below, c.requires.row.wide))) (c.loop-x.invariant.sent s old moments before)))

pub loop-x-preserved : goal.loop-x-preserved
loop-x-preserved g c =
    let case = c.args.case.now in let row = c.args.row.now in let x = c.loop-x.x in let new = c.send_cell.new.region in
    let below : x < row.width = omega (arith, c.loop-x-test.true) in
    record {
      same = same_again c.args.region.now c.loop-x.region new c.loop-x.invariant.same c.send_cell.ensures.same;
      few = c.send_cell.ensures.few;
      sent = λ s old moments before.
          subst (HaveSent case c.args.rates s row.time old new.slots) (omega arith)
          (c.in_ok-send_cell.ensures.sent s old (moments x (omega (arith, below, c.requires.row.wide))) (c.loop-x.invariant.sent s old moments before));
    }

pub returns-clause-sent : goal.returns-clause-sent
returns-clause-sent g c =
    let row = c.args.row.now in
    let whole : c.loop-x.x ≡ row.width = omega (arith, c.loop-x-test.false, c.loop-x.auto.x-end) in
    λ s old moments before. subst (λ (n : ℕ). HaveSent c.args.case.now c.args.rates s row.time old c.loop-x.region.slots (cell_at row n)) whole (c.loop-x.invariant.sent s old moments before)
