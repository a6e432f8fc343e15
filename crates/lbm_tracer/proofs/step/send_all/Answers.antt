use Rattle.std.proofs.Common.{◌≡◌, ℕ, ◌+◌, ◌*◌, ◌≤◌, Ok, Err, ap, subst, ◌∙◌, arith}
use Rattle.std.proofs.lemmas.Result.{err_from_is_err_and}
use Rattle.lbm_space.specs.Torus.{Torus, cells, rows}
use Rattle.lbm_arrays.proofs.Padding.{same_again}
use Rattle.lbm_sweep.proofs.CellRows.{rows_known}
use Rattle.lbm_tracer.specs.Carried.{AreFew, amount_in}
use Rattle.lbm_tracer.specs.FlowRows.{HasRoom}
use Rattle.lbm_tracer.specs.Sending.{HaveSent}
use Rattle.lbm_tracer.proofs.Sending.{row-goes, stopped-early}
use Rattle.lbm_tracer.proofs.step.send_all.Goals as goal

pub returns-in_err-send_by-clause-sent : goal.returns-in_err-send_by-clause-sent
returns-in_err-send_by-clause-sent g c =
    let now = g.P.Lattice.standing c.args.flow.now in let t = c.args.space.now in let rates = c.args.rates in let time = c.args.time in let number = c.loop-number.number in
    let row = c.of-row.result in let e = c.of-row.ensures in let end = c.in_err-send_by.field-0.0 in
    let l = c.loop-number.region.slots in let new = c.send_by.new.region.slots in let first = c.args.region.now.slots in
    let few : (number + 1) * t.nx ≤ cells t = rows_known t (number + 1) (omega (arith, c.loop-number-test.true, c.rows-number-end.ensures.count)) in
    let stopped = row-goes now rates row l new (Err end) e.row t time number e.space e.time e.number c.in_err-send_by.ensures.sent first c.loop-number.invariant.sent in
    let p = err_from_is_err_and c.from_residual.result c.from_residual.ensures.1 in
    rw (p.1, p.2) (stopped-early now.case rates now.state time first new ((number + 1) * t.nx) (cells t) end few stopped)

pub loop-number-preserved : goal.loop-number-preserved
loop-number-preserved g c =
    let now = g.P.Lattice.standing c.args.flow.now in let t = c.args.space.now in let rates = c.args.rates in let time = c.args.time in let number = c.loop-number.number in
    let row = c.of-row.result in let e = c.of-row.ensures in let done = c.in_ok-send_by.field-0 in
    let l = c.loop-number.region in let new = c.send_by.new.region in let first = c.args.region.now.slots in
    record {
      same = same_again c.args.region.now l new c.loop-number.invariant.same c.send_by.ensures.same;
      few = subst (λ (w : Torus × ℕ). AreFew w.0 (amount_in w.0 w.1 new.slots)) (λ j. (e.space j, e.time j)) c.send_by.ensures.few;
      room = subst (λ (u : Torus). HasRoom u.nx c.send_by.new.flows) e.space c.send_by.ensures.room;
      sent = row-goes now rates row l.slots new.slots (Ok done) e.row t time number e.space e.time e.number c.in_ok-send_by.ensures.sent first c.loop-number.invariant.sent;
    }

pub returns-clause-sent : goal.returns-clause-sent
returns-clause-sent g c =
    let now = g.P.Lattice.standing c.args.flow.now in let t = c.args.space.now in
    let all : c.loop-number.number ≡ rows t = omega (arith, c.loop-number-test.false, c.rows-number-end.ensures.count, c.loop-number.auto.number-end) in
    let whole : c.loop-number.number * t.nx ≡ cells t = ap (λ (n : ℕ). n * t.nx) all ∙ omega arith in
    subst (HaveSent now.case c.args.rates now.state c.args.time c.args.region.now.slots c.loop-number.region.slots) whole c.loop-number.invariant.sent
