use Rattle.std.proofs.Common.{subst}
use Rattle.lbm_model.specs.Case.{FlowCase}
use Rattle.lbm_tracer.specs.FlowRows.{moment_at}
use Rattle.lbm_tracer.specs.Sending.{RowGoes}
use Rattle.lbm_tracer.proofs.Sending.{row-sends}
use Rattle.lbm_tracer.proofs.Quiet.{quiet_row}
use Rattle.lbm_tracer.proofs.step.send_by.Goals as goal

pub returns-then-is_row_empty-clause-sent : goal.returns-then-is_row_empty-clause-sent
returns-then-is_row_empty-clause-sent g c =
    let now = g.P.Lattice.standing c.args.flow.now in
    λ old before. quiet_row now c.args.rates c.args.row.now c.args.region.now.slots old c.requires.row c.requires.space (c.is_row_empty.ensures c.if-is_row_empty.true) before

pub returns-clause-sent : goal.returns-clause-sent
returns-clause-sent g c =
    let now = g.P.Lattice.standing c.args.flow.now in let row = c.args.row.now in let m = moment_at c.read.new.self in
    let l = c.args.region.now.slots in let new = c.send_row.new.region.slots in
    let goes : RowGoes now.case c.args.rates row m l new c.send_row.result = subst (λ (w : FlowCase). RowGoes w c.args.rates row m l new c.send_row.result) c.case.ensures.value c.send_row.ensures.sent in
    row-sends now c.args.rates row l new c.send_row.result c.requires.row m c.requires.space goes c.read.ensures.moments
