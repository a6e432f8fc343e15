use Rattle.std.proofs.Common.{◌∙◌, ap, sym, rules}
use Rattle.std.proofs.lemmas.Result.{err_from_is_err_and}
use Rattle.lbm_store.proofs.WholeFiles.{WritesFile-from_writes, WritesFile-cut}
use Rattle.lbm_tracer.specs.Trace.{trace}
use Rattle.lbm_answer.proofs.tracer.write_amounts.Goals as goal

pub returns-in_err-create : goal.returns-in_err-create
returns-in_err-create g c =
    let p = err_from_is_err_and c.from_residual.result c.from_residual.ensures.1 in
    rw (p.1, p.2)
    (WritesFile-cut _ _ _ _ _ c.in_err-create.ensures.err c.in_err-create.ensures.cause c.create.ensures.others c.create.ensures.read_faults)

pub returns : goal.returns
returns g c =
    let loan = ap (λ r. r.loan) c.write_trace.ensures.rest ∙ ap (λ s. s.rest.loan) c.new-file.ensures in
    let last = c.store-1.given.1 (search (rules, loan)) in
    rw (last, sym c.deref.ensures.value)
    (WritesFile-from_writes (g.T.Store.state c.args.store.now) (g.T.Store.state c.create.new.self) c.args.name.now
    (trace c.args.left.now.flow.space c.args.left.now.flow.report.step _) c.in_ok-create.ensures.ok c.in_ok-create.ensures.cause.kept c.create.ensures.others c.create.ensures.read_faults _ _ _ _ _ _ c.new-file.ensures c.write_trace.ensures)
