use Rattle.std.proofs.Common.{Ok, Err, sym, subst}
use Rattle.std.proofs.lemmas.Result.{err_from_is_err_and}
use Rattle.lbm_model.specs.State.{FlowState}
use Rattle.lbm_flow.specs.Running.{RunGives, Reaches, beginning_of}
use Rattle.lbm_flow.proofs.Finishing.{finishes-early, reaches-stepped}
use Rattle.lbm_flow.proofs.finish.last_state.Goals as goal

pub returns-clause-reaches : goal.returns-clause-reaches
returns-clause-reaches g c =
    let old = g.P.Lattice.standing c.args.lattice.now in
    let new = g.P.Lattice.standing c.run_pattern.new.pattern in
    let wants = g.P.Lattice.WANTS_MEMORY in
    let gives : RunGives wants old new c.args.steps (Ok tt) = subst (λ n. RunGives wants old new n (Ok tt)) c.from.ensures c.in_ok-run_pattern.ensures in
    subst (λ (s : FlowState). Reaches old.case c.args.steps (beginning_of old) (Ok s)) (sym c.in_ok-state_of.ensures) (reaches-stepped c.args.steps old new wants c.requires.begin gives)

pub returns-in_err-run_pattern-clause-reaches : goal.returns-in_err-run_pattern-clause-reaches
returns-in_err-run_pattern-clause-reaches g c =
    let old = g.P.Lattice.standing c.args.lattice.now in
    let new = g.P.Lattice.standing c.run_pattern.new.pattern in
    let wants = g.P.Lattice.WANTS_MEMORY in
    let end = c.in_err-run_pattern.field-0.0 in
    let gives : RunGives wants old new c.args.steps (Err end) = subst (λ n. RunGives wants old new n (Err end)) c.from.ensures c.in_err-run_pattern.ensures in
    let p = err_from_is_err_and c.from_residual.result c.from_residual.ensures.1 in
    rw (p.1, p.2) (finishes-early c.args.steps old new wants end gives)
