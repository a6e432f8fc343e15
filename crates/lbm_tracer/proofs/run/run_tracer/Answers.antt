use Rattle.std.proofs.Common.{◌-◌, Err, sym, ap, subst, arith}
use Rattle.lbm_tracer.specs.Carried.{Carried, carried}
use Rattle.lbm_tracer.specs.Running.{TracerGives}
use Rattle.lbm_tracer.proofs.Running.{BothWent, ends-tracer, ends-flow, goes-on, ends-last}
use Rattle.lbm_tracer.proofs.run.run_tracer.Goals as goal

pub returns-in-Some : goal.returns-in-Some
returns-in-Some g c =
    let flow = g.P.Lattice.standing c.args.pattern.now in let old = carried c.args.tracer.now in
    ends-tracer g.P.Lattice.WANTS_MEMORY flow old c.args.steps c.loop-step.step (g.P.Lattice.standing c.loop-step.pattern) (carried c.loop-step.tracer) c.loop-step.invariant.ahead (omega (arith, c.loop-step-test.true)) c.loop-step.invariant.went
    (carried c.follow.new.self) (carried c.spend.new.self) c.in-Some.cell c.in-Some.ensures (ap (λ (t : Carried). t.spent) c.spend.ensures)

pub returns-in-Err : goal.returns-in-Err
returns-in-Err g c =
    let flow = g.P.Lattice.standing c.args.pattern.now in let old = carried c.args.tracer.now in
    subst (λ end. TracerGives g.P.Lattice.WANTS_MEMORY flow (g.P.Lattice.standing c.step.new.self) old (carried c.spend-in-Err.new.self) c.args.steps (Err end)) (sym c.at.ensures)
    (ends-flow g.P.Lattice.WANTS_MEMORY flow old c.args.steps c.loop-step.step (g.P.Lattice.standing c.loop-step.pattern) (carried c.loop-step.tracer) c.loop-step.invariant.ahead (omega (arith, c.loop-step-test.true)) c.loop-step.invariant.went
    (g.P.Lattice.standing c.step.new.self) (carried c.spend-in-Err.new.self) c.in-Err.end c.loop-step-test.true c.in-Err.ensures (ap (λ (t : Carried). t.spent) c.spend-in-Err.ensures))

pub loop-step-preserved : goal.loop-step-preserved
loop-step-preserved g c =
    let flow = g.P.Lattice.standing c.args.pattern.now in let old = carried c.args.tracer.now in
    record {
      ahead = omega (arith, c.loop-step.invariant.ahead);
      went = goes-on g.P.Lattice.WANTS_MEMORY flow old c.args.steps c.loop-step.step (g.P.Lattice.standing c.loop-step.pattern) (carried c.loop-step.tracer) c.loop-step.invariant.ahead (omega (arith, c.loop-step-test.true)) c.loop-step.invariant.went
          (g.P.Lattice.standing c.step.new.self) (carried c.follow.new.self) c.in_default.ensures c.in_default-step.ensures;
    }

pub returns : goal.returns
returns g c =
    let flow = g.P.Lattice.standing c.args.pattern.now in let old = carried c.args.tracer.now in
    let now = g.P.Lattice.standing c.loop-step.pattern in let tracer = carried c.loop-step.tracer in
    let went : BothWent flow old (c.args.steps - flow.time) now tracer = subst (λ n. BothWent flow old n now tracer) (omega (arith, c.loop-step-test.false, c.loop-step.auto.step-end, c.requires.ahead)) c.loop-step.invariant.went in
    ends-last g.P.Lattice.WANTS_MEMORY flow old c.args.steps now tracer c.requires.ahead went (carried c.last_test.new.tracer) c.last_test.result c.last_test.ensures
