use Rattle.std.proofs.Common.{◌-◌, Err, sym, subst, arith}
use Rattle.lbm_flow.specs.Running.{Went, RunGives}
use Rattle.lbm_flow.proofs.Running.{Went-none, Went-more, Went-ends, Went-last, Went-whole}
use Rattle.lbm_flow.proofs.run.run_pattern.Goals as goal

pub loop-step-init : goal.loop-step-init
loop-step-init g c =
    let old = g.P.Lattice.standing c.args.pattern.now in
    record { ahead = omega arith; went = subst (λ n. Went old n old) (omega arith) (Went-none old c.requires.unspent) }

pub returns-in-Err : goal.returns-in-Err
returns-in-Err g c =
    let old = g.P.Lattice.standing c.args.pattern.now in
    subst (λ end. RunGives g.P.Lattice.WANTS_MEMORY old (g.P.Lattice.standing c.step.new.self) c.args.steps (Err end)) (sym c.at.ensures)
    (Went-ends g.P.Lattice.WANTS_MEMORY old (g.P.Lattice.standing c.loop-step.pattern) (g.P.Lattice.standing c.step.new.self) c.args.steps c.loop-step.step c.in-Err.end
    c.loop-step.invariant.ahead c.loop-step-test.true c.loop-step.invariant.went c.in-Err.ensures)

pub loop-step-preserved : goal.loop-step-preserved
loop-step-preserved g c =
    let old = g.P.Lattice.standing c.args.pattern.now in
    let gives = c.in_default.ensures in
    let ahead = c.loop-step.invariant.ahead in
    record {
      ahead = omega arith;
      went = subst (λ n. Went old n (g.P.Lattice.standing c.step.new.self)) (omega arith)
          (Went-more old (g.P.Lattice.standing c.loop-step.pattern) (g.P.Lattice.standing c.step.new.self) (c.loop-step.step - old.time) c.loop-step.invariant.went gives.0 gives.1);
    }

pub returns-in-Some : goal.returns-in-Some
returns-in-Some g c =
    let old = g.P.Lattice.standing c.args.pattern.now in
    let now = g.P.Lattice.standing c.loop-step.pattern in
    let went : Went old (c.args.steps - old.time) now = subst (λ n. Went old n now) (omega arith) c.loop-step.invariant.went in
    Went-last g.P.Lattice.WANTS_MEMORY old now c.args.steps c.in-Some.cell c.requires.ahead went (sym c.in-Some.ensures)

pub returns-in-None : goal.returns-in-None
returns-in-None g c =
    let old = g.P.Lattice.standing c.args.pattern.now in
    let now = g.P.Lattice.standing c.loop-step.pattern in
    let went : Went old (c.args.steps - old.time) now = subst (λ n. Went old n now) (omega arith) c.loop-step.invariant.went in
    Went-whole g.P.Lattice.WANTS_MEMORY old now c.args.steps went (sym c.in-None.ensures)
