use Rattle.std.proofs.Common.{◌≤◌, ◌-◌}
use Rattle.lbm_tracer.specs.Carried.{carried}
use Rattle.lbm_tracer.proofs.Running.{BothWent}
use Rattle.lbm_tracer.proofs.run.run_tracer.Given as goal

abbrev pub invariant-loop-step : goal.invariant-loop-step
invariant-loop-step g l =
    let flow = g.P.Lattice.standing l.fn.pattern in
    record {
      ahead : flow.time ≤ l.step;
      went : BothWent flow (carried l.fn.tracer) (l.step - flow.time) (g.P.Lattice.standing l.pattern) (carried l.tracer);
    }
