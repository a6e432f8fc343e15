use Rattle.std.proofs.Common.{◌≤◌, ◌-◌}
use Rattle.lbm_flow.specs.Running.{Went}
use Rattle.lbm_flow.proofs.run.run_pattern.Given as goal

abbrev pub invariant-loop-step : goal.invariant-loop-step
invariant-loop-step g l =
    let old = g.P.Lattice.standing l.fn.pattern in
    record {
      ahead : old.time ≤ l.step;
      went : Went old (l.step - old.time) (g.P.Lattice.standing l.pattern);
    }
