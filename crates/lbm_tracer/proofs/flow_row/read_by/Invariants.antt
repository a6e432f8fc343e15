use Rattle.std.proofs.Common.{ℕ, ◌+◌, ◌*◌, ◌<◌}
use Rattle.lbm_model.specs.State.{population}
use Rattle.lbm_tracer.specs.FlowRows.{HasRoom, moment_at}
use Rattle.lbm_tracer.proofs.FlowRows.{IsSummed}
use Rattle.lbm_tracer.proofs.flow_row.read_by.Given as goal

abbrev pub invariant-loop-i : goal.invariant-loop-i
invariant-loop-i g l =
    let now = g.P.Lattice.standing l.flow in
    record {
      room : HasRoom now.case.torus.nx l.sums;
      done : (x : ℕ) → x < now.case.torus.nx → IsSummed g.V.VelocitySet.stencil l.i (population now.state (l.row * now.case.torus.nx + x)) (moment_at l.sums x);
    }
