use Rattle.std.proofs.Common.{◌≡◌, ◌*◌}
use Rattle.lbm_tracer.specs.Carried.{AreFew, amount_in}
use Rattle.lbm_tracer.specs.FlowRows.{HasRoom}
use Rattle.lbm_tracer.specs.Sending.{HaveSent}
use Rattle.lbm_tracer.proofs.step.send_all.Given as goal

abbrev pub invariant-loop-number : goal.invariant-loop-number
invariant-loop-number g l =
    let flow = g.P.Lattice.standing l.flow in
    record {
      same : l.region ≡ record l.initial.region { slots = l.region.slots };
      few : AreFew l.space (amount_in l.space l.time l.region.slots);
      room : HasRoom l.space.nx l.flows;
      sent : HaveSent flow.case l.rates flow.state l.time l.initial.region.slots l.region.slots (l.number * l.space.nx);
    }
