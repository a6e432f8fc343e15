use Rattle.std.proofs.Common.{◌≡◌, ◌*◌, take}
use Rattle.lbm_model.specs.Layout.{state_in}
use Rattle.lbm_sweep.proofs.lattice.read_state.Given as goal

abbrev pub invariant-loop-number : goal.invariant-loop-number
invariant-loop-number g l = l.pops.items ≡ take (l.number * l.case.torus.nx * g.V.VelocitySet.stencil.directions) (state_in l.case l.layout l.region.slots).numbers
