use Rattle.std.proofs.Common.{◌≡◌, ◌*◌, take}
use Rattle.lbm_rows.specs.Kept.{state_kept}
use Rattle.lbm_rows.proofs.reading.read_state.Given as goal

abbrev pub invariant-loop-number : goal.invariant-loop-number
invariant-loop-number g l = l.pops.items ≡ take (l.number * l.case.torus.nx * g.V.VelocitySet.stencil.directions) (state_kept l.case l.t l.kept).numbers
