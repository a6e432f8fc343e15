use Rattle.std.proofs.Common.{◌*◌}
use Rattle.std.specs.Prelude.{None}
use Rattle.lbm_model.specs.State.{population}
use Rattle.lbm_model.specs.Flow.{is_sound}
use Rattle.lbm_model.specs.Layout.{state_in}
use Rattle.lbm_walk.specs.First.{IsFirst}
use Rattle.lbm_sweep.proofs.lattice.least_out_of_limits.Given as goal

abbrev pub invariant-loop-number : goal.invariant-loop-number
invariant-loop-number g l = IsFirst (λ y. is_sound l.case y (population (state_in l.case l.layout l.region.slots) y)) 0 (l.number * l.case.torus.nx) None
