use Rattle.std.proofs.Common.{◌≡◌, ◌*◌, ◌/◌, ◌%◌}
use Rattle.lbm_space.specs.Sum.{list_below}
use Rattle.lbm_model.specs.Flow.{first_in}
use Rattle.lbm_model.proofs.first.first_state.Given as goal

abbrev pub invariant-loop-cell : goal.invariant-loop-cell
invariant-loop-cell g l =
    let q = g.V.VelocitySet.stencil.directions in
    l.pops.items ≡ list_below (l.cell * q) (λ k. first_in l.case (k / q) (k % q))
