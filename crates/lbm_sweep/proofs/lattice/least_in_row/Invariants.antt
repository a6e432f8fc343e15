use Rattle.std.specs.Prelude.{None}
use Rattle.lbm_model.specs.State.{population}
use Rattle.lbm_model.specs.Flow.{is_sound}
use Rattle.lbm_model.specs.Layout.{state_in}
use Rattle.lbm_walk.specs.First.{IsFirst}
use Rattle.lbm_sweep.specs.CellRows.{cell_at}
use Rattle.lbm_sweep.proofs.lattice.least_in_row.Given as goal

abbrev pub invariant-loop-x : goal.invariant-loop-x
invariant-loop-x g l = IsFirst (λ y. is_sound l.row.case.now y (population (state_in l.row.case.now l.row.layout l.region.slots) y)) (cell_at l.row 0) (cell_at l.row l.x) None
