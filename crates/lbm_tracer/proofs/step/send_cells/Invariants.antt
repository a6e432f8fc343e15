use Rattle.std.proofs.Common.{◌≡◌, ℕ, ◌<◌, List, ℤ}
use Rattle.lbm_model.specs.State.{FlowState, population}
use Rattle.lbm_tracer.specs.Collision.{IsMomentOf}
use Rattle.lbm_tracer.specs.Carried.{AreFew, amount_in}
use Rattle.lbm_tracer.specs.Rows.{cell_at}
use Rattle.lbm_tracer.specs.FlowRows.{moment_at}
use Rattle.lbm_tracer.specs.Sending.{HaveSent}
use Rattle.lbm_tracer.proofs.step.send_cells.Given as goal

abbrev pub invariant-loop-x : goal.invariant-loop-x
invariant-loop-x g l = record {
  same : l.region ≡ record l.initial.region { slots = l.region.slots };
  few : AreFew l.row.space (amount_in l.row.space l.row.time l.region.slots);
  sent : (s : FlowState) (old : List ℤ) → ((x : ℕ) → x < l.row.space.nx → IsMomentOf l.case.stencil (population s (cell_at l.row x)) (moment_at l.flow x))
      → HaveSent l.case l.rates s l.row.time old l.initial.region.slots (cell_at l.row 0) → HaveSent l.case l.rates s l.row.time old l.region.slots (cell_at l.row l.x);
}
