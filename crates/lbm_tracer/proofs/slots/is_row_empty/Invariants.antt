use Rattle.std.proofs.Common.{◌≡◌, ℕ, ◌<◌, pos}
use Rattle.lbm_tracer.specs.Carried.{amount_in}
use Rattle.lbm_tracer.specs.Rows.{cell_at}
use Rattle.lbm_tracer.proofs.slots.is_row_empty.Given as goal

abbrev pub invariant-loop-k : goal.invariant-loop-k
invariant-loop-k g l = record {
  none : (k : ℕ) → k < l.k → (x : ℕ) → x < l.row.width → amount_in l.row.space l.row.time l.region.slots (cell_at l.row x) k ≡ pos 0;
}
