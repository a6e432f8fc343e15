use Rattle.std.proofs.Common.{◌≡◌, ℕ, ◌<◌, length}
use Rattle.lbm_cell.specs.Moments.{populations}
use Rattle.lbm_tracer.specs.Carried.{amount_in}
use Rattle.lbm_tracer.specs.Rows.{cell_at}
use Rattle.lbm_tracer.proofs.slots.amounts_in_row.Given as goal

abbrev pub invariant-loop-k : goal.invariant-loop-k
invariant-loop-k g l = record {
  done : (k : ℕ) → k < l.k → populations l.amounts k ≡ amount_in l.row.space l.row.time l.region.slots (cell_at l.row l.x) k;
  kept : length l.amounts ≡ 7;
}
