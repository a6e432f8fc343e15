use Rattle.std.proofs.Common.{◌≡◌, ℕ, ◌<◌, length, slice_index}
use Rattle.lbm_model.specs.Layout.{IsRound}
use Rattle.lbm_sweep.proofs.cell_row.CellRow.of.Given as goal

abbrev pub invariant-loop-i : goal.invariant-loop-i
invariant-loop-i g l = record {
  firsts : length l.firsts ≡ 27;
  aheads : length l.aheads ≡ 27;
  places : (j : ℕ) → j < l.i → IsRound l.case l.layout l.number j (slice_index l.firsts j, slice_index l.aheads j);
}
