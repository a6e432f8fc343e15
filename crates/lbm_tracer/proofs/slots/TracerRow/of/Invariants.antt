use Rattle.std.proofs.Common.{◌≡◌, ℕ, ◌<◌, length, slice_index}
use Rattle.lbm_tracer.specs.Rows.{IsAlong}
use Rattle.lbm_tracer.proofs.slots.TracerRow.of.Given as goal

abbrev pub invariant-loop-k : goal.invariant-loop-k
invariant-loop-k l = record {
  arrays : length l.arrays ≡ 7;
  firsts : length l.firsts ≡ 7;
  aheads : length l.aheads ≡ 7;
  along : (j : ℕ) → j < l.k → IsAlong l.space l.time l.number j (slice_index l.arrays j) (slice_index l.firsts j) (slice_index l.aheads j);
}
