use Rattle.std.proofs.Common.{◌≡◌, ℕ, ◌<◌, length, slice_index}
use Rattle.lbm_model.specs.Layout.{array_of, aa_layout}
use Rattle.lbm_rows.specs.Lending.{lent_number}
use Rattle.lbm_rows.proofs.reading.numbers_of.Given as goal

abbrev pub invariant-loop-i : goal.invariant-loop-i
invariant-loop-i g l = record {
  long : length l.numbers ≡ 27;
  numbers_are : (j : ℕ) → j < l.i → slice_index l.numbers j ≡ lent_number l.case l.time (array_of g.V.VelocitySet.stencil (aa_layout l.time) j) l.row;
}
