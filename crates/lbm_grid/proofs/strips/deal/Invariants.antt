use Rattle.std.proofs.Common.{◌≡◌, ℕ, ◌<◌, ◌≤◌, length, slice_index}
use Rattle.lbm_space.specs.Torus.{rows}
use Rattle.lbm_space.specs.Padded.{row_start}
use Rattle.lbm_space.specs.Cuttings.{first_row}
use Rattle.lbm_grid.specs.Strips.{rooms_of}
use Rattle.lbm_grid.proofs.strips.deal.Given as goal

abbrev pub invariant-loop-j : goal.invariant-loop-j
invariant-loop-j g l = record {
  count : length l.begins ≡ rows l.space;
  begin : (i : ℕ) → i < l.j → slice_index l.begins (first_row l.cut i) ≡ rooms_of l.space g.V.VelocitySet.stencil l.cut i;
  all : l.width ≡ rooms_of l.space g.V.VelocitySet.stencil l.cut l.j;
  few : l.width ≤ row_start l.space (first_row l.cut l.j);
}
