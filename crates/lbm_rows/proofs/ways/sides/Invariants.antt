use Rattle.std.proofs.Common.{◌≡◌, ℕ, ◌*◌, ◌<◌, length, pos, ◌+ℤ◌, unsigned_abs, slice_index}
use Rattle.std.specs.Prelude.{if◌then◌else◌}
use Rattle.lbm_space.specs.Stencil.{opposite, part, velocity}
use Rattle.lbm_rows.proofs.ways.sides.Given as goal

abbrev pub invariant-loop-i : goal.invariant-loop-i
invariant-loop-i g l = record {
  long : length l.rows ≡ 27;
  wide : length l.slots ≡ 27;
  rows_are : (j : ℕ) → j < l.i → slice_index l.rows j ≡ (if l.turned then opposite g.V.VelocitySet.stencil j else j) * l.height;
  slots_are : (j : ℕ) → j < l.i → slice_index l.slots j ≡ (if l.even then 1 else unsigned_abs (pos 1 +ℤ part (velocity g.V.VelocitySet.stencil (if l.turned then opposite g.V.VelocitySet.stencil j else j)) 0));
}
