use Rattle.std.proofs.Common.{◌≡◌, ℕ, ◌+◌, ◌-◌, ◌*◌, ◌<◌, ◌≤◌, true, ℤ, [], length, slice_index_or}
use Rattle.lbm_rows.specs.TileRows.{takes, sent_by, AreTakenBy}
use Rattle.lbm_rows.proofs.rows.collide_rows.Given as goal

abbrev pub invariant-loop-n : goal.invariant-loop-n
invariant-loop-n g l = record {
  -- the rows so far are in limits, and have sent
  passed : (f : ℕ → ℕ → ℤ) → AreTakenBy g.V.VelocitySet.stencil.directions l.fn.kept l.ways l.rows l.width f → (x : ℕ) → l.rows.0 * l.width ≤ x → x < (l.rows.0 + l.n) * l.width → g.K.Kernel.sound l.kernel x (f x) ≡ true;
  sent : (f : ℕ → ℕ → ℤ) → AreTakenBy g.V.VelocitySet.stencil.directions l.fn.kept l.ways l.rows l.width f → (x i : ℕ) → l.rows.0 * l.width ≤ x → x < (l.rows.0 + l.n) * l.width → i < g.V.VelocitySet.stencil.directions → sent_by l.kept l.ways l.rows.0 l.width x i ≡ g.K.Kernel.post l.kernel x (f x) i;
  -- the others are as they were
  left : (i m : ℕ) → i < g.V.VelocitySet.stencil.directions → l.n ≤ m → m < l.rows.1 - l.rows.0 → slice_index_or l.kept (takes l.ways m i) [] ≡ slice_index_or l.fn.kept (takes l.ways m i) [];
  count : length l.kept ≡ length l.fn.kept;
  lengths : (j : ℕ) → length (slice_index_or l.kept j []) ≡ length (slice_index_or l.fn.kept j []);
}
