use Rattle.std.proofs.Common.{◌≡◌, ℕ, ◌<◌, length}
use Rattle.lbm_grid.specs.Near.{reading_at, reading_of}
use Rattle.lbm_grid.proofs.near.Near.readings.Given as goal

abbrev pub invariant-loop-k : goal.invariant-loop-k
invariant-loop-k g l = record {
  long : length l.readings ≡ 27;
  read : (i : ℕ) → i < l.k → reading_at l.readings i ≡ reading_of l.self.space g.V.VelocitySet.stencil g.W.Way.RISES l.begins l.self.width l.rows i;
}
