use Rattle.std.proofs.Common.{◌≡◌, ℕ, ◌<◌, length}
use Rattle.lbm_cell.specs.Moments.{populations}
use Rattle.lbm_cell.specs.Collision.{departure}
use Rattle.lbm_cell.proofs.collision.departures.Given as goal

abbrev pub invariant-loop-i : goal.invariant-loop-i
invariant-loop-i g l = record {
  done : (k : ℕ) → 0 < k → k < l.i → populations l.all k ≡ departure g.V.VelocitySet.stencil (populations l.f.f) k;
  kept : length l.all ≡ 27;
}
