use Rattle.std.proofs.Common.{◌≡◌, ℕ, ◌<◌, ◌≤◌, pos, length}
use Rattle.lbm_cell.specs.Moments.{populations}
use Rattle.lbm_cell.specs.Collision.{reflection}
use Rattle.lbm_cell.proofs.reflection.bounce.Given as goal

abbrev pub invariant-loop-i : goal.invariant-loop-i
invariant-loop-i g l = record {
  done : (k : ℕ) → k < l.i → populations l.post.f k ≡ reflection g.V.VelocitySet.stencil (populations l.f.f) k;
  kept : length l.post.f ≡ 27;
  zeros : (k : ℕ) → l.i ≤ k → populations l.post.f k ≡ pos 0;
}
