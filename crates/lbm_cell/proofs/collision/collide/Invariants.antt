use Rattle.std.proofs.Common.{◌≡◌, ℕ, ◌<◌, ◌≤◌, pos, ◌+ℤ◌, length}
use Rattle.lbm_cell.specs.Moments.{populations}
use Rattle.lbm_cell.specs.Collision.{relaxation, push}
use Rattle.lbm_cell.proofs.collision.collide.Given as goal

abbrev pub invariant-loop-i : goal.invariant-loop-i
invariant-loop-i g l =
    let v = g.V.VelocitySet.stencil in
    let f = populations l.f.f in
    record {
      done : (k : ℕ) → 0 < k → k < l.i → populations l.moving.f k ≡ f k +ℤ relaxation v l.r f k +ℤ push v l.force k;
      zeros : (k : ℕ) → l.i ≤ k → populations l.moving.f k ≡ pos 0;
      kept : length l.moving.f ≡ 27;
    }
