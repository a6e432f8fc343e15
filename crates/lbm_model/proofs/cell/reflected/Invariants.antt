use Rattle.std.proofs.Common.{◌≡◌, ◌<◌, ◌≤◌, ℕ, pos, ◌+ℤ◌, length}
use Rattle.lbm_cell.specs.Moments.{populations}
use Rattle.lbm_cell.specs.Collision.{reflection}
use Rattle.lbm_model.specs.Case.{gain}
use Rattle.lbm_model.proofs.cell.reflected.Given as goal

abbrev pub invariant-loop-i : goal.invariant-loop-i
invariant-loop-i g l =
    let v = g.V.VelocitySet.stencil in
    record {
      done : (k : ℕ) → k < l.i → populations l.sent.f k ≡ reflection v (populations l.f.f) k +ℤ gain l.case l.cell k;
      left : (k : ℕ) → l.i ≤ k → k < v.directions → populations l.sent.f k ≡ reflection v (populations l.f.f) k;
      zeros : (k : ℕ) → v.directions ≤ k → populations l.sent.f k ≡ pos 0;
      kept : length l.sent.f ≡ 27;
    }
