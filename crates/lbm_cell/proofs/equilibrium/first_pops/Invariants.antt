use Rattle.std.proofs.Common.{◌≡◌, ℕ, ◌<◌, ◌≤◌, pos, length}
use Rattle.lbm_cell.specs.Moments.{populations}
use Rattle.lbm_cell.specs.Collision.{equilibrium}
use Rattle.lbm_cell.proofs.equilibrium.first_pops.Given as goal

abbrev pub invariant-loop-i : goal.invariant-loop-i
invariant-loop-i g l = record {
  done : (k : ℕ) → 0 < k → k < l.i → populations l.moving.f k ≡ equilibrium g.V.VelocitySet.stencil l.rho l.j k;
  zeros : (k : ℕ) → l.i ≤ k → populations l.moving.f k ≡ pos 0;
  kept : length l.moving.f ≡ 27;
}
