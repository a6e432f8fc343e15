use Rattle.std.proofs.Common.{◌≡◌, ℕ, ◌+ℤ◌, ◌<◌, ◌≤◌, ◌^◌, unsigned_abs, length}
use Rattle.lbm_cell.specs.Moments.{populations, density}
use Rattle.lbm_tracer.specs.Sets.{stencil_of}
use Rattle.lbm_tracer.specs.Collision.{relaxation_of, momentum_of}
use Rattle.lbm_tracer.proofs.collision.collide.Given as goal

abbrev pub invariant-loop-k : goal.invariant-loop-k
invariant-loop-k l =
    let v = stencil_of l.set in let g = populations l.amounts in
    record {
      done : (k : ℕ) → 0 < k → k < l.k → populations l.moving k ≡ g k +ℤ relaxation_of v l.rates l.flow.rho (momentum_of l.flow) (density v g) (g k) k;
      small : (k : ℕ) → 0 < k → k < l.k → unsigned_abs (populations l.moving k) ≤ 2 ^ 31;
      kept : length l.moving ≡ 7;
    }
