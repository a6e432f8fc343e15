use Rattle.std.proofs.Common.{◌≡◌, ℕ, ◌*ℤ◌, ◌<◌, ◌≤◌, ◌^◌, pos, unsigned_abs, length}
use Rattle.lbm_space.specs.Stencil.{weight}
use Rattle.lbm_cell.specs.Moments.{populations}
use Rattle.lbm_cell.specs.Collision.{floor_div}
use Rattle.lbm_tracer.specs.Sets.{stencil_of}
use Rattle.lbm_tracer.proofs.collision.first_amounts.Given as goal

abbrev pub invariant-loop-k : goal.invariant-loop-k
invariant-loop-k l =
    let v = stencil_of l.set in
    record {
      done : (k : ℕ) → 0 < k → k < l.k → populations l.moving k ≡ floor_div (weight v k *ℤ pos l.amount) v.denominator;
      small : (k : ℕ) → 0 < k → k < l.k → unsigned_abs (populations l.moving k) ≤ 2 ^ 31;
      kept : length l.moving ≡ 7;
    }
