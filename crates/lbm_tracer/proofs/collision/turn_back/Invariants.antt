use Rattle.std.proofs.Common.{◌≡◌, ℕ, ◌<◌, length}
use Rattle.lbm_cell.specs.Moments.{populations}
use Rattle.lbm_cell.specs.Collision.{reflection}
use Rattle.lbm_tracer.specs.Sets.{stencil_of}
use Rattle.lbm_tracer.proofs.collision.turn_back.Given as goal

abbrev pub invariant-loop-k : goal.invariant-loop-k
invariant-loop-k l = record {
  done : (k : ℕ) → k < l.k → populations l.turned k ≡ reflection (stencil_of l.set) (populations l.amounts) k;
  kept : length l.turned ≡ 7;
}
