use Rattle.std.proofs.Common.{◌≡◌, ℕ, ◌<◌, pos}
use Rattle.lbm_cell.specs.Moments.{populations}
use Rattle.lbm_tracer.proofs.collision.is_empty.Given as goal

abbrev pub invariant-loop-k : goal.invariant-loop-k
invariant-loop-k l = record { empty : (k : ℕ) → k < l.k → populations l.amounts k ≡ pos 0 }
