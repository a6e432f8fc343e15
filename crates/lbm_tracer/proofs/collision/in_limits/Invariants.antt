use Rattle.std.proofs.Common.{◌≡◌, pos, true}
use Rattle.std.specs.Prelude.{int_le}
use Rattle.lbm_space.specs.Sum.{all_below}
use Rattle.lbm_cell.specs.Moments.{populations}
use Rattle.lbm_tracer.proofs.collision.in_limits.Given as goal

abbrev pub invariant-loop-k : goal.invariant-loop-k
invariant-loop-k l = all_below l.k (λ k. int_le (pos 0) (populations l.amounts k)) ≡ true
