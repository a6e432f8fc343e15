use Rattle.std.proofs.Common.{◌≡◌, ℕ, ◌<◌, length}
use Rattle.lbm_cell.specs.Moments.{populations}
use Rattle.lbm_model.specs.State.{population}
use Rattle.lbm_plain.proofs.plain.pops_at.Given as goal

abbrev pub invariant-loop-i : goal.invariant-loop-i
invariant-loop-i g l = record {
  done : (i : ℕ) → i < l.i → populations l.f.f i ≡ population l.state l.cell i;
  kept : length l.f.f ≡ 27;
}
