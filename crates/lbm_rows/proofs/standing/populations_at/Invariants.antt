use Rattle.std.proofs.Common.{◌≡◌, ℕ, ◌<◌, length}
use Rattle.lbm_cell.specs.Moments.{populations}
use Rattle.lbm_rows.specs.Kept.{population_kept}
use Rattle.lbm_rows.proofs.standing.populations_at.Given as goal

abbrev pub invariant-loop-i : goal.invariant-loop-i
invariant-loop-i g l = record {
  done : (i : ℕ) → i < l.i → populations l.f.f i ≡ population_kept l.case l.t l.kept l.cell i;
  kept : length l.f.f ≡ 27;
}
