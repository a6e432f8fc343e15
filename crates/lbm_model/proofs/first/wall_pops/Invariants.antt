use Rattle.std.proofs.Common.{◌≡◌, ◌<◌, ◌^◌, ℕ, unsigned_abs, length}
use Rattle.lbm_cell.specs.Moments.{populations}
use Rattle.lbm_model.specs.Flow.{wall_first}
use Rattle.lbm_model.proofs.first.wall_pops.Given as goal

abbrev pub invariant-loop-i : goal.invariant-loop-i
invariant-loop-i g l = record {
  done : (k : ℕ) → k < l.i → populations l.pops.f k ≡ wall_first l.case l.cell k;
  small : (k : ℕ) → unsigned_abs (populations l.pops.f k) < 2 ^ 28;
  kept : length l.pops.f ≡ 27;
}
