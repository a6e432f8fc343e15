use Rattle.std.proofs.Common.{◌≡◌, ℕ, ◌+◌, ◌<◌, ◌≤◌, pos, length, get_or, FitsSigned}
use Rattle.std.specs.Int.{w32}
use Rattle.lbm_cell.specs.Moments.{populations}
use Rattle.lbm_answer.proofs.measures.populations_of.Given as goal

abbrev pub invariant-loop-i : goal.invariant-loop-i
invariant-loop-i g l = record {
  done : (k : ℕ) → k < l.i → populations l.f.f k ≡ get_or l.pops (l.first + k) (pos 0);
  kept : length l.f.f ≡ 27;
  fits : (k : ℕ) → FitsSigned w32 (populations l.f.f k);
  zeros : (k : ℕ) → l.i ≤ k → populations l.f.f k ≡ pos 0;
}
