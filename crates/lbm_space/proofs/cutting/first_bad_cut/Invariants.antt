use Rattle.std.proofs.Common.{◌≡◌, ℕ, ◌<◌}
use Rattle.lbm_space.specs.Cuttings.{row_before, IsGoodCut}
use Rattle.lbm_space.proofs.cutting.first_bad_cut.Given as goal

abbrev pub invariant-loop-k : goal.invariant-loop-k
invariant-loop-k l = record {
  before : l.before ≡ row_before l.entries l.k;
  good : (j : ℕ) → j < l.k → IsGoodCut l.rows l.entries j;
}
