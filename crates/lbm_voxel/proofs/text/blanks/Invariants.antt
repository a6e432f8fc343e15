use Rattle.std.proofs.Common.{◌≡◌, ℕ, ◌<◌, false, not, get_or}
use Rattle.lbm_voxel.specs.Text.{is_blank}
use Rattle.lbm_voxel.proofs.text.blanks.Given as goal

abbrev pub invariant-loop-n : goal.invariant-loop-n
invariant-loop-n l = (k : ℕ) → k < l.n → not (is_blank (get_or l.text k 0)) ≡ false
