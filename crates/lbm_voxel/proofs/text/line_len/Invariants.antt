use Rattle.std.proofs.Common.{◌≡◌, ℕ, ◌<◌, false, get_or}
use Rattle.lbm_voxel.specs.Text.{is_line_feed}
use Rattle.lbm_voxel.proofs.text.line_len.Given as goal

abbrev pub invariant-loop-n : goal.invariant-loop-n
invariant-loop-n l = (k : ℕ) → k < l.n → is_line_feed (get_or l.text k 0) ≡ false
