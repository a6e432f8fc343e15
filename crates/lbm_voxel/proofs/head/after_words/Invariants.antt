use Rattle.std.proofs.Common.{◌≡◌, drop}
use Rattle.lbm_voxel.specs.Text.{words}
use Rattle.lbm_voxel.proofs.head.after_words.Given as goal

abbrev pub invariant-loop-n : goal.invariant-loop-n
invariant-loop-n l = words l.rest ≡ drop l.n (words l.text)
