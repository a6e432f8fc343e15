use Rattle.std.proofs.Common.{◌≡◌, ℕ, ◌<◌, false, get_or}
use Rattle.lbm_voxel.specs.Head.{is_point_data}
use Rattle.lbm_voxel.specs.declared.head.WordKind.TheVariants.{Dataset}
use Rattle.lbm_voxel.proofs.head.place_of_point_data.Given as goal

abbrev pub invariant-loop-n : goal.invariant-loop-n
invariant-loop-n l = (k : ℕ) → k < l.n → is_point_data (get_or l.head k Dataset) ≡ false
