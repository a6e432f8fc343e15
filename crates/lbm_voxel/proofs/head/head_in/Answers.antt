use Rattle.std.proofs.Common.{map, find, ap}
use Rattle.lbm_voxel.specs.Head.{is_headed, head_in}
use Rattle.lbm_voxel.proofs.head.head_in.Goals as goal

pub loop-head-init : goal.loop-head-init
unfolding head_in
loop-head-init c = ap (find (is_headed (map (λ word. word.now) c.args.words.now))) c.heads-head-items.ensures
