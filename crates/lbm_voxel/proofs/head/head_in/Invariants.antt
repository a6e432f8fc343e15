use Rattle.std.proofs.Common.{◌≡◌, map, drop, find}
use Rattle.lbm_voxel.specs.Head.{is_headed, head_in}
use Rattle.lbm_voxel.proofs.head.head_in.Given as goal

abbrev pub invariant-loop-head : goal.invariant-loop-head
invariant-loop-head l = find (is_headed (map (λ word. word.now) l.words)) (map (λ head. head.now) (drop l.head-index l.head-items)) ≡ head_in (map (λ word. word.now) l.words)
