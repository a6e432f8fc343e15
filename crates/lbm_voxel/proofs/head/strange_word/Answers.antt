use Rattle.std.proofs.Common.{map, max, ap, arith}
use Rattle.std.specs.List.{fold}
use Rattle.lbm_voxel.specs.Head.{fitting, strange_word}
use Rattle.lbm_voxel.proofs.head.strange_word.Goals as goal

pub loop-head-init : goal.loop-head-init
unfolding strange_word
loop-head-init c = record {
  value = ap (fold (λ most head. max most (fitting head (map (λ word. word.now) c.args.words.now))) 0) c.heads-head-items.ensures;
  within = omega arith;
}
