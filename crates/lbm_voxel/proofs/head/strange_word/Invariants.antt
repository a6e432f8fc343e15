use Rattle.std.proofs.Common.{◌≡◌, ◌≤◌, map, drop, length, max}
use Rattle.std.specs.List.{fold}
use Rattle.lbm_voxel.specs.Head.{fitting, strange_word}
use Rattle.lbm_voxel.proofs.head.strange_word.Given as goal

abbrev pub invariant-loop-head : goal.invariant-loop-head
invariant-loop-head l = record {
  value : fold (λ most head. max most (fitting head (map (λ word. word.now) l.words))) l.most (map (λ head. head.now) (drop l.head-index l.head-items)) ≡ strange_word (map (λ word. word.now) l.words);
  within : l.most ≤ length l.words;
}
