use Rattle.std.proofs.Common.{◌≡◌, map, take, drop, length}
use Rattle.lbm_voxel.specs.Text.{words}
use Rattle.lbm_voxel.proofs.head.first_words.Given as goal

abbrev pub invariant-loop-n : goal.invariant-loop-n
invariant-loop-n l = record {
  value : map (λ word. word.now) l.found.items ≡ take l.n (words l.text);
  rest : words l.rest ≡ drop l.n (words l.text);
  count : length l.found.items ≡ l.n;
}
