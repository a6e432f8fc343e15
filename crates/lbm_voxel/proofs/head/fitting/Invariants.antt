use Rattle.std.proofs.Common.{◌≡◌, ◌+◌, map, drop}
use Rattle.lbm_voxel.specs.Head.{fitting}
use Rattle.lbm_voxel.proofs.head.fitting.Given as goal

abbrev pub invariant-loop-n : goal.invariant-loop-n
invariant-loop-n l = l.n + fitting (drop l.n l.head) (drop l.n (map (λ word. word.now) l.words)) ≡ fitting l.head (map (λ word. word.now) l.words)
