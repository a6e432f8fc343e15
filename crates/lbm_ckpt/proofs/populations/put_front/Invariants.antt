use Rattle.std.proofs.Common.{◌≡◌, ◌*◌, length, take}
use Rattle.std.specs.List.{flat_map}
use Rattle.lbm_ckpt.specs.Ckpt.{population_bytes}
use Rattle.lbm_ckpt.proofs.populations.put_front.Given as goal

-- the bytes of those so far stand at the front
abbrev pub invariant-loop-pop : goal.invariant-loop-pop
invariant-loop-pop l = record {
  len : length l.front ≡ 4096;
  at : l.at ≡ 4 * l.pop-index;
  put : take l.at l.front ≡ flat_map population_bytes (take l.pop-index l.pops);
}
