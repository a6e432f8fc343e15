use Rattle.std.proofs.Common.{◌≡◌, ℕ, ◌<◌, Some, length, slice_get, take}
use Rattle.lbm_board.specs.Fields.{times}
use Rattle.lbm_board.proofs.claims.write_at.Given as goal

-- the value stands at the places passed, and nothing else has changed
abbrev pub invariant-loop-place : goal.invariant-loop-place
invariant-loop-place g l = record {
  long : length l.list.items ≡ length l.initial.list.items;
  written : (k : ℕ) → 0 < times k (take l.place-index l.places) → slice_get l.list.items k ≡ Some l.value;
  kept : (k : ℕ) → times k (take l.place-index l.places) ≡ 0 → slice_get l.list.items k ≡ slice_get l.initial.list.items k;
}
