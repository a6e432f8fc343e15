use Rattle.std.proofs.Common.{◌≡◌, ◌+◌, ◌<◌, ℕ, false, length, slice_index_or}
use Rattle.lbm_model.specs.Case.{is_moving}
use Rattle.lbm_rule.proofs.gains.moving_lanes.Given as goal

abbrev pub invariant-loop-j : goal.invariant-loop-j
invariant-loop-j l = record {
  told : (k : ℕ) → k < l.j → slice_index_or l.moving k false ≡ is_moving l.case (l.cell + k);
  eight : length l.moving ≡ 8;
}
