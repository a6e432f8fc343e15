use Rattle.std.proofs.Common.{refl}
use Rattle.lbm_lanes.proofs.Masks.{apart-from_test}
use Rattle.lbm_parts_trials.proofs.lane_tests.each_lane_follows_its_own_rule.Goals as goal

pub collide_block-answer-requires-clause-apart : goal.collide_block-answer-requires-clause-apart
collide_block-answer-requires-clause-apart g c = apart-from_test 133 10 refl
