use Rattle.std.proofs.Common.{refl}
use Rattle.lbm_lanes.proofs.Masks.{apart-from_test}
use Rattle.lbm_parts_trials.proofs.lane_tests.two_rates_act_in_space_and_the_least_lane_out_of_limits_is_told.Goals as goal

pub collide_block-answer-requires-clause-apart : goal.collide_block-answer-requires-clause-apart
collide_block-answer-requires-clause-apart g c = apart-from_test 182 8 refl
