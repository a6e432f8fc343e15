use Rattle.lbm_board.specs.Models.{IsTurnOf}
use Rattle.lbm_board.proofs.Ends.{left_to_draw}
use Rattle.lbm_tiles_trials.proofs.board_tests.work_off.Given as goal

abbrev pub invariant-loop-number : goal.invariant-loop-number
invariant-loop-number g l = IsTurnOf l.board l.turn

abbrev pub decreases-loop-number : goal.decreases-loop-number
decreases-loop-number g l = left_to_draw l.turn
