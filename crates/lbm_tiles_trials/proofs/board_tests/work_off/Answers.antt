use Rattle.std.proofs.Common.{sym, ◌∙◌, arith}
use Rattle.lbm_board.proofs.Ends.{claim_leaves_fewer, finish_leaves_as_many}
use Rattle.lbm_tiles_trials.proofs.board_tests.work_off.Goals as goal

pub loop-number-smaller : goal.loop-number-smaller
loop-number-smaller g c =
    let claim = c.in-Some.ensures in
    let fewer = claim_leaves_fewer c.args.board.now c.loop-number.turn c.claim.new.turn c.in-Some.number c.in-Some.piece c.loop-number.invariant.1 claim.board.1 claim.drawn in
    let same = finish_leaves_as_many c.claim.new.turn c.finish.new.turn c.in-Some.number c.in-Some.piece _ c.finish.result _ (c.finish.ensures.board.1 ∙ sym claim.board.1) c.finish.ensures.record in
    omega arith
