use Rattle.lbm_board.specs.Models.{IsTurnOf}
use Rattle.lbm_board.proofs.Ends.{left_to_draw}
use Rattle.lbm_rows.specs.Serving.{HasServed}
use Rattle.lbm_rows.proofs.worker.TileStepsServing.serve.Given as goal

abbrev pub invariant-tiles : goal.invariant-tiles
invariant-tiles g l = record {
  of_board : IsTurnOf l.board l.turn;
  served : HasServed l.case l.fn.self.time l.board.given l.fn.turn.log l.turn.log;
}

abbrev pub decreases-tiles : goal.decreases-tiles
decreases-tiles g l = left_to_draw l.turn
