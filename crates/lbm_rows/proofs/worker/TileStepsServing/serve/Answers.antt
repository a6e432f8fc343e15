use Rattle.std.proofs.Common.{sym, ◌∙◌, arith}
use Rattle.lbm_board.proofs.Ends.{claim_leaves_fewer, finish_leaves_as_many}
use Rattle.lbm_rows.proofs.Served.{served_more, look_leaves_as_many, none_more, ended_now}
use Rattle.lbm_rows.proofs.worker.TileStepsServing.serve.Goals as goal

pub serve_tile-report-requires-clause-ready : goal.serve_tile-report-requires-clause-ready
serve_tile-report-requires-clause-ready g c = c.requires.1.tiles c.in-Some.number c.in-Some.tile c.in-Some.ensures.drawn.piece_is

pub tiles-smaller : goal.tiles-smaller
tiles-smaller g c =
    let drawn = claim_leaves_fewer c.args.board.now c.tiles.turn c.claim.new.turn c.in-Some.number c.in-Some.tile c.tiles.invariant.of_board.1 c.in-Some.ensures.board.1 c.in-Some.ensures.drawn in
    let looked = look_leaves_as_many c.claim.new.turn c.look-told.new.turn _ _ (c.look-told.ensures.board.1 ∙ sym c.in-Some.ensures.board.1) c.look-told.ensures.record in
    let finished = finish_leaves_as_many c.look-told.new.turn c.finish.new.turn _ _ _ _ _ (c.finish.ensures.board.1 ∙ sym c.look-told.ensures.board.1) c.finish.ensures.record in
    omega arith

pub tiles-preserved : goal.tiles-preserved
tiles-preserved g c = record {
  of_board = c.finish.ensures.board;
  served = served_more c.args.case.now c.args.self.now.time c.args.board.now.given c.args.turn.now.log c.tiles.turn.log c.claim.new.turn.log c.look-told.new.turn.log c.finish.new.turn.log
      c.in-Some.number _ c.look-told.result _ c.serve_tile-report.result c.finish.result _ c.in-Some.tile c.serve_tile-report.new.tile c.tiles.invariant.served
      c.in-Some.ensures.drawn.log_is c.look-told.ensures.record c.finish.ensures.record c.in-Some.ensures.drawn.piece_is c.look-told.ensures.becomes_told c.serve_tile-report.ensures c.finish.ensures.over;
}

pub returns : goal.returns
returns g c = record {
  of_board = c.in_default.ensures.board;
  served = none_more c.args.case.now c.args.self.now.time c.args.board.now.given c.args.turn.now.log c.tiles.turn c.claim.new.turn c.tiles.invariant.served c.in_default.ensures.none;
  ended = ended_now c.tiles.turn c.claim.new.turn c.in_default.ensures.none;
}

pub finish-requires-clause-held : goal.finish-requires-clause-held
finish-requires-clause-held g c = c.look-told.ensures.keeps c.in-Some.number c.in-Some.ensures.holds
