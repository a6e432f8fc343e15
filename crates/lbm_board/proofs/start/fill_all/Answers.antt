use Rattle.std.proofs.Common.{◌+◌, [], false, ap, ◌∙◌, arith}
use lib.ListN.{get_elem?}
use Rattle.std.proofs.Common.{Option}
use Rattle.atomic_table.specs.Table.{Me}
use Rattle.lbm_board.specs.declared.record.View.{View}
use Rattle.lbm_board.specs.RunningRule.{opening_view}
use Rattle.lbm_board.proofs.Reversed.{popped}
use Rattle.lbm_board.proofs.start.fill_all.Goals as goal

pub fill-requires-clause-piece : goal.fill-requires-clause-piece
fill-requires-clause-piece g c =
    let h = c.loop-piece.invariant in
    let next = popped c.args.pieces.items c.loop-piece.pieces.items c.pop.new.self.items c.loop-piece.number c.in-Some.piece h.left c.in-Some.ensures.items in
    ap (λ (m : Me (Option g.row.T.Denot) (View g.row.T.Denot)). get_elem? m.0.given c.loop-piece.number) h.seat ∙ next.0

pub loop-piece-preserved : goal.loop-piece-preserved
loop-piece-preserved g c =
    let h = c.loop-piece.invariant in
    let next = popped c.args.pieces.items c.loop-piece.pieces.items c.pop.new.self.items c.loop-piece.number c.in-Some.piece h.left c.in-Some.ensures.items in
    let count = next.2 in
    record {
      table = (c.fill.ensures.table.0 ∙ h.table.0, c.fill.ensures.table.1 ∙ h.table.1);
      seat = c.fill.ensures.seat ∙ ap (λ (m : Me (Option g.row.T.Denot) (View g.row.T.Denot)). (opening_view m.0.leave m.0.given (c.loop-piece.number + 1) false, [])) h.seat;
      left = next.1;
      count = omega arith;
    }
