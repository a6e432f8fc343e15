use Rattle.std.proofs.Common.{ap, ◌∙◌, ◌<◌, length, arith, Option}
use Rattle.atomic_table.specs.Table.{Me, turned}
use Rattle.lbm_board.specs.declared.record.View.{View}
use Rattle.lbm_board.proofs.Rotated.{rotated_more}
use Rattle.lbm_board.proofs.holding.rotate_slots.Goals as goal

pub loop-preserved : goal.loop-preserved
loop-preserved g c =
    let h = c.loop.invariant in
    let inside : c.loop.counter < length c.args.seat.now.me.1 = omega arith in
    record {
      seat = (c.turn.ensures.0 ∙ h.seat.0, c.turn.ensures.1 ∙ h.seat.1);
      slots = c.turn.ensures.2 ∙ ap (λ (m : Me (Option g.row.T.Denot) (View g.row.T.Denot)). (m.0, turned m.1)) h.slots
          ∙ ap (λ l. (c.args.seat.now.me.0, l)) (rotated_more c.args.seat.now.me.1 c.loop.counter inside);
    }
