use Rattle.std.proofs.Common.{refl, sym, ap, subst, vec_capacity, Option}
use Rattle.atomic_table.specs.Table.{Me}
use Rattle.lbm_board.specs.declared.record.View.{View}
use Rattle.lbm_board.specs.Entries.{Holds, only}
use Rattle.lbm_board.specs.Models.{TurnModel}
use Rattle.lbm_board.proofs.Turns.{moved, after_look}
use Rattle.lbm_board.proofs.Records.{told_after_look, still_holds}
use Rattle.lbm_board.proofs.board.Board.look.Goals as goal

pub invariant_of-turn : goal.invariant_of-turn
invariant_of-turn g c =
    let t = c.turn.inside in
    moved t.seat.table_id c.read_least.new.seat.table_id _ c.read_least.new.seat.me t.number t.drawn.items t.drawn.items (vec_capacity t.drawn) (vec_capacity t.drawn) t.held.items t.held.items (vec_capacity t.held) (vec_capacity t.held) t.ended
    (sym c.read_least.ensures.place.0) (sym c.read_least.ensures.seen) refl refl refl refl
    (after_look t.seat.table_id t.seat.me t.number t.drawn.items (vec_capacity t.drawn) t.held.items (vec_capacity t.held) t.ended c.turn.invariant _ _)

pub returns-clause-becomes_told : goal.returns-clause-becomes_told
returns-clause-becomes_told g c =
    told_after_look (only c.turn.inside.seat.me.0.records) (only c.read_least.new.seat.me.0.records) c.read_least.result _
    (ap (λ (m : Me (Option g.row.T.Denot) (View g.row.T.Denot)). only m.0.records) c.read_least.ensures.seen) c.read_least.ensures.answer

pub returns-clause-keeps : goal.returns-clause-keeps
returns-clause-keeps g c k holds =
    still_holds k (only c.turn.inside.seat.me.0.records) (only c.read_least.new.seat.me.0.records) _
    (ap (λ (m : Me (Option g.row.T.Denot) (View g.row.T.Denot)). only m.0.records) c.read_least.ensures.seen) refl
    (subst (λ (t : TurnModel g.row.T.Denot). Holds k t.log) (sym c.turn.view_is) holds)
