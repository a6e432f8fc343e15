use Rattle.std.proofs.Common.{ℕ, List, refl, sym, ap, subst, ◌∙◌, arith, vec_capacity, map, Option}
use Rattle.std.specs.List.{remove}
use Rattle.atomic_table.specs.Table.{Me}
use Rattle.lbm_board.specs.declared.record.View.{View}
use Rattle.lbm_board.specs.Entries.{Holds, only}
use Rattle.lbm_board.specs.Steps.{view_after_finish}
use Rattle.lbm_board.specs.Models.{TurnModel}
use Rattle.lbm_board.specs.Fields.{empty_slot}
use Rattle.lbm_board.proofs.Counts.{same_counts, other_counts_not}
use Rattle.lbm_board.proofs.Records.{told_after_finish, still_holds, holds_no_more}
use Rattle.lbm_board.proofs.Turns.{moved, after_finish}
use Rattle.lbm_board.proofs.board.Board.finish.Goals as goal

pub invariant_of-turn : goal.invariant_of-turn
invariant_of-turn g c =
    let t = c.turn.inside in
    let held = c.give_back_held.ensures.held in
    let given = c.give_back_held.ensures.given in
    moved t.seat.table_id c.give_back_held.new.seat.table_id _ c.give_back_held.new.seat.me t.number t.drawn.items t.drawn.items (vec_capacity t.drawn) (vec_capacity t.drawn)
    (remove t.held.items held.1.0) c.give_back_held.new.held.items (vec_capacity t.held) (vec_capacity c.give_back_held.new.held) t.ended
    (sym c.give_back_held.ensures.place.0) (sym (given ∙ ap (λ (ns : List ℕ). (view_after_finish c.self.inside.table.shared.table_id.slots t.seat.me.0 c.args.number c.args.piece c.args.least c.give_back_held.result, map empty_slot ns)) held.1.2)) refl refl (sym held.1.2) (sym held.0)
    (after_finish t.seat.table_id t.seat.me t.number t.drawn.items (vec_capacity t.drawn) t.held.items (vec_capacity t.held) t.ended c.turn.invariant held.1.0 c.args.number c.args.piece c.args.least c.give_back_held.result _ held.1.1)

pub returns-clause-becomes_told : goal.returns-clause-becomes_told
returns-clause-becomes_told g c =
    told_after_finish (only c.turn.inside.seat.me.0.records) (only c.give_back_held.new.seat.me.0.records) c.args.number c.args.piece c.args.least c.give_back_held.result _
    (ap (λ (m : Me (Option g.row.T.Denot) (View g.row.T.Denot)). only m.0.records) c.give_back_held.ensures.given) c.give_back_held.ensures.answer.0 c.give_back_held.ensures.answer.1

pub returns-clause-over : goal.returns-clause-over
returns-clause-over g c =
    let t = c.turn.inside in
    let drawn = c.turn.invariant.drawn_is c.args.number in
    let once = c.turn.invariant.once c.args.number in
    holds_no_more c.args.number c.args.piece c.args.least c.give_back_held.result _ (only t.seat.me.0.records) (only c.give_back_held.new.seat.me.0.records)
    (ap (λ (m : Me (Option g.row.T.Denot) (View g.row.T.Denot)). only m.0.records) c.give_back_held.ensures.given) (omega arith) (same_counts c.args.number)

pub returns-clause-keeps : goal.returns-clause-keeps
returns-clause-keeps g c k other holds =
    let t = c.turn.inside in
    still_holds k (only t.seat.me.0.records) (only c.give_back_held.new.seat.me.0.records) _
    (ap (λ (m : Me (Option g.row.T.Denot) (View g.row.T.Denot)). only m.0.records) c.give_back_held.ensures.given) (other_counts_not c.args.number k (λ same. other (sym same)))
    (subst (λ (h : TurnModel g.row.T.Denot). Holds k h.log) (sym c.turn.view_is) holds)
