use Rattle.std.proofs.Common.{true, refl, sym, ap, subst, ◌∙◌, arith, vec_capacity, Option}
use Rattle.atomic_table.specs.Table.{Me}
use Rattle.atomic_table.specs.Seated.{TableId}
use Rattle.lbm_board.specs.declared.record.Entry.TheVariants.{Draw, NoneLeft}
use Rattle.lbm_board.specs.declared.record.Record.{Record}
use Rattle.lbm_board.specs.declared.record.View.{View}
use Rattle.lbm_board.specs.Entries.{reported, with_entry, Holds, only}
use Rattle.lbm_board.specs.Models.{BoardModel, TurnModel}
use Rattle.lbm_board.proofs.Lists.{slice_from_place}
use Rattle.lbm_board.proofs.Counts.{same_counts}
use Rattle.lbm_board.proofs.Records.{still_holds, holds_drawn}
use Rattle.lbm_board.proofs.Turns.{moved, room_to_draw, after_draw, after_none_left}
use Rattle.lbm_board.proofs.board.Board.claim.Goals as goal

pub invariant_of-turn : goal.invariant_of-turn
invariant_of-turn g c =
    let t = c.turn.inside in
    let told = rw c.in_default.is at c.draw.ensures.piece in
    moved t.seat.table_id c.draw.new.seat.table_id _ c.draw.new.seat.me t.number t.drawn.items t.drawn.items (vec_capacity t.drawn) (vec_capacity t.drawn) t.held.items t.held.items (vec_capacity t.held) (vec_capacity t.held) true
    (sym c.draw.ensures.place.0) (sym told) refl refl refl refl
    (after_none_left t.seat.table_id t.seat.me t.number t.drawn.items (vec_capacity t.drawn) t.held.items (vec_capacity t.held) t.ended c.turn.invariant)

pub returns-in_default-clause-keeps : goal.returns-in_default-clause-keeps
returns-in_default-clause-keeps g c k holds =
    let told = rw c.in_default.is at c.draw.ensures.piece in
    still_holds k (only c.turn.inside.seat.me.0.records) (only c.draw.new.seat.me.0.records) NoneLeft
    (ap (λ (m : Me (Option g.row.T.Denot) (View g.row.T.Denot)). only m.0.records) told) refl
    (subst (λ (t : TurnModel g.row.T.Denot). Holds k t.log) (sym c.turn.view_is) holds)

pub push_reserved-requires : goal.push_reserved-requires
push_reserved-requires g c =
    let t = c.turn.inside in
    let drew = rw c.in-Some.is at c.draw.ensures.piece in
    let below = drew.0 in
    let slots = c.self.invariant.slots in
    let table = ap (λ (h : TurnModel g.row.T.Denot). h.table.slots) c.turn.view_is ∙ ap (λ (z : TableId). z.slots) c.requires.0 ∙ ap (λ (b : BoardModel g.row.T.Denot). b.table.slots) (sym c.self.view_is) in
    let free = room_to_draw t.seat.table_id t.seat.me t.number t.drawn.items (vec_capacity t.drawn) t.held.items (vec_capacity t.held) t.ended c.turn.invariant c.in-Some.number (omega arith) drew.2 in
    let few = free.0 in
    let count = t.drawn.ok.0 in
    omega arith

pub push_reserved-requires-2 : goal.push_reserved-requires-2
push_reserved-requires-2 g c =
    let t = c.turn.inside in
    let drew = rw c.in-Some.is at c.draw.ensures.piece in
    let below = drew.0 in
    let slots = c.self.invariant.slots in
    let table = ap (λ (h : TurnModel g.row.T.Denot). h.table.slots) c.turn.view_is ∙ ap (λ (z : TableId). z.slots) c.requires.0 ∙ ap (λ (b : BoardModel g.row.T.Denot). b.table.slots) (sym c.self.view_is) in
    let free = room_to_draw t.seat.table_id t.seat.me t.number t.drawn.items (vec_capacity t.drawn) t.held.items (vec_capacity t.held) t.ended c.turn.invariant c.in-Some.number (omega arith) drew.2 in
    let few = free.1 in
    let count = t.held.ok.0 in
    omega arith

pub invariant_of-turn-2 : goal.invariant_of-turn-2
invariant_of-turn-2 g c =
    let t = c.turn.inside in
    let drew = rw c.in-Some.is at c.draw.ensures.piece in
    let below = drew.0 in
    let slots = c.self.invariant.slots in
    let table = ap (λ (h : TurnModel g.row.T.Denot). h.table.slots) c.turn.view_is ∙ ap (λ (z : TableId). z.slots) c.requires.0 ∙ ap (λ (b : BoardModel g.row.T.Denot). b.table.slots) (sym c.self.view_is) in
    moved t.seat.table_id c.draw.new.seat.table_id _ c.draw.new.seat.me t.number _ c.push_reserved.new.self.items (vec_capacity t.drawn) _ _ c.push_reserved-2.new.self.items (vec_capacity t.held) _ t.ended
    (sym c.draw.ensures.place.0) (sym drew.3) (sym c.push_reserved.ensures.items) (sym c.push_reserved.ensures.capacity) (sym c.push_reserved-2.ensures.items) (sym c.push_reserved-2.ensures.capacity)
    (after_draw t.seat.table_id t.seat.me t.number t.drawn.items (vec_capacity t.drawn) t.held.items (vec_capacity t.held) t.ended c.turn.invariant c.in-Some.number (omega arith) drew.2)

pub returns-clause-drawn : goal.returns-clause-drawn
returns-clause-drawn g c =
    let t = c.turn.inside in
    let drew = rw c.in-Some.is at c.draw.ensures.piece in
    let given = ap (λ (h : TurnModel g.row.T.Denot). h.given) c.turn.view_is ∙ c.requires.1 in
    let log = ap (λ (h : TurnModel g.row.T.Denot). h.log) c.turn.view_is in
    record {
      piece_is = slice_from_place c.args.self.now.given c.in-Some.number c.in-Some.piece (rw (sym given) drew.1);
      greater = rw (sym log) drew.2;
      not_ended = rw (sym log) (c.turn.invariant.leaves c.if-turn.false).1;
      log_is = ap (λ (m : Me (Option g.row.T.Denot) (View g.row.T.Denot)). only m.0.records) drew.3 ∙ ap (λ (r : Record g.row.T.Denot). with_entry r (Draw c.in-Some.number (reported r.entries))) log;
    }

pub returns-clause-holds : goal.returns-clause-holds
returns-clause-holds g c =
    let t = c.turn.inside in
    let drew = rw c.in-Some.is at c.draw.ensures.piece in
    let n = c.in-Some.number in
    let counts = c.turn.invariant.counts n in
    holds_drawn n (reported (only t.seat.me.0.records).entries) (only t.seat.me.0.records) (only c.draw.new.seat.me.0.records)
    (ap (λ (m : Me (Option g.row.T.Denot) (View g.row.T.Denot)). only m.0.records) drew.3) (omega arith) (same_counts n)

pub returns-clause-keeps : goal.returns-clause-keeps
returns-clause-keeps g c k holds =
    let t = c.turn.inside in
    let drew = rw c.in-Some.is at c.draw.ensures.piece in
    still_holds k (only t.seat.me.0.records) (only c.draw.new.seat.me.0.records) (Draw c.in-Some.number (reported (only t.seat.me.0.records).entries))
    (ap (λ (m : Me (Option g.row.T.Denot) (View g.row.T.Denot)). only m.0.records) drew.3) refl
    (subst (λ (h : TurnModel g.row.T.Denot). Holds k h.log) (sym c.turn.view_is) holds)
