use Rattle.std.proofs.Common.{◌≡◌, ◌+◌, [], ◌∷◌, length, length-append, Some, sym, ap, ◌∙◌, rules, arith, Option}
use Rattle.std.proofs.lemmas.List.Elements.{All-pop}
use Rattle.atomic_table.specs.Table.{Me}
use Rattle.lbm_board.specs.declared.turn_room.TurnRoom.{TurnRoom}
use Rattle.lbm_board.specs.declared.record.View.{View}
use Rattle.lbm_board.specs.Models.{fresh_turn}
use Rattle.lbm_board.proofs.Numbered.{one_more_made, made_in_order}
use Rattle.lbm_board.proofs.new_turns.make_turns.Goals as goal

pub loop-room-preserved : goal.loop-room-preserved
loop-room-preserved g c =
    let h = c.loop-room.invariant in
    let given = ap (λ (m : Me (Option g.row.T.Denot) (View g.row.T.Denot)). m.0.given) c.split-place.ensures.right ∙ h.given in
    let number : c.loop-room.number ≡ length c.loop-room.turns.items + 1 = sym h.count in
    record {
      table = search rules;
      none_held = search rules;
      alone = search rules;
      leave = search rules;
      made = search rules;
      filled = search rules;
      given = search rules;
      rooms = (All-pop (λ (r : TurnRoom). r.room ≡ c.args.table.now.table_id.slots) c.loop-room.rooms.items c.pop-in-loop-room.new.self.items (Some c.in-Some-pop.room) c.in-Some-pop.ensures.items h.rooms).0;
      left = search rules;
      count = search rules;
      capacity = search rules;
      fresh = one_more_made (fresh_turn c.args.seat.table_id c.args.seat.me.0.given) c.loop-room.turns.items c.push_reserved.new.self.items c.make_turn.result c.push_reserved.ensures.items
          (c.make_turn.ensures ∙ (λ i. fresh_turn ((c.split-place.ensures.table.2 ∙ h.table) i) (given i) (number i))) h.fresh;
    }

pub returns-clause-fresh : goal.returns-clause-fresh
returns-clause-fresh g c k below =
    let h = c.loop-room.invariant in
    let long = c.push_reserved-2.new.self.ok.0 in
    let none_left : length c.loop-room.rooms.items ≡ 0 = search rules in
    let one_more : length c.push_reserved-2.new.self.items ≡ length c.loop-room.turns.items + 1 = ap length c.push_reserved-2.ensures.items ∙ length-append c.loop-room.turns.items (c.make_turn-2.result ∷ []) in
    let all : length c.push_reserved-2.new.self.items ≡ c.args.table.now.key.turns = omega arith in
    made_in_order (fresh_turn c.args.seat.table_id c.args.seat.me.0.given) c.loop-room.turns.items c.push_reserved-2.new.self.items c.rotate_right.new.self.items c.make_turn-2.result _
    c.push_reserved-2.ensures.items long c.rotate_right.ensures.items (c.make_turn-2.ensures ∙ (λ i. fresh_turn (h.table i) (h.given i) 0)) h.fresh k (omega arith)
