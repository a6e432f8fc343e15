use Rattle.std.proofs.Common.{◌≡◌, ℕ, refl, sym, ap, subst, ◌∙◌, vec_capacity}
use Rattle.atomic_table.specs.Seated.{TableId}
use Rattle.lbm_board.specs.declared.record.Record.{Record}
use Rattle.lbm_board.specs.Models.{BoardModel, TurnModel}
use Rattle.lbm_board.specs.BoardRecord.{AreApart}
use Rattle.lbm_board.specs.Steps.{IsLive}
use Rattle.lbm_board.proofs.Turns.{live, same_turn, same_model, moved}
use Rattle.lbm_board.proofs.board.Board.show_apart.Goals as goal

pub compare-requires-clause-live : goal.compare-requires-clause-live
compare-requires-clause-live g c =
    let a = c.one.inside in
    let b = c.two.inside in
    let table = ap (λ (m : BoardModel g.row.T.Denot). m.table.slots) (sym c.self.view_is) in
    let at_one : a.seat.table_id.slots ≡ c.self.inside.table.shared.table_id.slots =
    ap (λ (m : TurnModel g.row.T.Denot). m.table.slots) c.one.view_is ∙ ap (λ (z : TableId). z.slots) c.requires.0.0 ∙ table in
    let at_two : b.seat.table_id.slots ≡ c.self.inside.table.shared.table_id.slots =
    ap (λ (m : TurnModel g.row.T.Denot). m.table.slots) c.two.view_is ∙ ap (λ (z : TableId). z.slots) c.requires.1.0 ∙ table in (
      subst (λ (n : ℕ). IsLive n a.seat.me.0) at_one (live a.seat.table_id a.seat.me a.number a.drawn.items (vec_capacity a.drawn) a.held.items (vec_capacity a.held) a.ended c.one.invariant),
      subst (λ (n : ℕ). IsLive n b.seat.me.0) at_two (live b.seat.table_id b.seat.me b.number b.drawn.items (vec_capacity b.drawn) b.held.items (vec_capacity b.held) b.ended c.two.invariant),
    )

pub returns-clause-same : goal.returns-clause-same
returns-clause-same g c =
    let same = c.compare.ensures.same in
    let places = c.compare.ensures.places in
    let a = c.one.inside.seat in
    let b = c.two.inside.seat in
    let one = c.compare.new.one in
    let two = c.compare.new.two in (
      same_model a.table_id one.table_id a.me.0 one.me.0 places.0 same.0 ∙ c.one.view_is,
      same_model b.table_id two.table_id b.me.0 two.me.0 places.1 same.1 ∙ c.two.view_is,
    )

pub returns-clause-apart : goal.returns-clause-apart
returns-clause-apart g c =
    let one = ap (λ (m : TurnModel g.row.T.Denot). m.log) c.one.view_is in
    let two = ap (λ (m : TurnModel g.row.T.Denot). m.log) c.two.view_is in
    subst (λ (z : Record g.row.T.Denot × Record g.row.T.Denot). AreApart z.0 z.1) (λ i. (one i, two i)) c.compare.ensures.apart

pub invariant_of-one : goal.invariant_of-one
invariant_of-one g c =
    let t = c.one.inside in
    let new = c.compare.new.one in
    moved t.seat.table_id new.table_id (new.me.0, t.seat.me.1) new.me t.number t.drawn.items t.drawn.items (vec_capacity t.drawn) (vec_capacity t.drawn) t.held.items t.held.items (vec_capacity t.held) (vec_capacity t.held) t.ended
    (sym c.compare.ensures.places.0) (λ i. (new.me.0, sym c.compare.ensures.slots.0 i)) refl refl refl refl
    (same_turn t.seat.table_id t.seat.me t.number t.drawn.items (vec_capacity t.drawn) t.held.items (vec_capacity t.held) t.ended c.one.invariant new.me.0 c.compare.ensures.same.0)

pub invariant_of-two : goal.invariant_of-two
invariant_of-two g c =
    let t = c.two.inside in
    let new = c.compare.new.two in
    moved t.seat.table_id new.table_id (new.me.0, t.seat.me.1) new.me t.number t.drawn.items t.drawn.items (vec_capacity t.drawn) (vec_capacity t.drawn) t.held.items t.held.items (vec_capacity t.held) (vec_capacity t.held) t.ended
    (sym c.compare.ensures.places.1) (λ i. (new.me.0, sym c.compare.ensures.slots.1 i)) refl refl refl refl
    (same_turn t.seat.table_id t.seat.me t.number t.drawn.items (vec_capacity t.drawn) t.held.items (vec_capacity t.held) t.ended c.two.invariant new.me.0 c.compare.ensures.same.1)
