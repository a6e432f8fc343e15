use Rattle.std.proofs.Common.{◌≡◌, ℕ, Bool, List, [], ◌∷◌, ◌++◌, map, get_or, Option, Some, sym, ap, subst, ◌∙◌}
use Rattle.std.proofs.lemmas.List.Elements.{All-pop, All-weaker}
use Rattle.std.specs.Mem.Slots.{slots_items}
use Rattle.atomic_table.specs.Seated.{TableId}
use Rattle.lbm_board.specs.declared.record.Record.{Record}
use Rattle.lbm_board.specs.BoardRecord.{IsClosed}
use Rattle.lbm_board.specs.Closing.{AreClaims, without}
use Rattle.lbm_board.specs.Models.{BoardModel, TurnModel, IsTurnOf, log_of}
use Rattle.lbm_board.proofs.AllRecords.{in_order, as_many}
use Rattle.lbm_board.proofs.ClosedBoard.{is_closed_board}
use Rattle.lbm_board.proofs.board.Board.close.Goals as goal

pub join_all-requires-clause-turns : goal.join_all-requires-clause-turns
join_all-requires-clause-turns g c =
    let popped = All-pop (IsTurnOf c.args.self) c.args.turns.items c.pop.new.self.items (Some c.in-Some.last) c.in-Some.ensures.items c.requires.turns in
    let table = ap (λ (b : BoardModel g.row.T.Denot). b.table) (sym c.self.view_is) in
    All-weaker (IsTurnOf c.args.self) (λ t. t.table ≡ c.self.inside.table.shared.table_id) (λ t of. of.0 ∙ table) c.pop.new.self.items popped.0

pub join_all-requires-clause-claims : goal.join_all-requires-clause-claims
join_all-requires-clause-claims g c =
    let popped = All-pop (IsTurnOf c.args.self) c.args.turns.items c.pop.new.self.items (Some c.in-Some.last) c.in-Some.ensures.items c.requires.turns in
    let table : c.in-Some.last.table ≡ c.self.inside.table.shared.table_id = popped.1.0 ∙ ap (λ (b : BoardModel g.row.T.Denot). b.table) (sym c.self.view_is) in
    let slots = ap (λ (z : TableId). z.slots) table in
    let records : c.in-Some.last.log ∷ [] ≡ c.last.inside.seat.me.0.records = sym (c.last.invariant.alone ∙ ap (λ (u : TurnModel g.row.T.Denot). u.log ∷ []) c.last.view_is) in
    subst (λ (p : ℕ × List (Record g.row.T.Denot)). AreClaims p.0 p.1 c.add.new.self.drawn.items c.add.new.self.unfinished.items) (λ i. (slots i, records i))
    (c.add.ensures [] (subst (λ (n : ℕ). AreClaims n [] c.self.inside.claims.drawn.items c.self.inside.claims.unfinished.items) (sym c.self.invariant.slots ∙ sym slots) c.self.invariant.unclaimed))

pub close-closed-requires-clause-table : goal.close-closed-requires-clause-table
close-closed-requires-clause-table g c =
    let popped = All-pop (IsTurnOf c.args.self) c.args.turns.items c.pop.new.self.items (Some c.in-Some.last) c.in-Some.ensures.items c.requires.turns in
    c.join_all.ensures.table.0 ∙ ap (λ (u : TurnModel g.row.T.Denot). u.table) c.last.view_is ∙ popped.1.0 ∙ ap (λ (b : BoardModel g.row.T.Denot). b.table) (sym c.self.view_is)

pub close-closed-requires-clause-filled : goal.close-closed-requires-clause-filled
close-closed-requires-clause-filled g c =
    let popped = All-pop (IsTurnOf c.args.self) c.args.turns.items c.pop.new.self.items (Some c.in-Some.last) c.in-Some.ensures.items c.requires.turns in
    let table : c.last.inside.seat.table_id ≡ c.self.inside.table.shared.table_id =
    ap (λ (u : TurnModel g.row.T.Denot). u.table) c.last.view_is ∙ popped.1.0 ∙ ap (λ (b : BoardModel g.row.T.Denot). b.table) (sym c.self.view_is) in
    c.join_all.ensures.table.1 ∙ c.last.invariant.full ∙ ap (λ (z : TableId). z.slots) table ∙ c.self.invariant.slots ∙ sym c.self.invariant.given

pub close-closed-requires-clause-all : goal.close-closed-requires-clause-all
close-closed-requires-clause-all g c =
    let others : List (TurnModel g.row.T.Denot) = c.pop.new.self.items in
    let alone : c.last.inside.seat.me.0.records ≡ c.in-Some.last.log ∷ [] = c.last.invariant.alone ∙ ap (λ (u : TurnModel g.row.T.Denot). u.log ∷ []) c.last.view_is in
    let gathered = c.join_all.ensures.records ∙ ap (λ (rs : List (Record g.row.T.Denot)). map log_of others ++ rs) alone in
    let order = in_order c.args.turns.items others c.in-Some.last c.in-Some.ensures.items c.join_all.new.seat.me.0.records gathered in
    as_many c.args.turns.items others c.in-Some.last c.in-Some.ensures.items c.join_all.new.seat.me.0.records order
    ∙ sym c.args.turns.ok.0 ∙ c.requires.all ∙ ap (λ (b : BoardModel g.row.T.Denot). b.turns) (sym c.self.view_is)

pub returns : goal.returns
returns g c =
    let start = c.self.inside.table.shared.key.given.value.items in
    let others : List (TurnModel g.row.T.Denot) = c.pop.new.self.items in
    let records : List (Record g.row.T.Denot) = c.join_all.new.seat.me.0.records in
    let alone : c.last.inside.seat.me.0.records ≡ c.in-Some.last.log ∷ [] = c.last.invariant.alone ∙ ap (λ (u : TurnModel g.row.T.Denot). u.log ∷ []) c.last.view_is in
    let gathered = c.join_all.ensures.records ∙ ap (λ (rs : List (Record g.row.T.Denot)). map log_of others ++ rs) alone in
    let order = in_order c.args.turns.items others c.in-Some.last c.in-Some.ensures.items records gathered in
    let given = ap (λ (b : BoardModel g.row.T.Denot). b.given) c.self.view_is in
    let slots : List (Option g.row.T.Denot) = slots_items c.close-closed.result.slots in
    let count = c.self.invariant.slots ∙ sym c.self.invariant.given in
    let claims = subst (λ (n : ℕ). AreClaims n records c.join_all.new.claims.drawn.items c.join_all.new.claims.unfinished.items) count c.join_all.ensures.claims in
    let pieces = c.take_pieces-pieces.ensures.pieces ∙ ap (λ (bs : List Bool). without bs slots) c.as_slice.ensures.value in
    let out = is_closed_board start records (get_or (slots_items c.close-closed.result.words) 1 0) slots c.join_all.new.claims.drawn.items c.join_all.new.claims.unfinished.items c.close-closed.ensures.closed claims in
    subst (λ (z : List g.row.T.Denot × List (Record g.row.T.Denot) × List (Option g.row.T.Denot) × ℕ). IsClosed z.0 z.1 z.2 c.join_all.new.claims.drawn.items z.3)
    (λ i. (given i, order i, sym pieces i, sym c.take_pieces-pieces.ensures.least i)) out
