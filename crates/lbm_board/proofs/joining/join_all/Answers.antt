use Rattle.std.proofs.Common.{◌≡◌, ℕ, List, [], ◌∷◌, ◌++◌, map, length, Option, Some, sym, ap, subst, ◌∙◌, arith, append_assoc}
use mathlib.Core.List.{map-append}
use Rattle.std.proofs.lemmas.List.Elements.{All-pop}
use Rattle.atomic_table.specs.Table.{Me}
use Rattle.atomic_table.specs.Seated.{TableId}
use Rattle.lbm_board.specs.declared.record.Record.{Record}
use Rattle.lbm_board.specs.declared.record.View.{View}
use Rattle.lbm_board.specs.Models.{TurnModel, log_of}
use Rattle.lbm_board.specs.Closing.{AreClaims}
use Rattle.lbm_board.proofs.joining.join_all.Goals as goal

pub loop-turn-preserved : goal.loop-turn-preserved
loop-turn-preserved g c =
    let h = c.loop-turn.invariant in
    let t = c.in-Some.turn in
    let log : Record g.row.T.Denot = t.log in
    let popped = All-pop (λ (u : TurnModel g.row.T.Denot). u.table ≡ c.args.table.now.table_id) c.loop-turn.turns.items c.pop.new.self.items (Some t) c.in-Some.ensures.items h.turns in
    let alone : c.turn.inside.seat.me.0.records ≡ log ∷ [] = c.turn.invariant.alone ∙ ap (λ (u : TurnModel g.row.T.Denot). u.log ∷ []) c.turn.view_is in
    let records : c.join.new.seat.me.0.records ≡ log ∷ c.loop-turn.seat.me.0.records =
    ap (λ (m : Me (Option g.row.T.Denot) (View g.row.T.Denot)). m.0.records) c.join.ensures.both ∙ ap (λ (rs : List (Record g.row.T.Denot)). rs ++ c.loop-turn.seat.me.0.records) alone in
    let slots : t.table.slots ≡ c.args.table.now.table_id.slots = ap (λ (z : TableId). z.slots) popped.1 in
    let before = subst (λ (n : ℕ). AreClaims n c.loop-turn.seat.me.0.records c.loop-turn.claims.drawn.items c.loop-turn.claims.unfinished.items) (sym slots) h.claims in
    let logs : List (TurnModel g.row.T.Denot) → List (Record g.row.T.Denot) = map log_of in
    record {
      table = c.join.ensures.table.0 ∙ h.table;
      filled = ap (λ (m : Me (Option g.row.T.Denot) (View g.row.T.Denot)). m.0.filled) c.join.ensures.both ∙ h.filled;
      some_record = let many = ap length records in omega arith;
      turns = popped.0;
      records = ap (λ (rs : List (Record g.row.T.Denot)). logs c.pop.new.self.items ++ rs) records
          ∙ sym (append_assoc (logs c.pop.new.self.items) (log ∷ []) c.loop-turn.seat.me.0.records)
          ∙ ap (λ (rs : List (Record g.row.T.Denot)). rs ++ c.loop-turn.seat.me.0.records) (sym (ap logs c.in-Some.ensures.items ∙ map-append log_of c.pop.new.self.items (t ∷ [])))
          ∙ h.records;
      claims = subst (λ (p : ℕ × List (Record g.row.T.Denot)). AreClaims p.0 p.1 c.add.new.self.drawn.items c.add.new.self.unfinished.items) (λ i. (slots i, sym records i)) (c.add.ensures c.loop-turn.seat.me.0.records before);
    }
