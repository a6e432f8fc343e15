-- The claims of one more turn.
use Rattle.std.proofs.Common.{◌≡◌, ℕ, ◌+◌, ◌<◌, ◌≤◌, Bool, true, false, ltb, cond, List, ◌∷◌, length, Option, Some, slice_get, sym, ap, ◌∙◌, arith}
use Rattle.std.proofs.lemmas.Bool.Decides.{nat_tests}
use mathlib.Core.Logic.{dite}
use native.Mathlib.Decide.{dec_lt}
use Rattle.atomic_table.specs.Table.{Me}
use Rattle.atomic_table.specs.Seated.{TableId}
use Rattle.lbm_board.specs.declared.record.Record.{Record}
use Rattle.lbm_board.specs.declared.record.View.{View}
use Rattle.lbm_board.specs.Lists.{Each, total}
use Rattle.lbm_board.specs.Entries.{draws, finishes, only}
use Rattle.lbm_board.specs.BoardRecord.{in_record, times_drawn, times_finished, FinishesItsDraws}
use Rattle.lbm_board.specs.Fields.{times, IsTurn}
use Rattle.lbm_board.specs.Closing.{turn_of, AreClaims}
use Rattle.lbm_board.proofs.Lists.{each_map, total_less}

pub less : (a b : ℕ) → a < b → ltb a b ≡ true
less a b h = grind (arith, nat_tests)

pub not_less : (a b : ℕ) → b ≤ a → ltb a b ≡ false
not_less a b h = grind (arith, nat_tests)

-- the same number on both sides
both_more : (n a b : ℕ) → ltb (n + a) (n + b) ≡ ltb a b
both_more n a b = dite (dec_lt a b) (λ yes. less (n + a) (n + b) (omega arith) ∙ sym (less a b yes)) (λ no. not_less (n + a) (n + b) (omega arith) ∙ sym (not_less a b (omega arith)))

module _ {T : Type 0} where
  -- no number is finished more often than it is drawn
  pub finished_less : (k : ℕ) (rs : List (Record T)) → Each FinishesItsDraws rs → times_finished k rs ≤ times_drawn k rs
  finished_less k rs h = total_less (in_record (finishes k)) (in_record (draws k)) rs (each_map FinishesItsDraws (λ (r : Record T). total (finishes k) r.entries ≤ total (draws k) r.entries) rs (λ r m. m k) h)

  module _ (table : TableId) (me : Me (Option T) (View T)) (number : ℕ) (drawn : List ℕ) (drawn_room : ℕ) (held : List ℕ) (held_room : ℕ) (ended : Bool)
      (h : IsTurn table me number drawn drawn_room held held_room ended) (records : List (Record T)) where
    abbrev log : Record T
    log = only me.0.records

    pub claims_added : (d d' : List (Option ℕ)) (u u' : List Bool) → AreClaims table.slots records d u
        → length d' ≡ length d → ((k : ℕ) → 0 < times k drawn → slice_get d' k ≡ Some (Some number)) → ((k : ℕ) → times k drawn ≡ 0 → slice_get d' k ≡ slice_get d k)
        → length u' ≡ length u → ((k : ℕ) → 0 < times k held → slice_get u' k ≡ Some true) → ((k : ℕ) → times k held ≡ 0 → slice_get u' k ≡ slice_get u k)
        → AreClaims table.slots (log ∷ records) d' u'
    claims_added d d' u u' before as_many written kept as_many' written' kept' = record {
      finished = ((λ k. let a = h.counts k in omega arith), before.finished);
      turns = λ k inside.
          let is = h.drawn_is k in
          dite (dec_lt 0 (times k drawn))
          (λ here. written k here ∙ ap Some (ap Some (sym h.named) ∙ sym (ap (λ (b : Bool). cond b (Some log.turn) (turn_of k records)) (less 0 (total (draws k) log.entries) (omega arith)))))
          (λ not_here. kept k (omega arith) ∙ before.turns k inside ∙ ap Some (sym (ap (λ (b : Bool). cond b (Some log.turn) (turn_of k records)) (not_less 0 (total (draws k) log.entries) (omega arith)))));
      flags = λ k inside.
          let counts = h.counts k in
          let others = finished_less k records before.finished in
          dite (dec_lt 0 (times k held))
          (λ here. written' k here ∙ ap Some (sym (less (times_finished k (log ∷ records)) (times_drawn k (log ∷ records)) (omega arith))))
          (λ not_here.
          let same : total (draws k) log.entries ≡ total (finishes k) log.entries = omega arith in
          kept' k (omega arith) ∙ before.flags k inside ∙ ap Some (sym (ap (λ (n : ℕ). ltb (total (finishes k) log.entries + times_finished k records) (n + times_drawn k records)) same
          ∙ both_more (total (finishes k) log.entries) (times_finished k records) (times_drawn k records))));
      as_many = (as_many ∙ before.as_many.0, as_many' ∙ before.as_many.1);
    }
