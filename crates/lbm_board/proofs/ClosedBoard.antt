-- What a closed board hands out, from the slots of its table and the claims of its turns.
use Rattle.std.proofs.Common.{◌≡◌, ℕ, ◌+◌, ◌<◌, ◌≤◌, Bool, true, false, cond, List, [], ◌∷◌, length, Option, Some, None, slice_get, sym, ap, refl, ◌∙◌, arith}
use Rattle.std.proofs.lemmas.Option.{slice_get_within, slice_get-get_or}
use Rattle.lbm_board.specs.declared.record.Entry.{Entry}
use Rattle.lbm_board.specs.declared.record.Entry.TheVariants.{Draw, Finish, Look, NoneLeft}
use Rattle.lbm_board.specs.declared.record.Record.{Record}
use Rattle.lbm_board.specs.Lists.{Each, total}
use Rattle.lbm_board.specs.Entries.{draws, finishes}
use Rattle.lbm_board.specs.BoardRecord.{in_record, times_drawn, times_finished, IsInPlace, HasTurn, IsClosed}
use Rattle.lbm_board.specs.Closing.{IsClosedTable, turn_of, AreClaims, without}
use Rattle.lbm_board.proofs.Lists.{each_map, each_both}
use Rattle.lbm_board.proofs.Counts.{same_counts, below_at_most_one, below_inside}
use Rattle.lbm_board.proofs.ClaimsAdded.{less, not_less}
use Rattle.lbm_board.proofs.Taking.{length-without, without_at}

module _ {T : Type 0} where
  -- an entry is counted in its record, and a record in all
  module _ (f : ℕ → Entry T → ℕ) where
    pub entry_counted : (es : List (Entry T)) → Each (λ e. (k : ℕ) → f k e ≤ total (f k) es) es
    entry_counted [] = tt
    entry_counted (e ∷ es) = (
      (λ k. omega arith),
      each_map (λ d. (k : ℕ) → f k d ≤ total (f k) es) (λ d. (k : ℕ) → f k d ≤ f k e + total (f k) es) es (λ d h k. let a = h k in omega arith) (entry_counted es),
    )

    pub record_counted : (rs : List (Record T)) → Each (λ r. (k : ℕ) → in_record (f k) r ≤ total (in_record (f k)) rs) rs
    record_counted [] = tt
    record_counted (r ∷ rs) = (
      (λ k. omega arith),
      each_map (λ q. (k : ℕ) → in_record (f k) q ≤ total (in_record (f k)) rs) (λ q. (k : ℕ) → in_record (f k) q ≤ in_record (f k) r + total (in_record (f k)) rs) rs (λ q h k. let a = h k in omega arith) (record_counted rs),
    )

    -- what follows for an entry from what is known of it, once it is counted in all, follows for each
    pub every_entry : (Q P : Record T → Entry T → Type 0) (rs : List (Record T)) → ((r : Record T) (e : Entry T) → Q r e → ((k : ℕ) → f k e ≤ total (in_record (f k)) rs) → P r e)
        → Each (λ r. Each (Q r) r.entries) rs → Each (λ r. Each (P r) r.entries) rs
    every_entry Q P rs holds known =
        each_map (λ r. Each (Q r) r.entries × ((k : ℕ) → in_record (f k) r ≤ total (in_record (f k)) rs)) (λ r. Each (P r) r.entries) rs
        (λ r h. each_map (λ e. Q r e × ((k : ℕ) → f k e ≤ total (f k) r.entries)) (P r) r.entries (λ e g. holds r e g.0 (λ k. let a = g.1 k in let b = h.1 k in omega arith)) (each_both (Q r) (λ e. (k : ℕ) → f k e ≤ total (f k) r.entries) r.entries h.0 (entry_counted r.entries)))
        (each_both (λ r. Each (Q r) r.entries) (λ r. (k : ℕ) → in_record (f k) r ≤ total (in_record (f k)) rs) rs known (record_counted rs))

  -- where no number is drawn twice, the first record that draws it is the only one
  turn_of_drawn : (rs : List (Record T)) → ((k : ℕ) → times_drawn k rs ≤ 1) → Each (λ r. (k : ℕ) → 0 < total (draws k) r.entries → turn_of k rs ≡ Some r.turn) rs
  turn_of_drawn [] once = tt
  turn_of_drawn (r ∷ rs) once = (
    (λ k some. ap (λ (b : Bool). cond b (Some r.turn) (turn_of k rs)) (less 0 (total (draws k) r.entries) some)),
    each_map (λ q. ((k : ℕ) → 0 < total (draws k) q.entries → turn_of k rs ≡ Some q.turn) × ((k : ℕ) → in_record (draws k) q ≤ times_drawn k rs)) (λ q. (k : ℕ) → 0 < total (draws k) q.entries → turn_of k (r ∷ rs) ≡ Some q.turn) rs
        (λ q h k some. let a = h.1 k in let b = once k in
        ap (λ (c : Bool). cond c (Some r.turn) (turn_of k rs)) (not_less 0 (total (draws k) r.entries) (omega arith)) ∙ h.0 k some)
        (each_both (λ q. (k : ℕ) → 0 < total (draws k) q.entries → turn_of k rs ≡ Some q.turn) (λ q. (k : ℕ) → in_record (draws k) q ≤ times_drawn k rs) rs
        (turn_of_drawn rs (λ k. let b = once k in omega arith)) (record_counted draws rs)),
  )

  turn_of_none : (k : ℕ) (rs : List (Record T)) → times_drawn k rs ≡ 0 → turn_of k rs ≡ None
  turn_of_none k [] e = refl
  turn_of_none k (r ∷ rs) e = ap (λ (b : Bool). cond b (Some r.turn) (turn_of k rs)) (not_less 0 (total (draws k) r.entries) (omega arith)) ∙ turn_of_none k rs (omega arith)

  module _ (given : List T) (records : List (Record T)) (least : ℕ) (slots : List (Option T)) (drawn : List (Option ℕ)) (unfinished : List Bool)
      (h : IsClosedTable given records least slots) (c : AreClaims (length given) records drawn unfinished) where
    abbrev pieces : List (Option T)
    pieces = without unfinished slots

    once : (k : ℕ) → times_drawn k records ≤ 1
    once k = let a = h.agree.once k in let b = below_at_most_one k h.agree.drawn in omega arith

    inside : (k : ℕ) → 0 < times_drawn k records → k < length given
    inside k some = let a = h.agree.once k in let b = below_inside k h.agree.drawn (omega arith) in let d = h.agree.within in omega arith

    -- a slot stays where its number is not unfinished
    stays : (k : ℕ) (x : Option T) → times_drawn k records ≤ times_finished k records → slice_get slots k ≡ Some x → slice_get pieces k ≡ Some x
    stays k x all_finished e =
        let below = slice_get_within slots k x e in
        let long = h.long in
        without_at unfinished slots k false x (c.flags k (omega arith) ∙ ap Some (not_less (times_finished k records) (times_drawn k records) all_finished)) e

    in_place : (r : Record T) (e : Entry T) → IsInPlace slots e → ((k : ℕ) → finishes k e ≤ times_finished k records) → IsInPlace pieces e
    in_place r (Draw k own) e counted = tt
    in_place r (Finish k piece report answer last) e counted = let a = counted k in let b = same_counts k in let d = once k in stays k (Some piece) (omega arith) e
    in_place r (Look answer last) e counted = tt
    in_place r NoneLeft e counted = tt

    has_turn : (r : Record T) (es : List (Entry T)) → ((k : ℕ) → 0 < total (draws k) es → slice_get drawn k ≡ Some (Some r.turn)) → Each (HasTurn drawn r.turn) es
    has_turn r [] known = tt
    has_turn r (Draw n own ∷ es) known = ((let a = same_counts n in known n (omega arith)), has_turn r es (λ k some. known k (omega arith)))
    has_turn r (Finish n piece report answer last ∷ es) known = (tt, has_turn r es (λ k some. known k (omega arith)))
    has_turn r (Look answer last ∷ es) known = (tt, has_turn r es (λ k some. known k (omega arith)))
    has_turn r (NoneLeft ∷ es) known = (tt, has_turn r es (λ k some. known k (omega arith)))

    pub is_closed_board : IsClosed given records pieces drawn least
    is_closed_board = record {
      agree = h.agree;
      least_is = h.least_is;
      as_many = let a = c.as_many in let b = h.long in length-without unfinished slots (a.1 ∙ sym b) ∙ h.long;
      finished = every_entry finishes (λ r. IsInPlace slots) (λ r. IsInPlace pieces) records in_place h.finished;
      unfinished = λ k open_claim.
          let below = inside k (omega arith) in
          let long = h.long in
          without_at unfinished slots k true _ (c.flags k below ∙ ap Some (less (times_finished k records) (times_drawn k records) open_claim)) (slice_get-get_or slots k None (omega arith));
      untouched = λ k x none_drawn e. stays k (Some x) (omega arith) (h.first k x none_drawn e);
      as_many_turns = c.as_many.0;
      by_turn = each_map (λ r. ((k : ℕ) → 0 < total (draws k) r.entries → turn_of k records ≡ Some r.turn) × ((k : ℕ) → in_record (draws k) r ≤ times_drawn k records)) (λ r. Each (HasTurn drawn r.turn) r.entries) records
          (λ r known. has_turn r r.entries (λ k some. let a = known.1 k in c.turns k (inside k (omega arith)) ∙ ap Some (known.0 k some)))
          (each_both (λ r. (k : ℕ) → 0 < total (draws k) r.entries → turn_of k records ≡ Some r.turn) (λ r. (k : ℕ) → in_record (draws k) r ≤ times_drawn k records) records (turn_of_drawn records once) (record_counted draws records));
      by_none = λ k below none_drawn. c.turns k below ∙ ap Some (turn_of_none k records none_drawn);
    }
