-- One more call of one turn keeps the rule.
use Rattle.std.proofs.Common.{◌≡◌, ℕ, ◌+◌, ◌<◌, ◌≤◌, ◌⊎◌, false, min, max, List, [], ◌∷◌, ◌++◌, length, set, sym, ap, refl, subst, ◌∙◌, arith, Option, Some}
use mathlib.Core.Option.{some, none, some-injective, some-ne-none}
use mathlib.Core.Option as maybe
use lib.ListN.{get_elem?}
use Rattle.lbm_board.specs.declared.record.Entry.{Entry}
use Rattle.lbm_board.specs.declared.record.Record.{Record}
use Rattle.lbm_board.specs.declared.record.View.{View}
use Rattle.lbm_board.specs.Lists.{Each, total}
use Rattle.lbm_board.specs.Entries.{greatest, draws, finishes, reports, with_entry, one_if_below}
use Rattle.lbm_board.specs.BoardRecord.{AnswersAtMostOwn, FinishesItsDraws}
use Rattle.lbm_board.specs.RunningRule.{EachRecord, EachEntry, in_view, in_views, of_turn, each_one, CountsTurns, count, leave_of, EntryHolds, HasFilled, Running}
use Rattle.lbm_board.proofs.Lists.{each_map, each_at, each_set, total_append}
use Rattle.lbm_board.proofs.Views.{records_at, records_set, entries_map, entries_both, entries_added, count_added, same_records}

abbrev pub Homes : Type 0 → Type 0
Homes T = List (maybe.Option (Option T))

module _ {T : Type 0} where
  -- the part of the rule that speaks of answers and draws
  pub still_at_most_own : (views : List (View T)) (id : ℕ) (v w : View T) (r : Record T) (c : Entry T) (P : Entry T → Type 0) → get_elem? views id ≡ some v → v.records ≡ r ∷ [] → w.records ≡ with_entry r c ∷ []
      → EachEntry P views → EachEntry (λ d. EachEntry (AnswersAtMostOwn d) views) views → ((d : Entry T) → P d → AnswersAtMostOwn d c) → ((d : Entry T) → P d → AnswersAtMostOwn c d) → AnswersAtMostOwn c c
      → EachEntry (λ d. EachEntry (AnswersAtMostOwn d) (set views id w)) (set views id w)
  still_at_most_own views id v w r c P at has is known at_most_own before after self =
      let added : (Q : Entry T → Type 0) → EachEntry Q views → Q c → EachEntry Q (set views id w) = entries_added views id v w r c at has is in
      added (λ d. EachEntry (AnswersAtMostOwn d) (set views id w))
      (entries_map (λ d. P d × EachEntry (AnswersAtMostOwn d) views) (λ d. EachEntry (AnswersAtMostOwn d) (set views id w)) views (λ d h. added (AnswersAtMostOwn d) h.1 (before d h.0)) (entries_both P (λ d. EachEntry (AnswersAtMostOwn d) views) views known at_most_own))
      (added (AnswersAtMostOwn c) (entries_map P (AnswersAtMostOwn c) views after known) self)

  -- the turns that were made stay the same
  pub still_counts : (views : List (View T)) (id : ℕ) (v w : View T) (r : Record T) (c : Entry T) → get_elem? views id ≡ some v → v.records ≡ r ∷ [] → w.records ≡ with_entry r c ∷ [] → w.made ≡ v.made
      → Each (CountsTurns views) views → Each (CountsTurns (set views id w)) (set views id w)
  still_counts views id v w r c at has is same h =
      let after : (u : View T) → CountsTurns views u → CountsTurns (set views id w) u = λ u m first.
      let now = m first in (
        records_set (λ (q : Record T). q.turn < u.made) views id w (with_entry r c) now.0 is (records_at (λ (q : Record T). q.turn < u.made) views id v r now.0 at has),
        (let a = now.1 in let same = same_records views id v w r c at has is each_one refl in omega arith),
      ) in
      let mine : CountsTurns (set views id w) v = after v (each_at (CountsTurns views) views id v h at) in
      let first_was : in_view (of_turn 0) w ≡ in_view (of_turn 0) v = ap (total (of_turn 0)) is ∙ sym (ap (total (of_turn 0)) has) in
      each_set (CountsTurns (set views id w)) views id w (each_map (CountsTurns views) (CountsTurns (set views id w)) views after h)
      (λ first. subst (λ (n : ℕ). EachRecord (λ r. r.turn < n) (set views id w) × (in_views each_one (set views id w) ≤ n)) (sym same) (mine (subst (λ (n : ℕ). 0 < n) first_was first)))

  -- the table after the turn of the seat `id` has made the call c
  module _ (turns : ℕ) (given : List T) (claims least : ℕ) (homes : Homes T) (views : List (View T)) (h : Running turns given claims least homes views)
      (id : ℕ) (v w : View T) (r : Record T) (c : Entry T) (at : get_elem? views id ≡ some v) (has : v.records ≡ r ∷ []) (is : w.records ≡ with_entry r c ∷ [])
      (Before : Entry T → Type 0) (known : EachEntry Before views) where
    pub one_more_entry : (more lower : ℕ) (hs : Homes T) → length hs ≡ length given
        → ((k : ℕ) → count (draws k) views + draws k c ≡ one_if_below k (min more (length given)))
        → (max more (length given) + total leave_of (set views id w) ≤ length given + turns)
        → ((d : Entry T) → Before d → EntryHolds more lower (length given) hs d)
        → EntryHolds more lower (length given) hs c
        → FinishesItsDraws (with_entry r c)
        → lower ≤ greatest
        → ((lower ≡ greatest) ⊎ (0 < count (reports lower) (set views id w)))
        → ((d : Entry T) → Before d → AnswersAtMostOwn d c) → ((d : Entry T) → Before d → AnswersAtMostOwn c d) → AnswersAtMostOwn c c
        → ((k : ℕ) (x : T) → more ≤ k → get_elem? given k ≡ some x → get_elem? hs k ≡ some (some (Some x)))
        → ((k : ℕ) → k < more → k < length given → count (finishes k) (set views id w) ≡ 0 → get_elem? hs k ≡ some none)
        → HasFilled given w
        → w.made ≡ v.made
        → Running turns given more lower hs (set views id w)
    one_more_entry more lower hs wide drawn room holds holds_new finished bound said before after self first out filled made =
        let After : Entry T → Type 0 = EntryHolds more lower (length given) hs in record {
          slots = wide;
          drawn = λ k. count_added views id v w r c at has is (draws k) ∙ drawn k;
          room = room;
          entries = entries_added views id v w r c at has is After (entries_map Before After views holds known) holds_new;
          finished = records_set FinishesItsDraws views id w (with_entry r c) h.finished is finished;
          bound = bound;
          reported = said;
          at_most_own = still_at_most_own views id v w r c Before at has is known h.at_most_own before after self;
          first = first;
          out = out;
          filled = each_set (HasFilled given) views id w h.filled filled;
          apart = λ turn. let a = h.apart turn in let same = same_records views id v w r c at has is (of_turn turn) refl in omega arith;
          few = let a = h.few in let same = same_records views id v w r c at has is each_one refl in omega arith;
          made = still_counts views id v w r c at has is made h.made;
          most_made = let a = each_at (λ (u : View T). u.made ≤ turns) views id v h.most_made at in each_set (λ (u : View T). u.made ≤ turns) views id w h.most_made (omega arith);
          small = h.small;
        }

  pub total_entry : (f : Entry T → ℕ) (r : Record T) (c : Entry T) → total f (r.entries ++ c ∷ []) ≡ total f r.entries + f c
  total_entry f r c = let more = total_append f r.entries (c ∷ []) in omega arith

  pub filled_of : (given : List T) (views : List (View T)) (id : ℕ) (v : View T) (r : Record T) → Each (HasFilled given) views → get_elem? views id ≡ some v → v.records ≡ r ∷ []
      → (v.given ≡ given) × (v.filled ≡ length given) × (v.filling ≡ false)
  filled_of given views id v r filled at has = each_at (HasFilled given) views id v filled at (let one_record : length v.records ≡ 1 = ap length has in omega arith)

  pub still_filled : (given : List T) (views : List (View T)) (id : ℕ) (v : View T) (r : Record T) (w : View T) → Each (HasFilled given) views → get_elem? views id ≡ some v → v.records ≡ r ∷ []
      → w.given ≡ v.given → w.filled ≡ v.filled → w.filling ≡ v.filling → HasFilled given w
  still_filled given views id v r w filled at has a b c some_record = let now = filled_of given views id v r filled at has in (a ∙ now.0, b ∙ now.1, c ∙ now.2)
