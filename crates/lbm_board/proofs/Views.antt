-- What the views say, as one turn makes one more call.
use Rattle.std.proofs.Common.{◌≡◌, ℕ, ◌+◌, ◌≤◌, List, [], ◌∷◌, ◌++◌, set, sym, ap, subst, arith}
use mathlib.Core.Option.{some}
use lib.ListN.{get_elem?}
use Rattle.lbm_board.specs.declared.record.Entry.{Entry}
use Rattle.lbm_board.specs.declared.record.Record.{Record}
use Rattle.lbm_board.specs.declared.record.View.{View}
use Rattle.lbm_board.specs.Lists.{Each, total}
use Rattle.lbm_board.specs.Entries.{draws, finishes, with_entry}
use Rattle.lbm_board.specs.BoardRecord.{FinishesItsDraws, in_record}
use Rattle.lbm_board.specs.RunningRule.{EachRecord, EachEntry, in_views, in_view, count}
use Rattle.lbm_board.proofs.Lists.{each_map, each_both, each_at, each_set, each_append, total_set, total_append, total_less, total_gap, total_none}

module _ {T : Type 0} where
  pub records_at : (Q : Record T → Type 0) (views : List (View T)) (id : ℕ) (v : View T) (r : Record T) → EachRecord Q views → get_elem? views id ≡ some v → v.records ≡ r ∷ [] → Q r
  records_at Q views id v r h at has = let all : Each Q v.records = each_at (λ (u : View T). Each Q u.records) views id v h at in (subst (Each Q) has all).0

  pub records_set : (Q : Record T → Type 0) (views : List (View T)) (id : ℕ) (w : View T) (r : Record T) → EachRecord Q views → w.records ≡ r ∷ [] → Q r → EachRecord Q (set views id w)
  records_set Q views id w r h has q = each_set (λ (u : View T). Each Q u.records) views id w h (subst (Each Q) (sym has) (q, tt))

  pub entries_map : (P Q : Entry T → Type 0) (views : List (View T)) → ((c : Entry T) → P c → Q c) → EachEntry P views → EachEntry Q views
  entries_map P Q views f h = each_map (λ (u : View T). Each (λ r. Each P r.entries) u.records) (λ (u : View T). Each (λ r. Each Q r.entries) u.records) views
      (λ u. each_map (λ (r : Record T). Each P r.entries) (λ (r : Record T). Each Q r.entries) u.records (λ r. each_map P Q r.entries f)) h

  entries_both_in : (P Q : Entry T → Type 0) (rs : List (Record T)) → Each (λ r. Each P r.entries) rs → Each (λ r. Each Q r.entries) rs → Each (λ r. Each (λ c. P c × Q c) r.entries) rs
  entries_both_in P Q [] g h = tt
  entries_both_in P Q (r ∷ rs) g h = (each_both P Q r.entries g.0 h.0, entries_both_in P Q rs g.1 h.1)

  pub entries_both : (P Q : Entry T → Type 0) (views : List (View T)) → EachEntry P views → EachEntry Q views → EachEntry (λ c. P c × Q c) views
  entries_both P Q [] g h = tt
  entries_both P Q (v ∷ vs) g h = (entries_both_in P Q v.records g.0 h.0, entries_both P Q vs g.1 h.1)

  none_counted_in : (f : Entry T → ℕ) (rs : List (Record T)) → total (λ r. total f r.entries) rs ≡ 0 → Each (λ r. Each (λ c. f c ≡ 0) r.entries) rs
  none_counted_in f [] e = tt
  none_counted_in f (r ∷ rs) e = (total_none f r.entries (omega arith), none_counted_in f rs (omega arith))

  pub none_counted : (f : Entry T → ℕ) (views : List (View T)) → count f views ≡ 0 → EachEntry (λ c. f c ≡ 0) views
  none_counted f [] e = tt
  none_counted f (v ∷ vs) e = (none_counted_in f v.records (omega arith), none_counted f vs (omega arith))

  finishes_less : (k : ℕ) (rs : List (Record T)) → Each FinishesItsDraws rs → total (λ (r : Record T). total (finishes k) r.entries) rs ≤ total (λ (r : Record T). total (draws k) r.entries) rs
  finishes_less k rs h = total_less (λ (r : Record T). total (finishes k) r.entries) (λ (r : Record T). total (draws k) r.entries) rs
      (each_map FinishesItsDraws (λ r. total (finishes k) r.entries ≤ total (draws k) r.entries) rs (λ r m. m k) h)

  -- a number is held once at most: it was drawn more often than it was finished in one record alone
  pub finishes_gap : (k : ℕ) (views : List (View T)) (id : ℕ) (v : View T) (r : Record T) → EachRecord FinishesItsDraws views → get_elem? views id ≡ some v → v.records ≡ r ∷ []
      → count (finishes k) views + total (draws k) r.entries ≤ count (draws k) views + total (finishes k) r.entries
  finishes_gap k views id v r h at has =
      let gap = total_gap (in_view (in_record (finishes k))) (in_view (in_record (draws k))) views id v
      (each_map (λ (u : View T). Each FinishesItsDraws u.records) (λ (u : View T). in_view (in_record (finishes k)) u ≤ in_view (in_record (draws k)) u) views (λ u m. finishes_less k u.records m) h) at in
      let drawn : in_view (in_record (draws k)) v ≡ total (draws k) r.entries + 0 = ap (λ (rs : List (Record T)). total (λ x. total (draws k) x.entries) rs) has in
      let done : in_view (in_record (finishes k)) v ≡ total (finishes k) r.entries + 0 = ap (λ (rs : List (Record T)). total (λ x. total (finishes k) x.entries) rs) has in
      omega arith

  module _ (views : List (View T)) (id : ℕ) (v w : View T) (r : Record T) (c : Entry T) (at : get_elem? views id ≡ some v) (has : v.records ≡ r ∷ []) (is : w.records ≡ with_entry r c ∷ []) where
    pub entries_added : (Q : Entry T → Type 0) → EachEntry Q views → Q c → EachEntry Q (set views id w)
    entries_added Q h q = records_set (λ (x : Record T). Each Q x.entries) views id w (with_entry r c) h is
        (each_append Q r.entries (c ∷ []) (records_at (λ (x : Record T). Each Q x.entries) views id v r h at has) (q, tt))

    -- sums over the records that do not read their calls
    pub same_records : (f : Record T → ℕ) → f (with_entry r c) ≡ f r → in_views f (set views id w) ≡ in_views f views
    same_records f e =
        let moved = total_set (in_view f) views id v w at in
        let before : in_view f v ≡ f r + 0 = ap (total f) has in
        let after : in_view f w ≡ f (with_entry r c) + 0 = ap (total f) is in
        omega arith

    pub count_added : (f : Entry T → ℕ) → count f (set views id w) ≡ count f views + f c
    count_added f =
        let moved = total_set (in_view (in_record f)) views id v w at in
        let before : in_view (in_record f) v ≡ total f r.entries + 0 = ap (λ (rs : List (Record T)). total (λ x. total f x.entries) rs) has in
        let after : in_view (in_record f) w ≡ total f (r.entries ++ c ∷ []) + 0 = ap (λ (rs : List (Record T)). total (λ x. total f x.entries) rs) is in
        let more = total_append f r.entries (c ∷ []) in
        omega arith
