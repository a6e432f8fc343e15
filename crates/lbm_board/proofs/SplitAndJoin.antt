-- Splitting a seat and joining two keep the rule.
use Rattle.std.proofs.Common.{◌≡◌, ◌≢◌, ℕ, ◌+◌, ◌<◌, ◌≤◌, inl, inr, ⊎_elim, List, [], ◌∷◌, ◌++◌, length, get_or, set, sym, ap, refl, subst, ◌∙◌, arith, Option}
use mathlib.Core.Logic.{dite}
use mathlib.Core.Option.{some}
use native.Mathlib.Decide.{ℕ_discrete, dec_lt}
use lib.ListN.{get_elem?}
use Rattle.atomic_table.specs.Table.{State, Splits, Joins}
use Rattle.atomic_table.proofs.Lists.{set_else}
use Rattle.lbm_board.specs.declared.record.Entry.{Entry}
use Rattle.lbm_board.specs.declared.record.Record.{Record}
use Rattle.lbm_board.specs.declared.record.View.{View}
use Rattle.lbm_board.specs.Lists.{Each, total}
use Rattle.lbm_board.specs.Entries.{one_if_same, draws, finishes, reports}
use Rattle.lbm_board.specs.BoardRecord.{AnswersAtMostOwn, FinishesItsDraws, in_record}
use Rattle.lbm_board.specs.RunningRule.{EachRecord, EachEntry, in_view, in_views, count, of_turn, each_one, leave_of, EntryHolds, HasFilled, CountsTurns, Running, Phase, RunningRule}
use Rattle.lbm_board.specs.Steps.{after_split, new_view, joined, spent}
use Rattle.lbm_board.proofs.Lists.{each_map, each_at, each_set, each_append, each_set_alone, total_set, total_append, total_at}
use Rattle.lbm_board.proofs.Counts.{same_counts, other_counts_not}
use Rattle.lbm_board.proofs.Views.{entries_map}
use Rattle.lbm_board.proofs.Phases.{running}
use Rattle.lbm_board.proofs.OneMoreEntry.{Homes}

module _ {T : Type 0} where
  quiet_each : (Q : Entry T → Type 0) (rs : List (Record T)) → Each (λ r. r.entries ≡ []) rs → Each (λ r. Each Q r.entries) rs
  quiet_each Q rs h = each_map (λ r. r.entries ≡ []) (λ r. Each Q r.entries) rs (λ r e. subst (Each Q) (sym e) tt) h

  quiet_sum : (f : Entry T → ℕ) (rs : List (Record T)) → Each (λ r. r.entries ≡ []) rs → total (in_record f) rs ≡ 0
  quiet_sum f [] h = refl
  quiet_sum f (r ∷ rs) h = let here : total f r.entries ≡ 0 = ap (total f) h.0 in let rest = quiet_sum f rs h.1 in omega arith

  quiet_finished : (rs : List (Record T)) → Each (λ r. r.entries ≡ []) rs → Each FinishesItsDraws rs
  quiet_finished rs h = each_map (λ r. r.entries ≡ []) FinishesItsDraws rs (λ r e k. let a : total (finishes k) r.entries ≡ 0 = ap (total (finishes k)) e in omega arith) h

  -- the same records in other views, and some records with no call
  module _ (turns : ℕ) (given : List T) (claims least : ℕ) (homes : Homes T) (views views' : List (View T)) (h : Running turns given claims least homes views)
      (extra : List (Record T)) (quiet : Each (λ r. r.entries ≡ []) extra)
      (grow : (Q : Record T → Type 0) → EachRecord Q views → Each Q extra → EachRecord Q views')
      (sum : (f : Record T → ℕ) → in_views f views' ≡ in_views f views + total f extra) where
    same_count : (f : Entry T → ℕ) → count f views' ≡ count f views
    same_count f = let a = sum (in_record f) in let b = quiet_sum f extra quiet in omega arith

    grow_calls : (Q : Entry T → Type 0) → EachEntry Q views → EachEntry Q views'
    grow_calls Q all = grow (λ r. Each Q r.entries) all (quiet_each Q extra quiet)

    pub regrouped : total leave_of views' ≤ total leave_of views → Each (HasFilled given) views' → ((turn : ℕ) → in_views (of_turn turn) views' ≤ 1) → in_views each_one views' ≤ turns → Each (CountsTurns views') views' → Each (λ v. v.made ≤ turns) views'
        → Running turns given claims least homes views'
    regrouped leave filled apart few made most = record {
      slots = h.slots;
      drawn = λ k. same_count (draws k) ∙ h.drawn k;
      room = let a = h.room in omega arith;
      entries = grow_calls (EntryHolds claims least (length given) homes) h.entries;
      finished = grow FinishesItsDraws h.finished (quiet_finished extra quiet);
      bound = h.bound;
      reported = ⊎_elim inl (λ some_report. inr (let e = same_count (reports least) in omega arith)) h.reported;
      at_most_own = grow_calls (λ c. EachEntry (AnswersAtMostOwn c) views') (entries_map (λ c. EachEntry (AnswersAtMostOwn c) views) (λ c. EachEntry (AnswersAtMostOwn c) views') views (λ c. grow_calls (AnswersAtMostOwn c)) h.at_most_own);
      first = h.first;
      out = λ k earlier inside none_finished. h.out k earlier inside (sym (same_count (finishes k)) ∙ none_finished);
      filled = filled;
      apart = apart;
      few = few;
      made = made;
      most_made = most;
      small = h.small;
    }

  none_of_turn : (m : ℕ) (rs : List (Record T)) → Each (λ r. r.turn < m) rs → total (of_turn m) rs ≡ 0
  none_of_turn m [] h = refl
  none_of_turn m (r ∷ rs) h =
      let other : r.turn ≢ m = let a = h.0 in λ e. omega arith in
      let here = other_counts_not r.turn m other in
      let rest = none_of_turn m rs h.1 in omega arith

  none_of_turn_all : (m : ℕ) (views : List (View T)) → EachRecord (λ r. r.turn < m) views → in_views (of_turn m) views ≡ 0
  none_of_turn_all m [] h = refl
  none_of_turn_all m (v ∷ vs) h = let here = none_of_turn m v.records h.0 in let rest = none_of_turn_all m vs h.1 in omega arith

  -- a sum over records of turn 0 is no more than the number of records
  more_records : (rs : List (Record T)) → 0 < total (of_turn 0) rs → 0 < total each_one rs
  more_records [] h = absurd (omega arith)
  more_records (r ∷ rs) h = omega arith

  pub total_ones : (rs : List (Record T)) → total each_one rs ≡ length rs
  total_ones [] = refl
  total_ones (r ∷ rs) = let rest = total_ones rs in omega arith

  records_below : (views : List (View T)) (m n : ℕ) → m ≤ n → EachRecord (λ r. r.turn < m) views → EachRecord (λ r. r.turn < n) views
  records_below views m n le h = each_map (λ (u : View T). Each (λ r. r.turn < m) u.records) (λ (u : View T). Each (λ r. r.turn < n) u.records) views
      (λ u. each_map (λ (r : Record T). r.turn < m) (λ (r : Record T). r.turn < n) u.records (λ r b. omega arith)) h

  pub running_of : (turns : ℕ) (given : List T) (s : State (Option T) (View T)) (id : ℕ) (v : View T) → Phase turns given (get_or s.words 0 0) (get_or s.words 1 0) s.homes s.views → get_elem? s.views id ≡ some v → v.filled ≡ length given
      → Running turns given (get_or s.words 0 0) (get_or s.words 1 0) s.homes s.views
  running_of turns given s id v phase at filled = running turns given (get_or s.words 0 0) (get_or s.words 1 0) s.homes s.views id v phase at (filled ∙ sym (slots_of phase)) where
    slots_of : Phase turns given (get_or s.words 0 0) (get_or s.words 1 0) s.homes s.views → length s.homes ≡ length given
    slots_of (inl h) = h.slots
    slots_of (inr h) = h.slots

  pub split_allowed : (turns : ℕ) (given : List T) (id : ℕ) (v : View T) → 0 < in_view (of_turn 0) v → 1 < v.leave → v.made < turns → v.filled ≡ length given
      → Splits (RunningRule turns given) id v (after_split v) (new_view v)
  split_allowed turns given id v first leave room filled s (two, phase) at =
      let h = running_of turns given s id v phase at filled in
      let l : View T = after_split v in
      let r : View T = new_view v in
      let cut : List (View T) = set s.views id l in
      let grow : (Q : Record T → Type 0) → EachRecord Q s.views → Each Q r.records → EachRecord Q (cut ++ r ∷ []) =
      λ Q all new. each_append (λ (u : View T). Each Q u.records) cut (r ∷ []) (each_set (λ (u : View T). Each Q u.records) s.views id l all (each_at (λ (u : View T). Each Q u.records) s.views id v all at)) (new, tt) in
      let sum : (f : Record T → ℕ) → in_views f (cut ++ r ∷ []) ≡ in_views f s.views + total f r.records =
      λ f. let a = total_append (in_view f) cut (r ∷ []) in let b = total_set (in_view f) s.views id v l at in omega arith in
      let mine = each_at (CountsTurns s.views) s.views id v h.made at first in
      let apart_now : (turn : ℕ) → in_views (of_turn turn) (cut ++ r ∷ []) ≤ 1 =
      λ turn. dite (ℕ_discrete v.made turn)
      (λ new. let a = sum (of_turn turn) in let b = none_of_turn_all v.made s.views mine.0 in let c : in_views (of_turn v.made) s.views ≡ in_views (of_turn turn) s.views = ap (λ (t : ℕ). in_views (of_turn t) s.views) new in
      let d = same_counts turn in let e : one_if_same v.made turn ≡ one_if_same turn turn = ap (λ (t : ℕ). one_if_same t turn) new in omega arith)
      (λ old. let a = sum (of_turn turn) in let b = other_counts_not v.made turn old in let c = h.apart turn in omega arith) in
      let some_made : 0 < v.made = let a = mine.1 in let b = total_at (in_view each_one) s.views id v at in let c = more_records v.records first in omega arith in
      let Now : View T → Type 0 = CountsTurns (cut ++ r ∷ []) in
      let alone : Each Now cut = each_set_alone (in_view (of_turn 0)) Now s.views id v l at (let a = h.apart 0 in omega arith) (λ u nothing has. absurd (omega arith))
      (λ has. (
        grow (λ q. q.turn < v.made + 1) (records_below s.views v.made (v.made + 1) (omega arith) mine.0) (let a : v.made < v.made + 1 = omega arith in (a, tt)),
        (let a = sum each_one in let b = mine.1 in omega arith),
      )) in
      let Few : View T → Type 0 = λ u. u.made ≤ turns in
      let mine_filled = each_at (HasFilled given) s.views id v h.filled at in (
        two,
        inr (regrouped turns given (get_or s.words 0 0) (get_or s.words 1 0) s.homes s.views (cut ++ r ∷ []) h r.records (refl, tt) grow sum
            (let a = total_append leave_of cut (r ∷ []) in let b = total_set leave_of s.views id v l at in omega arith)
            (each_append (HasFilled given) cut (r ∷ []) (each_set (HasFilled given) s.views id l h.filled mine_filled) ((λ _. let now = mine_filled (let c = more_records v.records first in let d = total_ones v.records in omega arith) in (now.0, now.1, refl)), tt))
            apart_now
            (let a = sum each_one in let b = mine.1 in omega arith)
            (each_append Now cut (r ∷ []) alone ((λ has. let a = other_counts_not v.made 0 (λ e. omega arith) in absurd (omega arith)), tt))
            (each_append Few cut (r ∷ []) (each_set Few s.views id l h.most_made (omega arith)) (omega arith, tt))),
      )

  pub join_allowed : (turns : ℕ) (given : List T) (id : ℕ) (v : View T) (other : ℕ) (w : View T) → 0 < length v.records → v.filled ≡ length given
      → Joins (RunningRule turns given) id v other w (joined v w) spent
  join_allowed turns given id v other w some_record filled s (two, phase) at apart at' =
      let h = running_of turns given s id v phase at filled in
      let b : View T = joined v w in
      let first_set : List (View T) = set s.views id b in
      let after : List (View T) = set first_set other spent in
      let was : get_elem? s.views other ≡ some w = sym (set_else s.views id other b apart) ∙ at' in
      let grow : (Q : Record T → Type 0) → EachRecord Q s.views → Each Q [] → EachRecord Q after = λ Q all _.
      let E : View T → Type 0 = λ u. Each Q u.records in
      each_set E first_set other spent (each_set E s.views id b all (each_append Q w.records v.records (each_at E s.views other w all was) (each_at E s.views id v all at))) tt in
      let moved : (f : View T → ℕ) → f b ≡ f v + f w → f spent ≡ 0 → total f after ≡ total f s.views = λ f joined none_left.
      let a = total_set f s.views id v b at in let c = total_set f first_set other w spent at' in omega arith in
      let sum : (f : Record T → ℕ) → in_views f after ≡ in_views f s.views + total f [] = λ f.
      let parts = total_append f w.records v.records in let a = moved (in_view f) (omega arith) refl in omega arith in
      let mine = each_at (HasFilled given) s.views id v h.filled at some_record in
      let Was : View T → Type 0 = CountsTurns s.views in
      let Now : View T → Type 0 = CountsTurns after in
      let later : (m n : ℕ) → m ≤ n → EachRecord (λ r. r.turn < m) s.views × (in_views each_one s.views ≤ m) → EachRecord (λ r. r.turn < n) after × (in_views each_one after ≤ n) = λ m n le known. (
        grow (λ r. r.turn < n) (records_below s.views m n le known.0) tt,
        (let a = known.1 in let c = sum each_one in omega arith),
      ) in
      let Few : View T → Type 0 = λ u. u.made ≤ turns in
      let one_few = each_at Few s.views id v h.most_made at in
      let other_few = each_at Few s.views other w h.most_made was in
      let keep : (u : View T) → Was u → Now u = λ u known first. later u.made u.made (omega arith) (known first) in
      let joined : Now b = λ first.
      let parts = total_append (of_turn 0) w.records v.records in
      dite (dec_lt 0 (in_view (of_turn 0) v))
      (λ here. later v.made b.made (omega arith) (each_at Was s.views id v h.made at here))
      (λ not_here. later w.made b.made (omega arith) (each_at Was s.views other w h.made was (omega arith))) in (
        two,
        inr (regrouped turns given (get_or s.words 0 0) (get_or s.words 1 0) s.homes s.views after h [] tt grow sum
            (let a = moved leave_of refl refl in omega arith)
            (each_set (HasFilled given) first_set other spent (each_set (HasFilled given) s.views id b h.filled (λ _. mine)) (λ some_left. absurd (omega arith)))
            (λ turn. let a = sum (of_turn turn) in let c = h.apart turn in omega arith)
            (let a = sum each_one in let c = h.few in omega arith)
            (each_set Now first_set other spent (each_set Now s.views id b (each_map Was Now s.views keep h.made) joined) (λ some_left. absurd (omega arith)))
            (each_set Few first_set other spent (each_set Few s.views id b h.most_made (omega arith)) (omega arith))),
      )

  -- a new seat gets the whole view, and holds no slot
  pub hand_over_allowed : (turns : ℕ) (given : List T) (id : ℕ) (v : View T) → v.filled ≡ length given → Splits (RunningRule turns given) id v spent v
  hand_over_allowed turns given id v filled s (two, phase) at =
      let h = running_of turns given s id v phase at filled in
      let cut : List (View T) = set s.views id spent in
      let after : List (View T) = cut ++ v ∷ [] in
      let grow : (Q : Record T → Type 0) → EachRecord Q s.views → Each Q [] → EachRecord Q after = λ Q all _.
      let E : View T → Type 0 = λ u. Each Q u.records in
      each_append E cut (v ∷ []) (each_set E s.views id spent all tt) (each_at E s.views id v all at, tt) in
      let moved : (f : View T → ℕ) → f spent ≡ 0 → total f after ≡ total f s.views = λ f none_left.
      let a = total_append f cut (v ∷ []) in let b = total_set f s.views id v spent at in omega arith in
      let sum : (f : Record T → ℕ) → in_views f after ≡ in_views f s.views + total f [] = λ f. let a = moved (in_view f) refl in omega arith in
      let Was : View T → Type 0 = CountsTurns s.views in
      let Now : View T → Type 0 = CountsTurns after in
      let Few : View T → Type 0 = λ u. u.made ≤ turns in
      let keep : (u : View T) → Was u → Now u = λ u known first.
      let now = known first in (grow (λ r. r.turn < u.made) now.0 tt, (let a = now.1 in let c = sum each_one in omega arith)) in (
        two,
        inr (regrouped turns given (get_or s.words 0 0) (get_or s.words 1 0) s.homes s.views after h [] tt grow sum
            (let a = moved leave_of refl in omega arith)
            (each_append (HasFilled given) cut (v ∷ []) (each_set (HasFilled given) s.views id spent h.filled (λ some_left. absurd (omega arith))) (each_at (HasFilled given) s.views id v h.filled at, tt))
            (λ turn. let a = sum (of_turn turn) in let c = h.apart turn in omega arith)
            (let a = sum each_one in let c = h.few in omega arith)
            (each_append Now cut (v ∷ []) (each_set Now s.views id spent (each_map Was Now s.views keep h.made) (λ some_left. absurd (omega arith))) (keep v (each_at Was s.views id v h.made at), tt))
            (each_append Few cut (v ∷ []) (each_set Few s.views id spent h.most_made (omega arith)) (each_at Few s.views id v h.most_made at, tt))),
      )
