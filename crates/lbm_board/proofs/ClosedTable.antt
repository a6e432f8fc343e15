-- What is known once one seat has the records of all turns.
use Rattle.std.proofs.Common.{◌≡◌, ℕ, zero, suc, ◌<◌, ◌≤◌, ◌⊎◌, inl, inr, ⊎_elim, min, List, [], ◌∷◌, length, get_or, slice_get, sym, ap, refl, subst, ◌∙◌, arith, Option, Some}
use Rattle.std.proofs.lemmas.Option.{slice_get_within}
use mathlib.Core.Option.{some, some-injective, some-ne-none}
use lib.ListN.{get_elem?}
use Rattle.atomic_table.specs.Table.{Final, Seen}
use Rattle.lbm_board.specs.declared.record.Entry.{Entry}
use Rattle.lbm_board.specs.declared.record.Entry.TheVariants.{Draw, Finish, Look, NoneLeft}
use Rattle.lbm_board.specs.declared.record.Record.{Record}
use Rattle.lbm_board.specs.declared.record.View.{View}
use Rattle.lbm_board.specs.Lists.{Each, total}
use Rattle.lbm_board.specs.Entries.{greatest, one_if_same, draws, reports, reported, told}
use Rattle.lbm_board.specs.BoardRecord.{AnswersAtMostOwn, FinishesItsDraws, in_record, least_report, EndsAt, BoardRecord, IsInPlace}
use Rattle.lbm_board.specs.RunningRule.{EachRecord, EachEntry, in_view, in_views, each_one, EntryHolds, Running, RunningRule}
use Rattle.lbm_board.specs.Closing.{IsClosedTable}
use Rattle.lbm_board.proofs.Lists.{each_map, each_at, total_at, total_none, place_from_slice, slice_from_place}
use Rattle.lbm_board.proofs.Counts.{same_if_counted, not_below}
use Rattle.lbm_board.proofs.SplitAndJoin.{running_of}
use Rattle.lbm_board.proofs.OneMoreEntry.{Homes}
use Rattle.lbm_board.proofs.Reporting.{least_of_told}
use Rattle.lbm_board.proofs.Claiming.{least_of_reports}

some_or_none : (n : ℕ) → (0 < n) ⊎ (n ≡ 0)
some_or_none zero = inr refl
some_or_none (suc n) = inl (omega arith)

module _ {A : Type 0} where
  -- where all of one sum is in one element, so is all of another that is 0 where the first one is
  all_here : (f g : A → ℕ) (xs : List A) (i : ℕ) (x : A) → get_elem? xs i ≡ some x → total g xs ≤ g x → ((y : A) → g y ≡ 0 → f y ≡ 0) → total f xs ≡ f x
  all_here f g [] i x e all none_there = absurd (some-ne-none x (sym e))
  all_here f g (y ∷ ys) zero x e all none_there =
      let is : g y ≡ g x = ap g (some-injective y x e) in
      let is' : f y ≡ f x = ap f (some-injective y x e) in
      let rest : total f ys ≡ 0 = zero_sum ys (each_map (λ z. g z ≡ 0) (λ z. f z ≡ 0) ys none_there (total_none g ys (omega arith))) in omega arith
    where
      zero_sum : (zs : List A) → Each (λ z. f z ≡ 0) zs → total f zs ≡ 0
      zero_sum [] h = refl
      zero_sum (z ∷ zs) h = let rest = zero_sum zs h.1 in let here = h.0 in omega arith
  all_here f g (y ∷ ys) (suc i) x e all none_there =
      let there = total_at g ys i x e in
      let here : f y ≡ 0 = none_there y (omega arith) in
      let rest = all_here f g ys i x e (omega arith) none_there in omega arith

module _ {T : Type 0} where
  no_records : (f : Record T → ℕ) (rs : List (Record T)) → total each_one rs ≡ 0 → total f rs ≡ 0
  no_records f [] e = refl
  no_records f (r ∷ rs) e = absurd (omega arith)

  -- a report is at least the least of its record
  reported_at_most : (m : ℕ) (cs : List (Entry T)) → 0 < total (reports m) cs → reported cs ≤ m
  reported_at_most m [] h = absurd (omega arith)
  reported_at_most m (Draw k own ∷ cs) h = reported_at_most m cs (omega arith)
  reported_at_most m (Finish k piece report answer last ∷ cs) h = ⊎_elim (λ here. let is = same_if_counted report m here in omega arith) (λ not_here. let rest = reported_at_most m cs (omega arith) in omega arith) (some_or_none (one_if_same report m))
  reported_at_most m (Look answer last ∷ cs) h = reported_at_most m cs (omega arith)
  reported_at_most m (NoneLeft ∷ cs) h = reported_at_most m cs (omega arith)

  least_at_most : (m : ℕ) (rs : List (Record T)) → 0 < total (in_record (reports m)) rs → least_report rs ≤ m
  least_at_most m [] h = absurd (omega arith)
  least_at_most m (r ∷ rs) h = ⊎_elim (λ here. let a = reported_at_most m r.entries here in omega arith) (λ not_here. let rest = least_at_most m rs (omega arith) in omega arith) (some_or_none (total (reports m) r.entries))

  least_bound : (rs : List (Record T)) → least_report rs ≤ greatest
  least_bound [] = omega arith
  least_bound (r ∷ rs) = let rest = least_bound rs in omega arith

  least_of_records : (claims least pieces : ℕ) (homes : Homes T) → least ≤ greatest → (rs : List (Record T)) → Each (λ r. Each (EntryHolds claims least pieces homes) r.entries) rs → least ≤ least_report rs
  least_of_records claims least pieces homes bound [] h = bound
  least_of_records claims least pieces homes bound (r ∷ rs) h = let here = least_of_reports claims least pieces homes bound r.entries h.0 in let rest = least_of_records claims least pieces homes bound rs h.1 in omega arith

  ends_of : (claims least pieces : ℕ) (homes : Homes T) (c : Entry T) → EntryHolds claims least pieces homes c → EndsAt pieces (min claims pieces) c
  ends_of claims least pieces homes (Draw k own) f = tt
  ends_of claims least pieces homes (Finish k piece report answer last) f = tt
  ends_of claims least pieces homes (Look answer last) f = tt
  ends_of claims least pieces homes NoneLeft f = omega arith

  in_place_of : (claims least pieces : ℕ) (homes : Homes T) (slots : List (Option T)) → ((k : ℕ) (y : Option T) → get_elem? homes k ≡ some (some y) → slice_get slots k ≡ Some y)
      → (c : Entry T) → EntryHolds claims least pieces homes c → IsInPlace slots c
  in_place_of claims least pieces homes slots still (Draw k own) f = tt
  in_place_of claims least pieces homes slots still (Finish k piece report answer last) f = still k (Some piece) f.5
  in_place_of claims least pieces homes slots still (Look answer last) f = tt
  in_place_of claims least pieces homes slots still NoneLeft f = tt

  module _ (turns : ℕ) (given : List T) (claims least : ℕ) (homes : Homes T) (views : List (View T)) (h : Running turns given claims least homes views)
      (id : ℕ) (v : View T) (at : get_elem? views id ≡ some v) (all : total each_one v.records ≡ turns) where
    whole : (f : Record T → ℕ) → total f v.records ≡ in_views f views
    whole f = sym (all_here (in_view f) (in_view each_one) views id v at (let few = h.few in omega arith) (λ u nothing. no_records f u.records nothing))

    of_view : (Q : Record T → Type 0) → EachRecord Q views → Each Q v.records
    of_view Q every = each_at (λ (u : View T). Each Q u.records) views id v every at

    held_entries : Each (λ r. Each (EntryHolds claims least (length given) homes) r.entries) v.records
    held_entries = of_view (λ r. Each (EntryHolds claims least (length given) homes) r.entries) h.entries

    least_is : least ≡ least_report v.records
    least_is =
        let low = least_of_records claims least (length given) homes h.bound v.records held_entries in
        let bound = least_bound v.records in
        ⊎_elim (λ opening. omega arith) (λ some_report. let a = whole (in_record (reports least)) in let b = least_at_most least v.records (omega arith) in omega arith) h.reported

    pub agrees : BoardRecord (length given) v.records
    agrees = record {
      drawn = min claims (length given);
      within = omega arith;
      once = λ k. whole (in_record (draws k)) ∙ h.drawn k;
      ends = each_map (λ r. Each (EntryHolds claims least (length given) homes) r.entries) (λ r. Each (EndsAt (length given) (min claims (length given))) r.entries) v.records
          (λ r. each_map (EntryHolds claims least (length given) homes) (EndsAt (length given) (min claims (length given))) r.entries (ends_of claims least (length given) homes)) held_entries;
      finished = of_view FinishesItsDraws h.finished;
      least = each_map (λ r. Each (EntryHolds claims least (length given) homes) r.entries) (λ r. least_report v.records ≤ told r.entries) v.records
          (λ r f. let a = least_of_told claims least (length given) homes h.bound r.entries f in let b = least_is in omega arith) held_entries;
      at_most_own = each_map (λ r. Each (λ c. EachEntry (AnswersAtMostOwn c) views) r.entries) (λ r. Each (λ c. Each (λ q. Each (AnswersAtMostOwn c) q.entries) v.records) r.entries) v.records
          (λ r. each_map (λ c. EachEntry (AnswersAtMostOwn c) views) (λ c. Each (λ q. Each (AnswersAtMostOwn c) q.entries) v.records) r.entries (λ c. of_view (λ q. Each (AnswersAtMostOwn c) q.entries)))
          (of_view (λ r. Each (λ c. EachEntry (AnswersAtMostOwn c) views) r.entries) h.at_most_own);
    }

    pub is_closed_table : (slots : List (Option T)) → length homes ≡ length slots → ((k : ℕ) (y : Option T) → get_elem? homes k ≡ some (some y) → slice_get slots k ≡ Some y)
        → IsClosedTable given v.records least slots
    is_closed_table slots long still = record {
      agree = agrees;
      least_is = least_is;
      long = sym long ∙ h.slots;
      finished = each_map (λ r. Each (EntryHolds claims least (length given) homes) r.entries) (λ r. Each (IsInPlace slots) r.entries) v.records
          (λ r. each_map (EntryHolds claims least (length given) homes) (IsInPlace slots) r.entries (in_place_of claims least (length given) homes slots still)) held_entries;
      first = λ k x none_drawn e.
          let inside = slice_get_within given k x e in
          let drawn = whole (in_record (draws k)) in
          let now = h.drawn k in
          let out : min claims (length given) ≤ k = not_below k (min claims (length given)) (omega arith) in
          still k (Some x) (h.first k x (omega arith) (place_from_slice given k x e));
    }

  pub closed_with : (turns : ℕ) (given : List T) (id : ℕ) (v : View T) (words : List ℕ) (slots : List (Option T)) → total each_one v.records ≡ turns → v.filled ≡ length given → Final (Seen (RunningRule turns given) id v) words slots
      → IsClosedTable given v.records (get_or words 1 0) slots
  closed_with turns given id v words slots all filled (s, seen, same, long, still) =
      subst (λ (ws : List ℕ). IsClosedTable given v.records (get_or ws 1 0) slots) same
      (is_closed_table turns given (get_or s.words 0 0) (get_or s.words 1 0) s.homes s.views (running_of turns given s id v seen.0.1 seen.1 filled) id v seen.1 all slots long
      (λ k y at. slice_from_place slots k y (still k y at)))
