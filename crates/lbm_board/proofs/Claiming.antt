-- A claim keeps the rule: a number is drawn and its slot taken, or the turn is told that no piece is left.
use Rattle.std.proofs.Common.{◌≡◌, ◌≢◌, ℕ, zero, suc, ◌+◌, ◌%◌, ◌^◌, ◌<◌, ◌≤◌, inl, inr, ⊎_elim, List, [], ◌∷◌, length, get_or, set, sym, ap, refl, subst, ◌∙◌, arith, length-set, get_or-set_same, get_or-set_other, Option, Some}
use mathlib.Core.Logic.{dite}
use mathlib.Core.Option.{some, none}
use native.Mathlib.Decide.{dec_lt, ℕ_discrete}
use lib.ListN.{get_elem?}
use Rattle.atomic_table.specs.Table.{Me, step, keeps, takes, Allows}
use Rattle.atomic_table.proofs.Lists.{set_else, set_here}
use Rattle.lbm_board.specs.declared.record.Entry.{Entry}
use Rattle.lbm_board.specs.declared.record.Entry.TheVariants.{Draw, Finish, Look, NoneLeft}
use Rattle.lbm_board.specs.declared.record.Record.{Record}
use Rattle.lbm_board.specs.declared.record.View.{View}
use Rattle.lbm_board.specs.Lists.{Each}
use Rattle.lbm_board.specs.Entries.{greatest, one_if_same, draws, finishes, reports, reported, DrawsBelow}
use Rattle.lbm_board.specs.BoardRecord.{AnswersAtMostOwn, FinishesItsDraws}
use Rattle.lbm_board.specs.RunningRule.{count, leave_of, EntryHolds, Running, RunningRule}
use Rattle.lbm_board.specs.Steps.{after_entry, after_none, IsClaim, Claimed}
use Rattle.lbm_board.proofs.Lists.{each_map, total_set, total_at}
use Rattle.lbm_board.proofs.Counts.{below_with_one_more, below_with_all}
use Rattle.lbm_board.proofs.Views.{records_at, count_added}
use Rattle.lbm_board.proofs.Phases.{running}
use Rattle.lbm_board.proofs.OneMoreEntry.{Homes, one_more_entry, total_entry, filled_of, still_filled}

module _ {T : Type 0} where
  pub first_same : (r q : Record T) → r ∷ [] ≡ q ∷ [] → r ≡ q
  first_same r q e = cc

  there : (xs : List T) (i : ℕ) → i < length xs → (x : T) × (get_elem? xs i ≡ some x)
  there [] i room = absurd (omega arith)
  there (x ∷ xs) zero room = (x, refl)
  there (x ∷ xs) (suc i) room = there xs i (omega arith)

  holds_later : (n least pieces : ℕ) (homes : Homes T) (c : Entry T) → EntryHolds n least pieces homes c → EntryHolds (n + 1) least pieces homes c
  holds_later n least pieces homes (Draw k own) f = let a = f.0 in (omega arith, f.1, f.2)
  holds_later n least pieces homes (Finish k piece report answer last) f = let a = f.0 in let b = f.3 in (omega arith, f.1, f.2, omega arith, f.4, f.5)
  holds_later n least pieces homes (Look answer last) f = let a = f.1 in (f.0, omega arith, f.2)
  holds_later n least pieces homes NoneLeft f = omega arith

  pub at_most_own_none : (c : Entry T) → AnswersAtMostOwn c NoneLeft
  at_most_own_none (Draw k before) = tt
  at_most_own_none (Finish k piece report answer last) = tt
  at_most_own_none (Look answer last) = tt
  at_most_own_none NoneLeft = tt

  holds_after_draw : (n least pieces : ℕ) (homes : Homes T) (c : Entry T) → EntryHolds n least pieces homes c → EntryHolds (n + 1) least pieces (set homes n none) c
  holds_after_draw n least pieces homes (Draw k own) f = let a = f.0 in (omega arith, f.1, f.2)
  holds_after_draw n least pieces homes (Finish k piece report answer last) f = let a = f.0 in let b = f.3 in let other : k ≢ n = omega arith in
      (omega arith, f.1, f.2, omega arith, f.4, set_else homes n k none other ∙ f.5)
  holds_after_draw n least pieces homes (Look answer last) f = let a = f.1 in (f.0, omega arith, f.2)
  holds_after_draw n least pieces homes NoneLeft f = omega arith

  -- the number is below no number that was drawn before
  at_most_own_draw : (n own least pieces : ℕ) (homes : Homes T) (c : Entry T) → EntryHolds n least pieces homes c → AnswersAtMostOwn c (Draw n own)
  at_most_own_draw n own least pieces homes (Draw k before) f = tt
  at_most_own_draw n own least pieces homes (Finish k piece report answer last) f = λ late. let a = f.3 in absurd (omega arith)
  at_most_own_draw n own least pieces homes (Look answer last) f = λ late. let a = f.1 in absurd (omega arith)
  at_most_own_draw n own least pieces homes NoneLeft f = tt

  draws_below : (n least pieces : ℕ) (homes : Homes T) (c : Entry T) → EntryHolds n least pieces homes c → DrawsBelow n c
  draws_below n least pieces homes (Draw k own) f = f.0
  draws_below n least pieces homes (Finish k piece report answer last) f = tt
  draws_below n least pieces homes (Look answer last) f = tt
  draws_below n least pieces homes NoneLeft f = tt

  pub least_of_reports : (n least pieces : ℕ) (homes : Homes T) → least ≤ greatest → (cs : List (Entry T)) → Each (EntryHolds n least pieces homes) cs → least ≤ reported cs
  least_of_reports n least pieces homes bound [] f = bound
  least_of_reports n least pieces homes bound (Draw k own ∷ cs) f = least_of_reports n least pieces homes bound cs f.1
  least_of_reports n least pieces homes bound (Finish k piece report answer last ∷ cs) f = let rest = least_of_reports n least pieces homes bound cs f.1 in let a = f.0.1 in omega arith
  least_of_reports n least pieces homes bound (Look answer last ∷ cs) f = least_of_reports n least pieces homes bound cs f.1
  least_of_reports n least pieces homes bound (NoneLeft ∷ cs) f = least_of_reports n least pieces homes bound cs f.1

  module _ (turns : ℕ) (given : List T) (n least : ℕ) (homes : Homes T) (views : List (View T)) (h : Running turns given n least homes views)
      (id : ℕ) (v : View T) (r : Record T) (at : get_elem? views id ≡ some v) (has : v.records ≡ r ∷ []) where
    abbrev pieces : ℕ
    pieces = length given

    entries_of : Each (EntryHolds n least pieces homes) r.entries
    entries_of = records_at (λ (x : Record T). Each (EntryHolds n least pieces homes) x.entries) views id v r h.entries at has

    abbrev draw : Entry T
    draw = Draw n (reported r.entries)

    pub draws_one : n < pieces → Running turns given (n + 1) least (set homes n none) (set views id (after_entry v r draw))
    draws_one room =
        let w : View T = after_entry v r draw in
        let same : (f : Entry T → ℕ) → f draw ≡ 0 → count f (set views id w) ≡ count f views = λ f none_more. let more = count_added views id v w r draw at has refl f in omega arith in
        let leave = total_set leave_of views id v w at in
        let before = h.room in
        let slots = h.slots in
        one_more_entry turns given n least homes views h id v w r draw at has refl (EntryHolds n least pieces homes) h.entries (n + 1) least (set homes n none)
        (length-set homes n none ∙ h.slots)
        (λ k. ap (λ (m : ℕ). m + one_if_same n k) (h.drawn k) ∙ below_with_one_more k n pieces room)
        (omega arith)
        (holds_after_draw n least pieces homes)
        (omega arith, room, least_of_reports n least pieces homes h.bound r.entries entries_of)
        (λ k. let m = records_at FinishesItsDraws views id v r h.finished at has k in let a = total_entry (finishes k) r draw in let b = total_entry (draws k) r draw in omega arith)
        h.bound
        (⊎_elim inl (λ some_report. inr (let e = same (reports least) refl in omega arith)) h.reported)
        (at_most_own_draw n (reported r.entries) least pieces homes)
        (λ d _. tt)
        tt
        (λ k x later e. let other : k ≢ n = omega arith in set_else homes n k none other ∙ h.first k x (omega arith) e)
        (λ k earlier inside none_finished. dite (ℕ_discrete k n)
        (λ here. subst (λ (j : ℕ). get_elem? (set homes n none) j ≡ some none) (sym here) (set_here homes n none (omega arith)))
        (λ other. set_else homes n k none other ∙ h.out k (omega arith) inside (sym (same (finishes k) refl) ∙ none_finished)))
        (still_filled given views id v r w h.filled at has refl refl refl) refl

    pub draws_none : pieces ≤ n → 0 < v.leave → Running turns given (n + 1) least homes (set views id (after_none v r))
    draws_none full some_leave =
        let w : View T = after_none v r in
        let same : (f : Entry T → ℕ) → f NoneLeft ≡ 0 → count f (set views id w) ≡ count f views = λ f none_more. let more = count_added views id v w r NoneLeft at has refl f in omega arith in
        let leave = total_set leave_of views id v w at in
        let before = h.room in
        one_more_entry turns given n least homes views h id v w r NoneLeft at has refl (EntryHolds n least pieces homes) h.entries (n + 1) least homes
        h.slots
        (λ k. let d = h.drawn k in let e = below_with_all k n pieces full in omega arith)
        (omega arith)
        (holds_later n least pieces homes)
        (omega arith)
        (λ k. let m = records_at FinishesItsDraws views id v r h.finished at has k in let a = total_entry (finishes k) r NoneLeft in let b = total_entry (draws k) r NoneLeft in omega arith)
        h.bound
        (⊎_elim inl (λ some_report. inr (let e = same (reports least) refl in omega arith)) h.reported)
        (λ d _. at_most_own_none d)
        (λ d _. tt)
        tt
        (λ k x later e. h.first k x (omega arith) e)
        (λ k earlier inside none_finished. h.out k (omega arith) inside (sym (same (finishes k) refl) ∙ none_finished))
        (still_filled given views id v r w h.filled at has refl refl refl) refl

    pub told_below : Each (DrawsBelow n) r.entries
    told_below = each_map (EntryHolds n least pieces homes) (DrawsBelow n) r.entries (draws_below n least pieces homes) entries_of

  pub claim_allowed : (turns : ℕ) (given : List T) (slots id : ℕ) (me : Me (Option T) (View T)) (r : Record T) → me.0.records ≡ r ∷ [] → me.0.filled ≡ slots → 0 < me.0.leave
      → Allows (RunningRule turns given) slots id me 0 (λ n. (n + 1) % 2 ^ 64) (Claimed (step slots 0 1 0 none) me)
  claim_allowed turns given slots id me r has full some_leave s (two, phase) wide at small =
      let n : ℕ = get_or s.words 0 0 in
      let least : ℕ = get_or s.words 1 0 in
      let h = running turns given n least s.homes s.views id me.0 phase at (full ∙ sym wide) in
      let before = h.room in
      let bound = h.small in
      let sum = total_at leave_of s.views id me.0 at in
      let many = h.slots in
      let next : (n + 1) % 18446744073709551616 ≡ n + 1 = omega arith in
      let ruled : (hs : Homes T) (w : View T) → Running turns given (n + 1) least hs (set s.views id w) → RunningRule turns given record { words = set s.words 0 ((n + 1) % 18446744073709551616); homes = hs; views = set s.views id w } =
      λ hs w d. (
        length-set s.words 0 ((n + 1) % 18446744073709551616) ∙ two,
        inr (subst (λ (z : ℕ × ℕ). Running turns given z.0 z.1 hs (set s.views id w))
            (λ i. (sym (get_or-set_same s.words 0 ((n + 1) % 18446744073709551616) 0 (omega arith) ∙ next) i, sym (get_or-set_other s.words 0 1 ((n + 1) % 18446744073709551616) 0 (omega arith)) i)) d),
      ) in
      let same_record : (q : Record T) → me.0.records ≡ q ∷ [] → r ≡ q = λ q e. first_same r q (sym has ∙ e) in
      dite (dec_lt n (length given))
      (λ room.
      let found = there given n room in
      let x : T = found.0 in
      let filled = filled_of given s.views id me.0 r h.filled at has in (
        after_entry me.0 r (Draw n (reported r.entries)),
        takes n (Some x),
        h.first n x (omega arith) found.1,
        ruled (set s.homes n none) (after_entry me.0 r (Draw n (reported r.entries))) (draws_one turns given n least s.homes s.views h id me.0 r at has room),
        λ q e. subst (λ (p : Record T). IsClaim slots me n (after_entry me.0 r (Draw n (reported r.entries)), (n, Some x) ∷ me.1) p) (same_record q e)
            ((λ _. (x, subst (λ (xs : List T). get_elem? xs n ≡ some x) (sym filled.0) found.1, refl, told_below turns given n least s.homes s.views h id me.0 r at has)), λ all_drawn. absurd (omega arith)),
      ))
      (λ all_drawn. (
        after_none me.0 r,
        keeps,
        tt,
        ruled s.homes (after_none me.0 r) (draws_none turns given n least s.homes s.views h id me.0 r at has (omega arith) some_leave),
        λ q e. subst (λ (p : Record T). IsClaim slots me n (after_none me.0 r, me.1) p) (same_record q e) ((λ room. absurd (all_drawn (omega arith))), λ _. refl),
      ))
