-- A finish and a look keep the rule.
use Rattle.std.proofs.Common.{◌≡◌, ◌≢◌, ℕ, ◌+◌, ◌<◌, ◌≤◌, ◌⊎◌, inl, inr, ⊎_elim, min, List, [], ◌∷◌, length, get_or, set, sym, ap, refl, subst, ◌∙◌, arith, length-set, get_or-set_same, get_or-set_other, Option, Some}
use mathlib.Core.Logic.{dite}
use mathlib.Core.Option.{some, none}
use native.Mathlib.Decide.{dec_lt, ℕ_discrete}
use lib.ListN.{get_elem?}
use Rattle.atomic_table.specs.Table.{State, Me, step, keeps, takes, gives, put_back, stepped, Allows}
use Rattle.atomic_table.specs.Table
use Rattle.atomic_table.proofs.Lists.{set_else, set_here}
use Rattle.lbm_board.specs.declared.record.Entry.{Entry}
use Rattle.lbm_board.specs.declared.record.Entry.TheVariants.{Draw, Finish, Look, NoneLeft}
use Rattle.lbm_board.specs.declared.record.Record.{Record}
use Rattle.lbm_board.specs.declared.record.View.{View}
use Rattle.lbm_board.specs.Lists.{Each, total}
use Rattle.lbm_board.specs.Entries.{greatest, one_if_same, draws, finishes, reports, told, latest}
use Rattle.lbm_board.specs.BoardRecord.{AtMostOwn, AnswersAtMostOwn, FinishesItsDraws}
use Rattle.lbm_board.specs.RunningRule.{count, leave_of, EntryHolds, Running, RunningRule}
use Rattle.lbm_board.specs.Steps.{after_entry, IsFinish, Finished, IsLook, Looked}
use Rattle.lbm_board.proofs.Lists.{total_set}
use Rattle.lbm_board.proofs.Counts.{same_counts, other_counts_not, below_at_most_one, below_inside}
use Rattle.lbm_board.proofs.Views.{records_at, entries_both, none_counted, finishes_gap, count_added}
use Rattle.lbm_board.proofs.Phases.{running}
use Rattle.lbm_board.proofs.OneMoreEntry.{Homes, one_more_entry, total_entry, still_filled}
use Rattle.lbm_board.proofs.Claiming.{first_same}

module _ {T : Type 0} where
  latest_within : (claims least pieces bound : ℕ) (homes : Homes T) (cs : List (Entry T)) → Each (EntryHolds claims least pieces homes) cs → (pieces ≤ claims → pieces ≤ bound) → ((k : ℕ) → k < claims → k < pieces → k ≤ bound)
      → latest pieces cs ≤ bound
  latest_within claims least pieces bound homes [] f all each = omega arith
  latest_within claims least pieces bound homes (Draw k own ∷ cs) f all each = let rest = latest_within claims least pieces bound homes cs f.1 all each in let a = each k f.0.0 f.0.1 in omega arith
  latest_within claims least pieces bound homes (Finish k piece report answer last ∷ cs) f all each = latest_within claims least pieces bound homes cs f.1 all each
  latest_within claims least pieces bound homes (Look answer last ∷ cs) f all each = latest_within claims least pieces bound homes cs f.1 all each
  latest_within claims least pieces bound homes (NoneLeft ∷ cs) f all each = let rest = latest_within claims least pieces bound homes cs f.1 all each in let a = all f.0 in omega arith

  pub least_of_told : (claims least pieces : ℕ) (homes : Homes T) → least ≤ greatest → (cs : List (Entry T)) → Each (EntryHolds claims least pieces homes) cs → least ≤ told cs
  least_of_told claims least pieces homes bound [] f = bound
  least_of_told claims least pieces homes bound (Draw k own ∷ cs) f = least_of_told claims least pieces homes bound cs f.1
  least_of_told claims least pieces homes bound (Finish k piece report answer last ∷ cs) f = let rest = least_of_told claims least pieces homes bound cs f.1 in let a = f.0.1 in let b = f.0.2 in omega arith
  least_of_told claims least pieces homes bound (Look answer last ∷ cs) f = let rest = least_of_told claims least pieces homes bound cs f.1 in let a = f.0.0 in omega arith
  least_of_told claims least pieces homes bound (NoneLeft ∷ cs) f = least_of_told claims least pieces homes bound cs f.1

  abbrev HoldsOther : ℕ → ℕ → ℕ → Homes T → ℕ → Entry T → Type 0
  HoldsOther claims least pieces homes k c = EntryHolds claims least pieces homes c × (finishes k c ≡ 0)

  holds_after_finish : (claims least lower pieces k : ℕ) (homes : Homes T) (x : T) → lower ≤ least → (c : Entry T) → HoldsOther claims least pieces homes k c
      → EntryHolds claims lower pieces (set homes k (some (Some x))) c
  holds_after_finish claims least lower pieces k homes x low (Draw j own) (f, none_here) = let a = f.2 in (f.0, f.1, omega arith)
  holds_after_finish claims least lower pieces k homes x low (Finish j piece report answer last) (f, none_here) = let a = f.1 in let b = f.2 in
      let other : j ≢ k = λ same. let e = same_counts k in let e' : one_if_same j k ≡ one_if_same k k = ap (λ (z : ℕ). one_if_same z k) same in omega arith in
      (f.0, omega arith, omega arith, f.3, f.4, set_else homes k j (some (Some x)) other ∙ f.5)
  holds_after_finish claims least lower pieces k homes x low (Look answer last) (f, none_here) = let a = f.0 in (omega arith, f.1, f.2)
  holds_after_finish claims least lower pieces k homes x low NoneLeft (f, none_here) = f

  -- the answer is at most all that was reported before each draw
  at_most_own_earlier : (claims least pieces answer last : ℕ) (homes : Homes T) → answer ≤ least → (c : Entry T) → EntryHolds claims least pieces homes c → AtMostOwn answer last c
  at_most_own_earlier claims least pieces answer last homes low (Draw j own) f = λ earlier. let a = f.2 in omega arith
  at_most_own_earlier claims least pieces answer last homes low (Finish j piece report before late) f = tt
  at_most_own_earlier claims least pieces answer last homes low (Look before late) f = tt
  at_most_own_earlier claims least pieces answer last homes low NoneLeft f = tt

  at_most_own_finish : (c : Entry T) (k : ℕ) (x : T) (report answer last : ℕ) → AnswersAtMostOwn c (Finish k x report answer last)
  at_most_own_finish (Draw j own) k x report answer last = tt
  at_most_own_finish (Finish j piece a b d) k x report answer last = tt
  at_most_own_finish (Look a b) k x report answer last = tt
  at_most_own_finish NoneLeft k x report answer last = tt

  at_most_own_look : (c : Entry T) (answer last : ℕ) → AnswersAtMostOwn c (Look answer last)
  at_most_own_look (Draw j own) answer last = tt
  at_most_own_look (Finish j piece a b d) answer last = tt
  at_most_own_look (Look a b) answer last = tt
  at_most_own_look NoneLeft answer last = tt

  module _ (turns : ℕ) (given : List T) (claims least : ℕ) (homes : Homes T) (views : List (View T)) (h : Running turns given claims least homes views)
      (id : ℕ) (v : View T) (r : Record T) (at : get_elem? views id ≡ some v) (has : v.records ≡ r ∷ []) where
    abbrev pieces : ℕ
    pieces = length given

    entries_of : Each (EntryHolds claims least pieces homes) r.entries
    entries_of = records_at (λ (x : Record T). Each (EntryHolds claims least pieces homes) x.entries) views id v r h.entries at has

    late_claims : latest pieces r.entries ≤ claims
    late_claims = latest_within claims least pieces claims homes r.entries entries_of (λ all. all) (λ k a b. omega arith)

    late_pieces : latest pieces r.entries ≤ pieces
    late_pieces = latest_within claims least pieces pieces homes r.entries entries_of (λ all. omega arith) (λ k a b. omega arith)

    pub looks_as : Running turns given claims least homes (set views id (after_entry v r (Look least (latest pieces r.entries))))
    looks_as =
        let c : Entry T = Look least (latest pieces r.entries) in
        let w : View T = after_entry v r c in
        let same : (f : Entry T → ℕ) → f c ≡ 0 → count f (set views id w) ≡ count f views = λ f none_more. let more = count_added views id v w r c at has refl f in omega arith in
        let leave = total_set leave_of views id v w at in
        let before = h.room in
        one_more_entry turns given claims least homes views h id v w r c at has refl (EntryHolds claims least pieces homes) h.entries claims least homes
        h.slots
        (λ k. let d = h.drawn k in omega arith)
        (omega arith)
        (λ d f. f)
        (omega arith, late_claims, late_pieces)
        (λ k. let m = records_at FinishesItsDraws views id v r h.finished at has k in let a = total_entry (finishes k) r c in let b = total_entry (draws k) r c in omega arith)
        h.bound
        (⊎_elim inl (λ some_report. inr (let e = same (reports least) refl in omega arith)) h.reported)
        (λ d _. at_most_own_look d least (latest pieces r.entries))
        (at_most_own_earlier claims least pieces least (latest pieces r.entries) homes (omega arith))
        tt
        h.first
        (λ k earlier inside none_finished. h.out k earlier inside (sym (same (finishes k) refl) ∙ none_finished))
        (still_filled given views id v r w h.filled at has refl refl refl) refl

    module _ (k : ℕ) (x : T) (report : ℕ) (held : total (finishes k) r.entries < total (draws k) r.entries) where
      abbrev lower : ℕ
      lower = min least report

      abbrev finish : Entry T
      finish = Finish k x report lower (latest pieces r.entries)

      pub finishes_as : Running turns given claims lower (set homes k (some (Some x))) (set views id (after_entry v r finish))
      finishes_as =
          let w : View T = after_entry v r finish in
          let counted : (f : Entry T → ℕ) → count f (set views id w) ≡ count f views + f finish = count_added views id v w r finish at has refl in
          let gap = finishes_gap k views id v r h.finished at has in
          let drawn = h.drawn k in
          let once = below_at_most_one k (min claims pieces) in
          let inside : k < min claims pieces = below_inside k (min claims pieces) (omega arith) in
          let unfinished : count (finishes k) views ≡ 0 = omega arith in
          let leave = total_set leave_of views id v w at in
          let before = h.room in
          let bound = h.bound in
          let slots = h.slots in
          let other : (j : ℕ) → count (finishes j) (set views id w) ≡ 0 → j ≢ k =
          λ j none_finished same. let e = same_counts k in let e' : one_if_same k j ≡ one_if_same k k = ap (one_if_same k) same in let n = counted (finishes j) in omega arith in
          one_more_entry turns given claims least homes views h id v w r finish at has refl (HoldsOther claims least pieces homes k)
          (entries_both (EntryHolds claims least pieces homes) (λ c. finishes k c ≡ 0) views h.entries (none_counted (finishes k) views unfinished))
          claims lower (set homes k (some (Some x)))
          (length-set homes k (some (Some x)) ∙ h.slots)
          (λ j. let d = h.drawn j in omega arith)
          (omega arith)
          (holds_after_finish claims least lower pieces k homes x (omega arith))
          (omega arith, omega arith, omega arith, late_claims, late_pieces, set_here homes k (some (Some x)) (omega arith))
          (λ j. let m = records_at FinishesItsDraws views id v r h.finished at has j in let a = total_entry (finishes j) r finish in let b = total_entry (draws j) r finish in
          dite (ℕ_discrete k j)
          (λ same. let e : one_if_same k j ≡ one_if_same j j = ap (λ (z : ℕ). one_if_same z j) same in let e' = same_counts j in
          let f : total (finishes k) r.entries ≡ total (finishes j) r.entries = ap (λ (z : ℕ). total (finishes z) r.entries) same in
          let d : total (draws k) r.entries ≡ total (draws j) r.entries = ap (λ (z : ℕ). total (draws z) r.entries) same in omega arith)
          (λ apart. let e = other_counts_not k j apart in omega arith))
          (omega arith)
          (said (dec_lt report least))
          (λ d _. at_most_own_finish d k x report lower (latest pieces r.entries))
          (λ d f. at_most_own_earlier claims least pieces lower (latest pieces r.entries) homes (omega arith) d f.0)
          tt
          (λ j y later e. let apart : j ≢ k = omega arith in set_else homes k j (some (Some x)) apart ∙ h.first j y later e)
          (λ j earlier inside none_finished. let n = counted (finishes j) in
          set_else homes k j (some (Some x)) (other j none_finished) ∙ h.out j earlier inside (omega arith))
          (still_filled given views id v r w h.filled at has refl refl refl) refl
        where
          said : Dec (report < least) → (lower ≡ greatest) ⊎ (0 < count (reports lower) (set views id (after_entry v r finish)))
          said (yes less) =
              let is : lower ≡ report = omega arith in
              let once : one_if_same report lower ≡ 1 = ap (one_if_same report) is ∙ same_counts report in
              let more = count_added views id v (after_entry v r finish) r finish at has refl (reports lower) in
              inr (omega arith)
          said (no not_less) =
              let is : least ≡ lower = omega arith in
              let more = count_added views id v (after_entry v r finish) r finish at has refl (reports lower) in
              ⊎_elim (λ opening. inl (sym is ∙ opening))
              (λ some_report. let old : count (reports least) views ≡ count (reports lower) views = ap (λ (z : ℕ). count (reports z) views) is in inr (omega arith))
              h.reported

  -- the table after a step on word 1
  lowered : (turns : ℕ) (given : List T) (words : List ℕ) (lower : ℕ) (homes : Homes T) (views : List (View T)) → length words ≡ 2 → Running turns given (get_or words 0 0) lower homes views
      → RunningRule turns given record { words = set words 1 lower; homes = homes; views = views }
  lowered turns given words lower homes views two d = (
    length-set words 1 lower ∙ two,
    inr (subst (λ (z : ℕ × ℕ). Running turns given z.0 z.1 homes views) (λ i. (sym (get_or-set_other words 1 0 lower 0 (omega arith)) i, sym (get_or-set_same words 1 lower 0 (omega arith)) i)) d),
  )

  pub look_allowed : (turns : ℕ) (given : List T) (slots id : ℕ) (me : Me (Option T) (View T)) (r : Record T) → me.0.records ≡ r ∷ [] → me.0.filled ≡ slots
      → Allows (RunningRule turns given) slots id me 1 (λ n. n) (Looked (step slots 1 0 0 none) me)
  look_allowed turns given slots id me r has full s (two, phase) wide at small =
      let claims : ℕ = get_or s.words 0 0 in
      let least : ℕ = get_or s.words 1 0 in
      let h = running turns given claims least s.homes s.views id me.0 phase at (full ∙ sym wide) in
      let c : Entry T = Look least (latest (length given) r.entries) in
      let count_is : length given ≡ slots = sym h.slots ∙ wide in (
        after_entry me.0 r c,
        keeps,
        tt,
        lowered turns given s.words least s.homes (set s.views id (after_entry me.0 r c)) two (looks_as turns given claims least s.homes s.views h id me.0 r at has),
        λ q e. subst (λ (p : Record T). IsLook slots me least (after_entry me.0 r c, me.1) p) (first_same r q (sym has ∙ e))
            (ap (λ (m : ℕ). (after_entry me.0 r (Look least (latest m r.entries)), me.1)) count_is, least_of_told claims least (length given) s.homes h.bound r.entries (entries_of turns given claims least s.homes s.views h id me.0 r at has)),
      )

  same_front : (k j : ℕ) (x y : T) (rest others : List (ℕ × Option T)) → (k, Some x) ∷ rest ≡ (j, Some y) ∷ others → (k ≡ j) × (x ≡ y) × (rest ≡ others)
  same_front k j x y rest others e =
      let tail : rest ≡ others = cc in
      let front : (k, Some x) ≡ (j, Some y) = cc in
      (ap (λ (p : ℕ × Option T). p.0) front, same_piece (ap (λ (p : ℕ × Option T). p.1) front), tail)
    where
      same_piece : Some x ≡ Some y → x ≡ y
      same_piece equal = cc

  pub finish_allowed : (turns : ℕ) (given : List T) (slots id : ℕ) (me : Me (Option T) (View T)) (r : Record T) (k : ℕ) (x : T) (rest : List (ℕ × Option T)) (report : ℕ) → me.0.records ≡ r ∷ [] → me.0.filled ≡ slots
      → me.1 ≡ (k, Some x) ∷ rest → total (finishes k) r.entries < total (draws k) r.entries
      → Allows (RunningRule turns given) slots id me 1 (λ n. min n report) (Finished (step slots 1 report 0 none) me)
  finish_allowed turns given slots id me r k x rest report has full holds held s (two, phase) wide at small =
      let claims : ℕ = get_or s.words 0 0 in
      let least : ℕ = get_or s.words 1 0 in
      let h = running turns given claims least s.homes s.views id me.0 phase at (full ∙ sym wide) in
      let c : Entry T = Finish k x report (min least report) (latest (length given) r.entries) in
      let count_is : length given ≡ slots = sym h.slots ∙ wide in
      let w : View T = after_entry me.0 r c in (
        w,
        gives,
        tt,
        subst (λ (carried : List (ℕ × Option T)). RunningRule turns given record { words = set s.words 1 (min least report); homes = put_back s.homes carried; views = set s.views id w }) (sym holds)
            (lowered turns given s.words (min least report) (set s.homes k (some (Some x))) (set s.views id w) two (finishes_as turns given claims least s.homes s.views h id me.0 r at has k x report held)),
        λ q e. subst (λ (p : Record T). IsFinish slots report me least (w, Table.rest me.1) p) (first_same r q (sym has ∙ e))
            (λ j y others is.
            let same = same_front k j x y rest others (sym holds ∙ is) in (
              (λ i. (after_entry me.0 r (Finish (same.0 i) (same.1 i) report (min least report) (latest (count_is i) r.entries)), (ap Table.rest is) i)),
              least_of_told claims least (length given) s.homes h.bound r.entries (entries_of turns given claims least s.homes s.views h id me.0 r at has),
            )),
      )
