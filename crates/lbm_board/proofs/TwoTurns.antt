-- Two turns are compared: their views are joined, seen to be apart, and parted again. Each step keeps the rule.
use Rattle.std.proofs.Common.{◌≡◌, ℕ, zero, suc, ◌+◌, ◌-◌, ◌<◌, ◌≤◌, min, inr, List, [], ◌∷◌, ◌++◌, drop, length, get_or, set, sym, ap, refl, subst, ◌∙◌, arith, Option}
use mathlib.Core.Option.{some, none}
use lib.ListN.{get_elem?}
use Rattle.atomic_table.specs.Table.{Me, step, keeps, Allows, Splits, Joins}
use Rattle.atomic_table.proofs.Lists.{set_else, set_again}
use Rattle.lbm_board.specs.declared.record.Record.{Record}
use Rattle.lbm_board.specs.declared.record.View.{View}
use Rattle.lbm_board.specs.Lists.{Each, total}
use Rattle.lbm_board.specs.Entries.{one_if_same, draws, nones, only}
use Rattle.lbm_board.specs.BoardRecord.{in_record, AreApart}
use Rattle.lbm_board.specs.RunningRule.{EachRecord, in_view, in_views, of_turn, each_one, leave_of, HasFilled, CountsTurns, Running, RunningRule}
use Rattle.lbm_board.specs.Steps.{Compared, may_end, without_first, first_alone, joined, spent, IsLive, IsSameTurn}
use Rattle.lbm_board.proofs.Lists.{each_map, each_at, each_set, each_append, total_set, total_append, total_at}
use Rattle.lbm_board.proofs.Counts.{same_counts, below_at_most_one}
use Rattle.lbm_board.proofs.Phases.{running}
use Rattle.lbm_board.proofs.OneMoreEntry.{Homes}
use Rattle.lbm_board.proofs.Filling.{loaded}
use Rattle.lbm_board.proofs.SplitAndJoin.{regrouped, running_of}

enough : (n m : ℕ) → (n ≡ 0 → 0 < m) → 1 - n ≤ m
enough zero m if_none = let a = if_none refl in omega arith
enough (suc n) m if_none = omega arith

module _ {T : Type 0} where
  -- two records in one view are apart
  apart_in : (turns : ℕ) (given : List T) (claims least : ℕ) (homes : Homes T) (views : List (View T)) → Running turns given claims least homes views
      → (id : ℕ) (v : View T) (one two : Record T) → get_elem? views id ≡ some v → v.records ≡ two ∷ one ∷ [] → AreApart one two
  apart_in turns given claims least homes views h id v one two at has =
      let both : (f : Record T → ℕ) → f two + f one ≤ in_views f views = λ f.
      let a = total_at (in_view f) views id v at in let b : in_view f v ≡ f two + (f one + 0) = ap (total f) has in omega arith in
      let drawn : (k : ℕ) → total (draws k) two.entries + total (draws k) one.entries ≤ 1 = λ k.
      let a = both (in_record (draws k)) in let d = h.drawn k in let e = below_at_most_one k (min claims (length given)) in omega arith in record {
        turns = λ same.
            let a = both (of_turn two.turn) in
            let b = h.apart two.turn in
            let c = same_counts two.turn in
            let d : one_if_same one.turn two.turn ≡ one_if_same two.turn two.turn = ap (λ (t : ℕ). one_if_same t two.turn) same in omega arith;
        drawn = λ k some_draw. let a = drawn k in omega arith;
        held = λ k holds holds'. let a = drawn k in omega arith;
      }

  pub compare_allowed : (turns : ℕ) (given : List T) (slots id : ℕ) (me : Me (Option T) (View T)) → me.0.filled ≡ slots
      → Allows (RunningRule turns given) slots id me 0 (λ n. n) (Compared (step slots 0 0 0 none) me)
  compare_allowed turns given slots id me full s (two, phase) wide at small =
      let claims : ℕ = get_or s.words 0 0 in
      let least : ℕ = get_or s.words 1 0 in
      let h = running turns given claims least s.homes s.views id me.0 phase at (full ∙ sym wide) in (
        me.0,
        keeps,
        tt,
        subst (λ (views : List (View T)). RunningRule turns given record { words = set s.words 0 claims; homes = s.homes; views = views }) (sym (set_again s.views id me.0 at))
            (loaded turns given s.words s.homes s.views two phase),
        (refl, λ first second has. apart_in turns given claims least s.homes s.views h id me.0 first second at has),
      )

  -- a new seat gets the first turn of a view
  pub part_allowed : (turns : ℕ) (given : List T) (id : ℕ) (u : View T) (r : Record T) (rs : List (Record T)) → u.records ≡ r ∷ rs → u.filled ≡ length given → may_end (only u.records) ≤ u.leave
      → Splits (RunningRule turns given) id u (without_first u) (first_alone u)
  part_allowed turns given id u r rs has filled enough s (two, phase) at =
      let h = running_of turns given s id u phase at filled in
      let left : View T = without_first u in
      let right : View T = first_alone u in
      let cut : List (View T) = set s.views id left in
      let after : List (View T) = cut ++ right ∷ [] in
      let rest : left.records ≡ rs = ap (λ (xs : List (Record T)). drop 1 xs) has in
      let first : right.records ≡ r ∷ [] = ap (λ (xs : List (Record T)). only xs ∷ []) has in
      let grow : (Q : Record T → Type 0) → EachRecord Q s.views → Each Q [] → EachRecord Q after = λ Q all _.
      let E : View T → Type 0 = λ v. Each Q v.records in
      let own : Each Q (r ∷ rs) = subst (Each Q) has (each_at E s.views id u all at) in
      each_append E cut (right ∷ []) (each_set E s.views id left all (subst (Each Q) (sym rest) own.1)) (subst (Each Q) (sym first) (own.0, tt), tt) in
      let parts : (f : Record T → ℕ) → in_view f left + in_view f right ≡ in_view f u = λ f.
      let a : in_view f u ≡ f r + total f rs = ap (total f) has in
      let b : in_view f left ≡ total f rs = ap (total f) rest in
      let c : in_view f right ≡ f r + 0 = ap (total f) first in omega arith in
      let moved : (f : View T → ℕ) → f left + f right ≡ f u → total f after ≡ total f s.views = λ f same.
      let a = total_append f cut (right ∷ []) in let b = total_set f s.views id u left at in omega arith in
      let sum : (f : Record T → ℕ) → in_views f after ≡ in_views f s.views + total f [] = λ f. let a = moved (in_view f) (parts f) in omega arith in
      let own_filled = each_at (HasFilled given) s.views id u h.filled at (let a = ap length has in omega arith) in
      let Was : View T → Type 0 = CountsTurns s.views in
      let Now : View T → Type 0 = CountsTurns after in
      let Few : View T → Type 0 = λ v. v.made ≤ turns in
      let few = each_at Few s.views id u h.most_made at in
      let later : (m : ℕ) → EachRecord (λ q. q.turn < m) s.views × (in_views each_one s.views ≤ m) → EachRecord (λ q. q.turn < m) after × (in_views each_one after ≤ m) = λ m known. (
        grow (λ q. q.turn < m) known.0 tt,
        (let a = known.1 in let c = sum each_one in omega arith),
      ) in
      let own_turns = each_at Was s.views id u h.made at in
      let zeros = parts (of_turn 0) in
      let left_turns : Now left = λ has_first. later u.made (own_turns (omega arith)) in
      let right_turns : Now right = λ has_first. later u.made (own_turns (omega arith)) in (
        two,
        inr (regrouped turns given (get_or s.words 0 0) (get_or s.words 1 0) s.homes s.views after h [] tt grow sum
            (let a = moved leave_of (omega arith) in omega arith)
            (each_append (HasFilled given) cut (right ∷ []) (each_set (HasFilled given) s.views id left h.filled (λ _. own_filled)) ((λ _. own_filled), tt))
            (λ turn. let a = sum (of_turn turn) in let c = h.apart turn in omega arith)
            (let a = sum each_one in let c = h.few in omega arith)
            (each_append Now cut (right ∷ []) (each_set Now s.views id left (each_map Was Now s.views (λ v known has_first. later v.made (known has_first)) h.made) left_turns) (right_turns, tt))
            (each_append Few cut (right ∷ []) (each_set Few s.views id left h.most_made few) (few, tt))),
      )

  -- a seat without a record takes over the view of another
  pub take_over_allowed : (turns : ℕ) (given : List T) (id other : ℕ) (w : View T) → w.filled ≡ length given → Joins (RunningRule turns given) id spent other w w spent
  take_over_allowed turns given id other w filled s (two, phase) at apart at' =
      let first_set : List (View T) = set s.views id w in
      let after : List (View T) = set first_set other spent in
      let was : get_elem? s.views other ≡ some w = sym (set_else s.views id other w apart) ∙ at' in
      let h = running_of turns given s other w phase was filled in
      let grow : (Q : Record T → Type 0) → EachRecord Q s.views → Each Q [] → EachRecord Q after = λ Q all _.
      let E : View T → Type 0 = λ v. Each Q v.records in
      each_set E first_set other spent (each_set E s.views id w all (each_at E s.views other w all was)) tt in
      let moved : (f : View T → ℕ) → f spent ≡ 0 → total f after ≡ total f s.views = λ f none_left.
      let a = total_set f s.views id spent w at in let c = total_set f first_set other w spent at' in omega arith in
      let sum : (f : Record T → ℕ) → in_views f after ≡ in_views f s.views + total f [] = λ f. let a = moved (in_view f) refl in omega arith in
      let Was : View T → Type 0 = CountsTurns s.views in
      let Now : View T → Type 0 = CountsTurns after in
      let Few : View T → Type 0 = λ v. v.made ≤ turns in
      let keep : (v : View T) → Was v → Now v = λ v known has_first.
      let now = known has_first in (grow (λ q. q.turn < v.made) now.0 tt, (let a = now.1 in let c = sum each_one in omega arith)) in (
        two,
        inr (regrouped turns given (get_or s.words 0 0) (get_or s.words 1 0) s.homes s.views after h [] tt grow sum
            (let a = moved leave_of refl in omega arith)
            (each_set (HasFilled given) first_set other spent (each_set (HasFilled given) s.views id w h.filled (each_at (HasFilled given) s.views other w h.filled was)) (λ some_left. absurd (omega arith)))
            (λ turn. let a = sum (of_turn turn) in let c = h.apart turn in omega arith)
            (let a = sum each_one in let c = h.few in omega arith)
            (each_set Now first_set other spent (each_set Now s.views id w (each_map Was Now s.views keep h.made) (keep w (each_at Was s.views other w h.made was))) (λ some_left. absurd (omega arith)))
            (each_set Few first_set other spent (each_set Few s.views id w h.most_made (each_at Few s.views other w h.most_made was)) (omega arith))),
      )

  -- the view u of a turn that has taken in another, and what is parted again
  module _ (slots : ℕ) (v w u : View T) (live_v : IsLive slots v) (live_w : IsLive slots w) (is : u ≡ joined v w) where
    pub both_records : u.records ≡ only w.records ∷ only v.records ∷ []
    both_records = ap (λ (x : View T). x.records) is ∙ (λ i. live_w.alone i ++ live_v.alone i)

    pub both_filled : u.filled ≡ slots
    both_filled = ap (λ (x : View T). x.filled) is ∙ live_v.filled

    sum_leave : u.leave ≡ v.leave + w.leave
    sum_leave = ap (λ (x : View T). x.leave) is

    first_leave : may_end (only u.records) ≤ w.leave
    first_leave = subst (λ (r : Record T). may_end r ≤ w.leave) (sym (ap (λ (rs : List (Record T)). only rs) both_records)) (enough (total nones (only w.records).entries) w.leave live_w.leaves)

    pub both_leave : may_end (only u.records) ≤ u.leave
    both_leave = let a = sum_leave in let b = first_leave in omega arith

    pub left_same : IsSameTurn v (without_first u)
    left_same = record {
      records = ap (λ (rs : List (Record T)). drop 1 rs) both_records ∙ sym live_v.alone;
      filled = ap (λ (x : View T). x.filled) is;
      given = ap (λ (x : View T). x.given) is;
      leaves = λ none_told. let a = sum_leave in let b = first_leave in let d = live_v.leaves none_told in omega arith;
    }

    pub right_same : w.given ≡ v.given → IsSameTurn w (first_alone u)
    right_same given = record {
      records = ap (λ (rs : List (Record T)). only rs ∷ []) both_records ∙ sym live_w.alone;
      filled = both_filled ∙ sym live_w.filled;
      given = ap (λ (x : View T). x.given) is ∙ sym given;
      leaves = λ none_told. let a : total nones (only u.records).entries ≡ total nones (only w.records).entries = ap (λ (rs : List (Record T)). total nones (only rs).entries) both_records in omega arith;
    }
