-- The two phases of the rule.
use Rattle.std.proofs.Common.{◌≡◌, ℕ, zero, suc, ◌+◌, ◌<◌, ◌≤◌, inl, inr, false, List, [], ◌∷◌, length, sym, ap, refl, subst, arith, Some}
use mathlib.Core.Logic.{dite}
use mathlib.Core.Option.{some, some-injective, some-ne-none}
use native.Mathlib.Decide.{ℕ_discrete}
use lib.ListN.{get_elem?}
use Rattle.lbm_board.specs.declared.record.View.{View}
use Rattle.lbm_board.specs.Entries.{greatest, one_if_same}
use Rattle.lbm_board.specs.RunningRule.{opening_view, Running, Phase}
use Rattle.lbm_board.proofs.Counts.{same_counts, other_counts_not, below_zero}
use Rattle.lbm_board.proofs.OneMoreEntry.{Homes}

module _ {T : Type 0} where
  pub only_view : (u v : View T) (id : ℕ) → get_elem? (u ∷ []) id ≡ some v → (id ≡ 0) × (u ≡ v)
  only_view u v zero e = (refl, some-injective u v e)
  only_view u v (suc id) e = absurd (some-ne-none v (sym e))

  -- a view that has filled all slots is there only once the board runs
  pub running : (turns : ℕ) (given : List T) (claims least : ℕ) (homes : Homes T) (views : List (View T)) (id : ℕ) (v : View T) → Phase turns given claims least homes views → get_elem? views id ≡ some v → v.filled ≡ length homes
      → Running turns given claims least homes views
  running turns given claims least homes views id v (inr h) at full = h
  running turns given claims least homes views id v (inl h) at full =
      let u : View T = opening_view turns given h.filled h.filling in
      let is = only_view u v id (subst (λ (l : List (View T)). get_elem? l id ≡ some v) h.alone at) in
      let same : h.filled ≡ v.filled = ap (λ (w : View T). w.filled) is.1 in
      let a = h.some_left in
      let b = h.slots in
      absurd (omega arith)

  -- all slots have their first pieces, and nothing was claimed
  pub filled_all : (turns : ℕ) (given : List T) (homes : Homes T) → length homes ≡ length given → 0 < turns → length given + turns < greatest
      → ((k : ℕ) (x : T) → k < length given → get_elem? given k ≡ some x → get_elem? homes k ≡ some (some (Some x)))
      → Running turns given 0 greatest homes (opening_view turns given (length given) false ∷ [])
  filled_all turns given homes slots some_turn small full = record {
    slots = slots;
    drawn = λ k. below_zero k (length given);
    room = omega arith;
    entries = ((tt, tt), tt);
    finished = (((λ k. omega arith), tt), tt);
    bound = omega arith;
    reported = inl refl;
    at_most_own = ((tt, tt), tt);
    first = λ k x later e. full k x (inside given k x e) e;
    out = λ k earlier. absurd (omega arith);
    filled = ((λ _. (refl, refl, refl)), tt);
    apart = λ turn. one_at_most 0 turn;
    few = omega arith;
    made = ((λ _. (((omega arith, tt), tt), omega arith)), tt);
    most_made = (omega arith, tt);
    small = small;
  } where
    inside : (xs : List T) (k : ℕ) (x : T) → get_elem? xs k ≡ some x → k < length xs
    inside [] k x e = absurd (some-ne-none x (sym e))
    inside (y ∷ ys) zero x e = omega arith
    inside (y ∷ ys) (suc k) x e = let rest = inside ys k x e in omega arith

    one_at_most : (n k : ℕ) → one_if_same n k + 0 + 0 ≤ 1
    one_at_most n k = dite (ℕ_discrete n k) (λ e. let a = same_counts k in let b : one_if_same n k ≡ one_if_same k k = ap (λ (z : ℕ). one_if_same z k) e in omega arith) (λ e. let a = other_counts_not n k e in omega arith)
