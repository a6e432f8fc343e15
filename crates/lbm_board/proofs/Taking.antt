-- Elements that are taken one after another.
use Rattle.std.proofs.Common.{◌≡◌, ◌≢◌, ℕ, zero, suc, ◌+◌, ◌<◌, Bool, false, cond, List, [], ◌∷◌, ◌++◌, length, get_or, set, take, Option, Some, None, slice_get, sym, ap, refl, ◌∙◌, arith, add-one}
use mathlib.Core.Logic.{dite}
use mathlib.Core.Option.{some, some-injective, some-ne-none}
use native.Mathlib.Decide.{ℕ_discrete}
use lib.ListN.{get_elem?}
use Rattle.lbm_board.specs.Closing.{without}

cleared : (fs : List Bool) (i : ℕ) → get_or (set fs i false) i false ≡ false
cleared [] i = refl
cleared (b ∷ bs) zero = refl
cleared (b ∷ bs) (suc i) = cleared bs i

-- another flag stays
pub kept : (fs : List Bool) (i k : ℕ) → k ≢ i → get_or (set fs i false) k false ≡ get_or fs k false
kept [] i k other = refl
kept (b ∷ bs) zero zero other = absurd (other refl)
kept (b ∷ bs) zero (suc k) other = refl
kept (b ∷ bs) (suc i) zero other = refl
kept (b ∷ bs) (suc i) (suc k) other = kept bs i k (λ e. other (ap suc e))

-- one more flag is cleared
pub cleared_below : (fs : List Bool) (i k : ℕ) → ((j : ℕ) → j < i → get_or fs j false ≡ false) → k < i + 1 → get_or (set fs i false) k false ≡ false
cleared_below fs i k before below = dite (ℕ_discrete k i) (λ here. ap (λ (j : ℕ). get_or (set fs i false) j false) here ∙ cleared fs i) (λ other. kept fs i k other ∙ before k (omega arith))

module _ {T : Type 0} where
  pub length-without : (bs : List Bool) (xs : List (Option T)) → length bs ≡ length xs → length (without bs xs) ≡ length xs
  length-without [] [] e = refl
  length-without [] (x ∷ xs) e = absurd (omega arith)
  length-without (b ∷ bs) [] e = absurd (omega arith)
  length-without (b ∷ bs) (x ∷ xs) e = let rest = length-without bs xs (omega arith) in omega arith

  -- one more slot is taken
  pub one_more_taken : (bs : List Bool) (xs : List (Option T)) (i : ℕ) (x : Option T) → length bs ≡ length xs → get_elem? xs i ≡ some x
      → take (i + 1) (without bs xs) ≡ take i (without bs xs) ++ cond (get_or bs i false) None x ∷ []
  one_more_taken bs xs i x long e = ap (λ (k : ℕ). take k (without bs xs)) (add-one i) ∙ next bs xs i long e where
    next : (cs : List Bool) (ys : List (Option T)) (k : ℕ) → length cs ≡ length ys → get_elem? ys k ≡ some x → take (suc k) (without cs ys) ≡ take k (without cs ys) ++ cond (get_or cs k false) None x ∷ []
    next [] [] k long e = absurd (some-ne-none x (sym e))
    next [] (y ∷ ys) k long e = absurd (omega arith)
    next (c ∷ cs) [] k long e = absurd (some-ne-none x (sym e))
    next (c ∷ cs) (y ∷ ys) zero long e = λ j. cond c None (some-injective y x e j) ∷ []
    next (c ∷ cs) (y ∷ ys) (suc k) long e = ap (λ l. cond c None y ∷ l) (next cs ys k (omega arith) e)

  -- what stands at a place
  pub without_at : (bs : List Bool) (xs : List (Option T)) (i : ℕ) (b : Bool) (x : Option T) → slice_get bs i ≡ Some b → slice_get xs i ≡ Some x → slice_get (without bs xs) i ≡ Some (cond b None x)
  without_at [] xs i b x e f = cc
  without_at (c ∷ cs) [] i b x e f = cc
  without_at (c ∷ cs) (y ∷ ys) zero b x e f = let a : c ≡ b = cc in let d : y ≡ x = cc in λ j. Some (cond (a j) None (d j))
  without_at (c ∷ cs) (y ∷ ys) (suc i) b x e f = without_at cs ys i b x e f
