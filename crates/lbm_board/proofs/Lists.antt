-- What holds of each element, and sums, as a list changes.
use Rattle.std.proofs.Common.{◌≡◌, ℕ, zero, suc, ◌+◌, ◌≤◌, List, [], ◌∷◌, ◌++◌, set, sym, ap, subst, arith, Some, slice_get}
use mathlib.Core.Option.{some, some-injective, some-ne-none}
use lib.ListN.{get_elem?}
use Rattle.lbm_board.specs.Lists.{Each, total}

module _ {A : Type 0} where
  pub each_map : (P Q : A → Type 0) (xs : List A) → ((x : A) → P x → Q x) → Each P xs → Each Q xs
  each_map P Q [] f h = tt
  each_map P Q (x ∷ xs) f h = (f x h.0, each_map P Q xs f h.1)

  pub each_both : (P Q : A → Type 0) (xs : List A) → Each P xs → Each Q xs → Each (λ x. P x × Q x) xs
  each_both P Q [] g h = tt
  each_both P Q (x ∷ xs) g h = ((g.0, h.0), each_both P Q xs g.1 h.1)

  pub each_at : (P : A → Type 0) (xs : List A) (i : ℕ) (x : A) → Each P xs → get_elem? xs i ≡ some x → P x
  each_at P [] i x h e = absurd (some-ne-none x (sym e))
  each_at P (y ∷ ys) zero x h e = subst P (some-injective y x e) h.0
  each_at P (y ∷ ys) (suc i) x h e = each_at P ys i x h.1 e

  pub each_set : (P : A → Type 0) (xs : List A) (i : ℕ) (w : A) → Each P xs → P w → Each P (set xs i w)
  each_set P [] i w h p = tt
  each_set P (x ∷ xs) zero w h p = (p, h.1)
  each_set P (x ∷ xs) (suc i) w h p = (h.0, each_set P xs i w h.1 p)

  pub each_append : (P : A → Type 0) (xs ys : List A) → Each P xs → Each P ys → Each P (xs ++ ys)
  each_append P [] ys g h = h
  each_append P (x ∷ xs) ys g h = (g.0, each_append P xs ys g.1 h)

  pub total_set : (f : A → ℕ) (xs : List A) (i : ℕ) (x w : A) → get_elem? xs i ≡ some x → total f (set xs i w) + f x ≡ total f xs + f w
  total_set f [] i x w e = absurd (some-ne-none x (sym e))
  total_set f (y ∷ ys) zero x w e = let is : f y ≡ f x = ap f (some-injective y x e) in omega arith
  total_set f (y ∷ ys) (suc i) x w e = let rest = total_set f ys i x w e in omega arith

  pub total_append : (f : A → ℕ) (xs ys : List A) → total f (xs ++ ys) ≡ total f xs + total f ys
  total_append f [] ys = omega arith
  total_append f (x ∷ xs) ys = let rest = total_append f xs ys in omega arith

  -- one element has no more than the sum
  pub total_at : (f : A → ℕ) (xs : List A) (i : ℕ) (x : A) → get_elem? xs i ≡ some x → f x ≤ total f xs
  total_at f [] i x e = absurd (some-ne-none x (sym e))
  total_at f (y ∷ ys) zero x e = let is : f y ≡ f x = ap f (some-injective y x e) in omega arith
  total_at f (y ∷ ys) (suc i) x e = let rest = total_at f ys i x e in omega arith

  pub total_less : (f g : A → ℕ) (xs : List A) → Each (λ y. f y ≤ g y) xs → total f xs ≤ total g xs
  total_less f g [] h = omega arith
  total_less f g (y ∷ ys) h = let rest = total_less f g ys h.1 in let here = h.0 in omega arith

  -- where g is at least f everywhere, it is more by as much in one element as it is more in all
  pub total_gap : (f g : A → ℕ) (xs : List A) (i : ℕ) (x : A) → Each (λ y. f y ≤ g y) xs → get_elem? xs i ≡ some x → total f xs + g x ≤ total g xs + f x
  total_gap f g [] i x h e = absurd (some-ne-none x (sym e))
  total_gap f g (y ∷ ys) zero x h e =
      let a : f y ≡ f x = ap f (some-injective y x e) in
      let b : g y ≡ g x = ap g (some-injective y x e) in
      let rest = total_less f g ys h.1 in omega arith
  total_gap f g (y ∷ ys) (suc i) x h e = let rest = total_gap f g ys i x h.1 e in let here = h.0 in omega arith

  pub total_none : (f : A → ℕ) (xs : List A) → total f xs ≡ 0 → Each (λ y. f y ≡ 0) xs
  total_none f [] e = tt
  total_none f (y ∷ ys) e = (omega arith, total_none f ys (omega arith))

  pub each_front : (P : A → Type 0) (xs ys : List A) → Each P (xs ++ ys) → Each P xs
  each_front P [] ys h = tt
  each_front P (x ∷ xs) ys h = (h.0, each_front P xs ys h.1)

  pub each_back : (P : A → Type 0) (xs ys : List A) → Each P (xs ++ ys) → Each P ys
  each_back P [] ys h = h
  each_back P (x ∷ xs) ys h = each_back P xs ys h.1

  -- all of the sum is in one element
  pub each_set_alone : (f : A → ℕ) (P : A → Type 0) (xs : List A) (i : ℕ) (x w : A) → get_elem? xs i ≡ some x → total f xs ≤ f x → ((y : A) → f y ≡ 0 → P y) → P w → Each P (set xs i w)
  each_set_alone f P [] i x w e all none_there p = tt
  each_set_alone f P (y ∷ ys) zero x w e all none_there p =
      let is : f y ≡ f x = ap f (some-injective y x e) in
      (p, each_map (λ z. f z ≡ 0) P ys none_there (total_none f ys (omega arith)))
  each_set_alone f P (y ∷ ys) (suc i) x w e all none_there p =
      let there = total_at f ys i x e in
      (none_there y (omega arith), each_set_alone f P ys i x w e (omega arith) none_there p)

  -- an element that is at a place, by either of two words
  pub slice_from_place : (xs : List A) (i : ℕ) (x : A) → get_elem? xs i ≡ some x → slice_get xs i ≡ Some x
  slice_from_place [] i x e = absurd (some-ne-none x (sym e))
  slice_from_place (y ∷ ys) zero x e = ap Some (some-injective y x e)
  slice_from_place (y ∷ ys) (suc i) x e = slice_from_place ys i x e

  pub place_from_slice : (xs : List A) (i : ℕ) (x : A) → slice_get xs i ≡ Some x → get_elem? xs i ≡ some x
  place_from_slice [] i x e = cc
  place_from_slice (y ∷ ys) zero x e = let same : y ≡ x = cc in ap some same
  place_from_slice (y ∷ ys) (suc i) x e = place_from_slice ys i x e
