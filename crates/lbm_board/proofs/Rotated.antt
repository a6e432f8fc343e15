-- A list whose first elements go behind the others.
use Rattle.std.proofs.Common.{◌≡◌, ℕ, zero, suc, ◌+◌, ◌<◌, ◌≤◌, List, [], ◌∷◌, ◌++◌, map, length, take, drop, Some, slice_get, sym, ap, refl, ◌∙◌, arith, append_assoc, add-one, ◌-◌}
use mathlib.Core.List.{map-append}
use Rattle.std.specs.List.{remove}
use Rattle.atomic_table.specs.Table.{turned}
use Rattle.lbm_board.specs.Fields.{rotated}

-- the first element and the rest, from a place on
pub from_place : {A : Type 0} (xs : List A) (n : ℕ) (x : A) → slice_get xs n ≡ Some x → drop n xs ≡ x ∷ drop (suc n) xs
from_place [] n x e = cc
from_place (y ∷ ys) zero x e = let same : y ≡ x = cc in ap (λ z. z ∷ ys) same
from_place (y ∷ ys) (suc n) x e = from_place ys n x e

some_at : {A : Type 0} (xs : List A) (n : ℕ) → n < length xs → (x : A) × (slice_get xs n ≡ Some x)
some_at [] n inside = absurd (omega arith)
some_at (x ∷ xs) zero inside = (x, refl)
some_at (x ∷ xs) (suc n) inside = some_at xs n (omega arith)

one_more : {A : Type 0} (xs : List A) (n : ℕ) (x : A) → slice_get xs n ≡ Some x → take (suc n) xs ≡ take n xs ++ x ∷ []
one_more [] n x e = cc
one_more (y ∷ ys) zero x e = let same : y ≡ x = cc in ap (λ z. z ∷ []) same
one_more (y ∷ ys) (suc n) x e = ap (λ zs. y ∷ zs) (one_more ys n x e)

pub rotated_more : {S : Type 0} (xs : List (ℕ × S)) (n : ℕ) → n < length xs → turned (rotated n xs) ≡ rotated (n + 1) xs
rotated_more {S} xs n inside =
    let here = some_at xs n inside in
    let x : ℕ × S = here.0 in
    ap (λ ys. turned (ys ++ take n xs)) (from_place xs n x here.1)
    ∙ append_assoc (drop (suc n) xs) (take n xs) (x ∷ [])
    ∙ ap (λ ys. drop (suc n) xs ++ ys) (sym (one_more xs n x here.1))
    ∙ ap (λ k. rotated k xs) (sym (add-one n))

take-map : {A B : Type 0} (f : A → B) (xs : List A) (n : ℕ) → take n (map f xs) ≡ map f (take n xs)
take-map f xs zero = refl
take-map f [] (suc n) = refl
take-map f (x ∷ xs) (suc n) = ap (λ ys. f x ∷ ys) (take-map f xs n)

drop-map : {A B : Type 0} (f : A → B) (xs : List A) (n : ℕ) → drop n (map f xs) ≡ map f (drop n xs)
drop-map f xs zero = refl
drop-map f [] (suc n) = refl
drop-map f (x ∷ xs) (suc n) = drop-map f xs n

-- with the element at this place in front, the others are those after it and then those before it
pub front_at : {A B : Type 0} (f : A → B) (xs : List A) (n : ℕ) (x : A) → slice_get xs n ≡ Some x → rotated n (map f xs) ≡ f x ∷ (map f (drop (suc n) xs) ++ map f (take n xs))
front_at f xs n x e =
    ap (λ ys. ys ++ take n (map f xs)) (drop-map f xs n ∙ ap (map f) (from_place xs n x e))
    ∙ ap (λ ys. f x ∷ (map f (drop (suc n) xs) ++ ys)) (take-map f xs n)

drop-front : {A : Type 0} (xs ys : List A) → drop (length xs) (xs ++ ys) ≡ ys
drop-front [] ys = refl
drop-front (x ∷ xs) ys = drop-front xs ys

take-front : {A : Type 0} (xs ys : List A) → take (length xs) (xs ++ ys) ≡ xs
take-front [] ys = refl
take-front (x ∷ xs) ys = ap (λ zs. x ∷ zs) (take-front xs ys)

pub rotated-front : {A : Type 0} (xs ys : List A) → rotated (length xs) (xs ++ ys) ≡ ys ++ xs
rotated-front xs ys = ap (λ zs. zs ++ take (length xs) (xs ++ ys)) (drop-front xs ys) ∙ ap (λ zs. ys ++ zs) (take-front xs ys)

pub length-mapped : {A B : Type 0} (f : A → B) (xs : List A) → length (map f xs) ≡ length xs
length-mapped f [] = refl
length-mapped f (x ∷ xs) = ap suc (length-mapped f xs)

-- how many stand after a place
pub length_after : {A : Type 0} (xs : List A) (n : ℕ) (x : A) → slice_get xs n ≡ Some x → length (remove xs n) - n ≡ length (drop (suc n) xs)
length_after [] n x e = cc
length_after (y ∷ ys) zero x e = omega arith
length_after (y ∷ ys) (suc n) x e = let rest = length_after ys n x e in let long = place_inside ys n x e in omega arith where
  place_inside : {A : Type 0} (zs : List A) (m : ℕ) (z : A) → slice_get zs m ≡ Some z → m ≤ length (remove zs m)
  place_inside [] m z e = cc
  place_inside (w ∷ ws) zero z e = omega arith
  place_inside (w ∷ ws) (suc m) z e = let rest = place_inside ws m z e in omega arith

-- turned back, the others are in their order
pub turned_back : {A B : Type 0} (f : A → B) (xs : List A) (n : ℕ) (x : A) → slice_get xs n ≡ Some x → rotated (length (remove xs n) - n) (map f (drop (suc n) xs) ++ map f (take n xs)) ≡ map f (remove xs n)
turned_back f xs n x e =
    let a : List _ = map f (drop (suc n) xs) in
    let b : List _ = map f (take n xs) in
    ap (λ k. rotated k (a ++ b)) (length_after xs n x e ∙ sym (length-mapped f (drop (suc n) xs)))
    ∙ rotated-front a b
    ∙ sym (map-append f (take n xs) (drop (suc n) xs))
