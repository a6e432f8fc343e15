-- The first place at which a list passes a test.
use Rattle.std.proofs.Common.{◌≡◌, ℕ, zero, suc, ◌+◌, ◌≤◌, ◌<◌, Bool, true, false, not, cond, ltb, List, [], ◌∷◌, map, length, get_or, Some, None, refl, ap, sym, ◌∙◌, arith, inl, inr}
use Rattle.std.specs.List.{position, prefix_len, list_any}
use Rattle.std.proofs.lemmas.Bool.{cases_order, cases_Bool, both_ways, lt-ltb, ltb-true, ltb-false, not-true, not-false, not_from_true, cond-true, cond-false, or_from, or_right, or_left}
use Rattle.std.proofs.lemmas.Option.{none-some}
use Rattle.std.proofs.lemmas.List.{length-map}
use Rattle.std.proofs.lemmas.List.Sums.{prefix_len_passes, prefix_len_stops}
use Rattle.std.proofs.lemmas.List.Quantifiers.{position-Some}

prefix_len-map : {X Y : Type 0} (q : Y → Bool) (f : X → Y) (xs : List X) → prefix_len q (map f xs) ≡ prefix_len (λ x. q (f x)) xs
prefix_len-map q f [] = refl
prefix_len-map q f (x ∷ xs) = ap (λ n. cond (q (f x)) (1 + n) 0) (prefix_len-map q f xs)

pub position-map : {X Y : Type 0} (p : Y → Bool) (f : X → Y) (xs : List X) → position p (map f xs) ≡ position (λ x. p (f x)) xs
position-map p f xs = rw (prefix_len-map (λ y. not (p y)) f xs, length-map xs f) refl

-- how many places come before the first one that passes
prefix_len_first : {X : Type 0} (p : X → Bool) (xs : List X) (i : ℕ) (d : X) → i < length xs → p (get_or xs i d) ≡ true → ((k : ℕ) → k < i → p (get_or xs k d) ≡ false)
    → prefix_len (λ x. not (p x)) xs ≡ i
prefix_len_first p xs i d within here before = elim (cases_order (prefix_len (λ x. not (p x)) xs) i) [
  | inl same ↦ same
  | inr (inl less) ↦ (let inside : prefix_len (λ x. not (p x)) xs < length xs = omega arith in
      absurd (both_ways _ (before _ less) (not-false _ (prefix_len_stops (λ x. not (p x)) xs d inside))))
  | inr (inr more) ↦ absurd (both_ways _ (not_from_true _ here) (prefix_len_passes (λ x. not (p x)) xs i d more))
]

pub position_first : {X : Type 0} (p : X → Bool) (xs : List X) (i : ℕ) (d : X) → i < length xs → p (get_or xs i d) ≡ true → ((k : ℕ) → k < i → p (get_or xs k d) ≡ false)
    → position p xs ≡ Some i
position_first p xs i d within here before = rw (prefix_len_first p xs i d within here before) (cond-true _ _ _ (lt-ltb _ _ within))

-- where there is none, all places fail
prefix_len_whole : {X : Type 0} (p : X → Bool) (xs : List X) → position p xs ≡ None → length xs ≤ prefix_len (λ x. not (p x)) xs
prefix_len_whole p xs none = elim (cases_Bool (ltb (prefix_len (λ x. not (p x)) xs) (length xs))) [
  | inl inside ↦ absurd (none-some _ (sym none ∙ cond-true _ _ _ inside))
  | inr past ↦ ltb-false _ _ past
]

pub position_none_at : {X : Type 0} (p : X → Bool) (xs : List X) → position p xs ≡ None → (k : ℕ) (d : X) → k < length xs → p (get_or xs k d) ≡ false
position_none_at p xs none k d within =
    let whole : length xs ≤ prefix_len (λ x. not (p x)) xs = prefix_len_whole p xs none in
    let inside : k < prefix_len (λ x. not (p x)) xs = omega arith in
    not-true _ (prefix_len_passes (λ x. not (p x)) xs k d inside)

pub position_none : {X : Type 0} (p : X → Bool) (xs : List X) (d : X) → ((k : ℕ) → k < length xs → p (get_or xs k d) ≡ false) → position p xs ≡ None
position_none p xs d none = elim (cases_Bool (ltb (prefix_len (λ x. not (p x)) xs) (length xs))) [
  | inl inside ↦ absurd (both_ways _ (none _ (ltb-true _ _ inside)) (not-false _ (prefix_len_stops (λ x. not (p x)) xs d (ltb-true _ _ inside))))
  | inr past ↦ cond-false _ _ _ past
]

-- some place passes exactly where there is a first one
pub any_at : {X : Type 0} (p : X → Bool) (xs : List X) (i : ℕ) (d : X) → i < length xs → p (get_or xs i d) ≡ true → list_any p xs ≡ true
any_at p [] i d within here = absurd (omega arith)
any_at p (x ∷ xs) zero d within here = or_left _ _ here
any_at p (x ∷ xs) (suc i) d within here = or_right _ _ (any_at p xs i d (omega arith) here)

pub any_none : {X : Type 0} (p : X → Bool) (xs : List X) (d : X) → ((k : ℕ) → k < length xs → p (get_or xs k d) ≡ false) → list_any p xs ≡ false
any_none p [] d none = refl
any_none p (x ∷ xs) d none = or_from _ _ (none 0 (omega arith)) (any_none p xs d (λ k within. none (suc k) (omega arith)))

pub list_any-position : {X : Type 0} (p : X → Bool) (xs : List X) (i : ℕ) → position p xs ≡ Some i → list_any p xs ≡ true
list_any-position p [] i found = absurd (none-some _ found)
list_any-position p (x ∷ xs) i found = let (within, here, before) = position-Some p (x ∷ xs) i x found in any_at p (x ∷ xs) i x within here

pub list_any-nowhere : {X : Type 0} (p : X → Bool) (xs : List X) → position p xs ≡ None → list_any p xs ≡ false
list_any-nowhere p [] none = refl
list_any-nowhere p (x ∷ xs) none = any_none p (x ∷ xs) x (λ k within. position_none_at p (x ∷ xs) none k x within)

-- a place in a list is below its length
pub position-within : {X : Type 0} (p : X → Bool) (xs : List X) (i : ℕ) → position p xs ≡ Some i → i < length xs
position-within p [] i found = absurd (none-some _ found)
position-within p (x ∷ xs) i found = (position-Some p (x ∷ xs) i x found).0
