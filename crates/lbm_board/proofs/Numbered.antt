-- Elements that are made by their number.
use Rattle.std.proofs.Common.{◌≡◌, ℕ, zero, suc, ◌+◌, ◌-◌, ◌<◌, List, [], ◌∷◌, ◌++◌, length, take, drop, Some, slice_get, sym, ap, subst, ◌∙◌, arith, add-one, length-append}
use Rattle.std.specs.List.{All}
use Rattle.std.proofs.lemmas.Option.{get_or_from_slice_get}
use mathlib.Core.Logic.{dite}
use native.Mathlib.Decide.{dec_lt}
use Rattle.lbm_board.specs.Fields.{rotated}
use Rattle.lbm_board.proofs.Rotated.{rotated-front}

module _ {A : Type 0} where
  pub slice_get-front : (xs ys : List A) (k : ℕ) → k < length xs → slice_get (xs ++ ys) k ≡ slice_get xs k
  slice_get-front [] ys k inside = absurd (omega arith)
  slice_get-front (x ∷ xs) ys zero inside = λ i. Some x
  slice_get-front (x ∷ xs) ys (suc k) inside = slice_get-front xs ys k (omega arith)

  slice_get-last : (xs : List A) (x : A) → slice_get (xs ++ x ∷ []) (length xs) ≡ Some x
  slice_get-last [] x = λ i. Some x
  slice_get-last (y ∷ ys) x = slice_get-last ys x

  module _ (make : ℕ → A) where
    -- one more element after those numbered from 1 on
    pub one_more_made : (xs ys : List A) (x : A) → ys ≡ xs ++ x ∷ [] → x ≡ make (length xs + 1) → ((k : ℕ) → k < length xs → slice_get xs k ≡ Some (make (k + 1)))
        → (k : ℕ) → k < length ys → slice_get ys k ≡ Some (make (k + 1))
    one_more_made xs ys x is made before k inside =
        ap (λ (zs : List A). slice_get zs k) is
        ∙ dite (dec_lt k (length xs))
        (λ earlier. slice_get-front xs (x ∷ []) k earlier ∙ before k earlier)
        (λ last.
        let long : length ys ≡ length xs + 1 = ap length is ∙ length-append xs (x ∷ []) in
        let same : k ≡ length xs = omega arith in
        ap (slice_get (xs ++ x ∷ [])) same ∙ slice_get-last xs x ∙ ap Some (made ∙ ap (λ (n : ℕ). make (n + 1)) (sym same)))

    -- the one numbered 0 goes to the front
    pub made_in_order : (xs ys zs : List A) (x : A) (count : ℕ) → ys ≡ xs ++ x ∷ [] → count ≡ length ys → zs ≡ drop (count - 1) ys ++ take (count - 1) ys → x ≡ make 0
        → ((k : ℕ) → k < length xs → slice_get xs k ≡ Some (make (k + 1))) → (k : ℕ) → k < length ys → slice_get zs k ≡ Some (make k)
    made_in_order xs ys zs x count is long turned made before k inside =
        let all : length ys ≡ length xs + 1 = ap length is ∙ length-append xs (x ∷ []) in
        let back : count - 1 ≡ length xs = omega arith in
        let order : zs ≡ x ∷ xs = turned ∙ (λ i. rotated (back i) (is i)) ∙ rotated-front xs (x ∷ []) in
        ap (λ (l : List A). slice_get l k) order ∙ at k inside all
      where
        at : (n : ℕ) → n < length ys → length ys ≡ length xs + 1 → slice_get (x ∷ xs) n ≡ Some (make n)
        at zero below all = ap Some made
        at (suc n) below all = before n (omega arith) ∙ ap (λ (m : ℕ). Some (make m)) (add-one n)

    -- what holds of each number's element holds of all
    pub all_made : (P : A → Type 0) (xs : List A) → ((k : ℕ) → k < length xs → slice_get xs k ≡ Some (make k)) → ((k : ℕ) → P (make k)) → All P xs
    all_made P xs made holds k d inside = subst P (sym (get_or_from_slice_get xs k (make k) d (made k inside))) (holds k)
