-- How far words go along a head, word by word.
use Rattle.std.proofs.Common.{◌≡◌, ℕ, ◌+◌, ◌<◌, ◌≤◌, List, [], ◌∷◌, ◌++◌, length, map, min, take, drop, get_or, ltb, Bool, true, false, Some, None, find, refl, sym, ap, ◌∙◌, inl, inr, arith, drop-cons, length-drop, add-one}
use Rattle.std.specs.Prelude.{unwrap_or}
use Rattle.std.specs.List.{fold}
use Rattle.std.specs.Borrow.{Bor}
use Rattle.std.proofs.lemmas.Bool.{cases_Bool, ltb-true, ltb-false}
use Rattle.std.proofs.lemmas.List.{take_all, take_more, drop_all, length-map, get_or-map}
use Rattle.std.proofs.lemmas.Option.{slice_get-map, slice_get-get_or}
use Rattle.lbm_number.specs.Number.{number_of}
use Rattle.lbm_voxel.specs.Head.{fits, fitting, number_at}
use Rattle.lbm_voxel.specs.declared.head.WordKind.{WordKind}

-- the word at a place is of its kind
pub fitting-goes : (head : List WordKind) (words : List (List ℕ)) (n : ℕ) (k : WordKind) (w : List ℕ) → n < length head → n < length words
    → fits (get_or head n k) (get_or words n w) ≡ true → n + fitting (drop n head) (drop n words) ≡ n + 1 + fitting (drop (n + 1) head) (drop (n + 1) words)
unfolding fitting
fitting-goes head words n k w inside within fit = rw (drop-cons head n k inside, drop-cons words n w within, fit, add-one n) (omega arith)

-- it is not
pub fitting-stops : (head : List WordKind) (words : List (List ℕ)) (n : ℕ) (k : WordKind) (w : List ℕ) → n < length head → n < length words
    → fits (get_or head n k) (get_or words n w) ≡ false → n + fitting (drop n head) (drop n words) ≡ n
unfolding fitting
fitting-stops head words n k w inside within other = rw (drop-cons head n k inside, drop-cons words n w within, other) (omega arith)

fitting-none : (head : List WordKind) → fitting head [] ≡ 0
unfolding fitting
fitting-none [] = refl
fitting-none (kind ∷ head) = refl

-- the head or the words end
pub fitting-ends : (head : List WordKind) (words : List (List ℕ)) (n : ℕ) → length head ≤ n → n + fitting (drop n head) (drop n words) ≡ n
unfolding fitting
fitting-ends head words n past = rw (drop_all n head past) (omega arith)

pub fitting-past : (head : List WordKind) (words : List (List ℕ)) (n : ℕ) → length words ≤ n → n + fitting (drop n head) (drop n words) ≡ n
fitting-past head words n past = rw (drop_all n words past, fitting-none (drop n head)) (omega arith)

-- ---- the same of words behind references

abbrev pub texts : List (Bor (List ℕ)) → List (List ℕ)
texts words = map (λ word. word.now) words

pub texts-go : (head : List WordKind) (words : List (Bor (List ℕ))) (n : ℕ) (k : WordKind) (d : Bor (List ℕ)) → n < length head → n < length words
    → fits (get_or head n k) (get_or words n d).now ≡ true → n + fitting (drop n head) (drop n (texts words)) ≡ n + 1 + fitting (drop (n + 1) head) (drop (n + 1) (texts words))
texts-go head words n k d inside within fit =
    fitting-goes head (texts words) n k [] inside (rw length-map within) (rw (get_or-map (λ (word : Bor (List ℕ)). word.now) words n d [] within) fit)

pub texts-stop : (head : List WordKind) (words : List (Bor (List ℕ))) (n : ℕ) (k : WordKind) (d : Bor (List ℕ)) → n < length head → n < length words
    → fits (get_or head n k) (get_or words n d).now ≡ false → n + fitting (drop n head) (drop n (texts words)) ≡ n
texts-stop head words n k d inside within other =
    fitting-stops head (texts words) n k [] inside (rw length-map within) (rw (get_or-map (λ (word : Bor (List ℕ)). word.now) words n d [] within) other)

pub texts-end : (head : List WordKind) (words : List (Bor (List ℕ))) (n : ℕ) → min (length head) (length words) ≤ n → n + fitting (drop n head) (drop n (texts words)) ≡ n
texts-end head words n past = elim (cases_Bool (ltb n (length head))) [
  | inl less ↦ (let inside : n < length head = ltb-true _ _ less in fitting-past head (texts words) n (rw length-map (omega arith)))
  | inr over ↦ fitting-ends head (texts words) n (ltb-false _ _ over)
]

pub number_at-text : (words : List (Bor (List ℕ))) (n : ℕ) (d : Bor (List ℕ)) → n < length words → number_at (texts words) n ≡ unwrap_or (number_of (get_or words n d).now) 0
unfolding number_at
number_at-text words n d within = rw (slice_get-map (λ (word : Bor (List ℕ)). word.now) words n, slice_get-get_or words n d within) refl

-- ---- what is left of words

pub drop-none : (words : List (List ℕ)) (n m : ℕ) → drop n words ≡ [] → n ≤ m → drop m words ≡ []
drop-none words n m none more = drop_all m words (omega (arith, length-drop n words, ap length none))

pub drop-next : (words rest : List (List ℕ)) (n : ℕ) (word : List ℕ) → drop n words ≡ word ∷ rest → rest ≡ drop (n + 1) words
drop-next words rest n word here =
    let inside : n < length words = omega (arith, length-drop n words, ap length here) in
    let next = drop-cons words n word inside in
    rw (add-one n) (cc)

pub take-none : (words : List (List ℕ)) (n m : ℕ) → drop n words ≡ [] → n ≤ m → take n words ≡ take m words
take-none words n m none more =
    let few : length words ≤ n = omega (arith, length-drop n words, ap length none) in
    take_all n words few ∙ sym (take_all m words (omega arith))

pub take-next : (words rest : List (List ℕ)) (n : ℕ) (word : List ℕ) → drop n words ≡ word ∷ rest → take (n + 1) words ≡ take n words ++ word ∷ []
take-next words rest n word here =
    let inside : n < length words = omega (arith, length-drop n words, ap length here) in
    let next = drop-cons words n word inside in
    let more = take_more words n word inside in
    let same : get_or words n word ≡ word = cc in
    more ∙ ap (λ (w : List ℕ). take n words ++ w ∷ []) same

-- ---- the search for a head

abbrev pub kinds : List (Bor (List WordKind)) → List (List WordKind)
kinds heads = map (λ head. head.now) heads

pub find-here : (p : List WordKind → Bool) (heads : List (Bor (List WordKind))) (n : ℕ) (d : Bor (List WordKind)) → n < length heads
    → p (get_or heads n d).now ≡ true → find p (kinds (drop n heads)) ≡ Some (get_or heads n d).now
find-here p heads n d within here = rw (drop-cons heads n d within, here) refl

pub find-next : (p : List WordKind → Bool) (heads : List (Bor (List WordKind))) (n : ℕ) (d : Bor (List WordKind)) → n < length heads
    → p (get_or heads n d).now ≡ false → find p (kinds (drop (n + 1) heads)) ≡ find p (kinds (drop n heads))
find-next p heads n d within other = rw (drop-cons heads n d within, other, add-one n) refl

pub find-past : (p : List WordKind → Bool) (heads : List (Bor (List WordKind))) (n : ℕ) → length heads ≤ n → find p (kinds (drop n heads)) ≡ None
find-past p heads n past = rw (drop_all n heads past) refl

-- the most of what heads have
pub fold-next : (f : ℕ → List WordKind → ℕ) (most : ℕ) (heads : List (Bor (List WordKind))) (n : ℕ) (d : Bor (List WordKind)) → n < length heads
    → fold f (f most (get_or heads n d).now) (kinds (drop (n + 1) heads)) ≡ fold f most (kinds (drop n heads))
fold-next f most heads n d within = rw (drop-cons heads n d within, add-one n) refl

pub fold-past : (f : ℕ → List WordKind → ℕ) (most : ℕ) (heads : List (Bor (List WordKind))) (n : ℕ) → length heads ≤ n → fold f most (kinds (drop n heads)) ≡ most
fold-past f most heads n past = rw (drop_all n heads past) refl
