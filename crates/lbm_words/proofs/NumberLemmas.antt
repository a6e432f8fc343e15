-- Numbers that are read one by one.
use Rattle.std.proofs.Common.{◌≡◌, ◌<◌, ◌+◌, ℕ, List, [], ◌∷◌, ◌++◌, map, drop, length, get_or, suc, refl, ap, append_assoc, drop-cons, add-one}
use Rattle.std.specs.Prelude.{Option, Some, None}
use Rattle.std.specs.Option.{option_map}
use Rattle.std.specs.Borrow.{Bor}
use Rattle.lbm_number.specs.Number.{number_of}
use Rattle.lbm_words.specs.Numbers.{each}

-- the texts behind references
abbrev pub texts_of : List (Bor (List ℕ)) → List (List ℕ)
texts_of = map (λ text. text.now)

-- numbers that stand before others, where there are others
abbrev pub before : List ℕ → Option (List ℕ) → Option (List ℕ)
before ns = option_map (λ more. ns ++ more)

-- what is left to be read, from a place on
abbrev pub numbers_from : List (Bor (List ℕ)) → ℕ → Option (List ℕ)
numbers_from texts i = each number_of (texts_of (drop i texts))

before-more : (ns : List ℕ) (n : ℕ) (more : Option (List ℕ)) → before (ns ++ n ∷ []) more ≡ before ns (option_map (λ xs. n ∷ xs) more)
before-more ns n None = refl
before-more ns n (Some more) = ap Some (append_assoc ns (n ∷ []) more)

-- the text at a place is read
pub numbers_from-number : (texts : List (Bor (List ℕ))) (i : ℕ) (d : Bor (List ℕ)) (ns : List ℕ) (n : ℕ) → i < length texts
    → number_of (get_or texts i d).now ≡ Some n → before (ns ++ n ∷ []) (numbers_from texts (i + 1)) ≡ before ns (numbers_from texts i)
numbers_from-number texts i d ns n within read = rw (drop-cons texts i d within, read, add-one i) (before-more ns n (numbers_from texts (suc i)))

-- the text at a place is no number
pub numbers_from-other : (texts : List (Bor (List ℕ))) (i : ℕ) (d : Bor (List ℕ)) (ns : List ℕ) → i < length texts
    → number_of (get_or texts i d).now ≡ None → before ns (numbers_from texts i) ≡ None
numbers_from-other texts i d ns within read = rw (drop-cons texts i d within, read) refl
