-- Lists of flags are read place by place.
use Rattle.std.proofs.Common.{◌≡◌, ℕ, zero, suc, ◌+◌, ◌<◌, Bool, true, false, not, ◌&&◌, ◌||◌, if◌then◌else◌, List, [], ◌∷◌, length, get_or, refl, sym, ap, ◌∙◌, arith}
use Rattle.lbm_patch.specs.Masks.{both, without, either, picked}
use Rattle.lbm_patch.specs.Masks.{flags}

pub bool_ext : (a b : Bool) → (a ≡ true → b ≡ true) → (b ≡ true → a ≡ true) → a ≡ b
bool_ext true b f g = sym (f refl)
bool_ext false true f g = g refl
bool_ext false false f g = refl

pub or_not : (a : Bool) → (a || (true && not a)) ≡ true
or_not true = refl
or_not false = refl

pub length-flags : (p : ℕ → Bool) (at n : ℕ) → length (flags p at n) ≡ n
length-flags p at zero = refl
length-flags p at (suc n) = ap suc (length-flags p (suc at) n)

pub get-flags : (p : ℕ → Bool) (at n i : ℕ) (d : Bool) → i < n → get_or (flags p at n) i d ≡ p (at + i)
get-flags p at zero i d l = absurd (omega (arith, l))
get-flags p at (suc n) zero d l = ap p (omega arith)
get-flags p at (suc n) (suc i) d l = get-flags p (suc at) n i d (omega (arith, l)) ∙ ap p (omega arith)

pub get-both : (fs gs : List Bool) (i : ℕ) → get_or (both fs gs) i false ≡ (get_or fs i false && get_or gs i false)
get-both [] gs i = refl
get-both (true ∷ fs) [] zero = refl
get-both (false ∷ fs) [] zero = refl
get-both (f ∷ fs) [] (suc i) = get-both fs [] i
get-both (f ∷ fs) (g ∷ gs) zero = refl
get-both (f ∷ fs) (g ∷ gs) (suc i) = get-both fs gs i

pub get-without : (fs gs : List Bool) (i : ℕ) → get_or (without fs gs) i false ≡ (get_or fs i false && not (get_or gs i false))
get-without [] gs i = refl
get-without (true ∷ fs) [] zero = refl
get-without (false ∷ fs) [] zero = refl
get-without (f ∷ fs) [] (suc i) = get-without fs [] i
get-without (f ∷ fs) (g ∷ gs) zero = refl
get-without (f ∷ fs) (g ∷ gs) (suc i) = get-without fs gs i

pub get-either : (fs gs : List Bool) (i : ℕ) → length gs ≡ length fs → get_or (either fs gs) i false ≡ (get_or fs i false || get_or gs i false)
get-either [] [] i e = refl
get-either [] (g ∷ gs) i e = let e' : suc (length gs) ≡ 0 = e in absurd (omega (arith, e'))
get-either (f ∷ fs) [] i e = let e' : 0 ≡ suc (length fs) = e in absurd (omega (arith, e'))
get-either (f ∷ fs) (g ∷ gs) zero e = refl
get-either (f ∷ fs) (g ∷ gs) (suc i) e = let e' : suc (length gs) ≡ suc (length fs) = e in get-either fs gs i (omega (arith, e'))

pub get-picked : {X : Type 0} (ms : List Bool) (xs ys : List X) (i : ℕ) (d : X) → length xs ≡ length ms → length ys ≡ length ms
    → get_or (picked ms xs ys) i d ≡ (if get_or ms i false then get_or xs i d else get_or ys i d)
get-picked [] xs ys i d p q = refl
get-picked (m ∷ ms) [] ys i d p q = let e : 0 ≡ suc (length ms) = p in absurd (omega (arith, e))
get-picked (m ∷ ms) (x ∷ xs) [] i d p q = let e : 0 ≡ suc (length ms) = q in absurd (omega (arith, e))
get-picked (m ∷ ms) (x ∷ xs) (y ∷ ys) zero d p q = refl
get-picked (m ∷ ms) (x ∷ xs) (y ∷ ys) (suc i) d p q =
    let p' : suc (length xs) ≡ suc (length ms) = p in let q' : suc (length ys) ≡ suc (length ms) = q in
    get-picked ms xs ys i d (omega (arith, p')) (omega (arith, q'))

pub picked_here : {X : Type 0} (ms : List Bool) (xs ys : List X) (i : ℕ) (d : X) → length xs ≡ length ms → length ys ≡ length ms → get_or ms i false ≡ true
    → get_or (picked ms xs ys) i d ≡ get_or xs i d
picked_here ms xs ys i d p q h = get-picked ms xs ys i d p q ∙ ap (λ b. if b then get_or xs i d else get_or ys i d) h

pub picked_there : {X : Type 0} (ms : List Bool) (xs ys : List X) (i : ℕ) (d : X) → length xs ≡ length ms → length ys ≡ length ms → get_or ms i false ≡ false
    → get_or (picked ms xs ys) i d ≡ get_or ys i d
picked_there ms xs ys i d p q h = get-picked ms xs ys i d p q ∙ ap (λ b. if b then get_or xs i d else get_or ys i d) h
