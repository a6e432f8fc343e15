-- Lanes of what operators make of vectors.
use Rattle.std.proofs.Common.{◌≡◌, ℕ, zero, suc, ◌-◌, ◌^◌, ◌<◌, List, [], ◌∷◌, length, get_or, refl, ap, arith, ◌∙◌, sym}
use Rattle.std.proofs.lemmas.Simd.{length-zip2, get_or-zip2, tops_compared, get_or-sel_l, length-sel_l}
use lib.Lanes.{zip2, Each2, sel_l, top}
use lib.Dec.{ltb}
use mathlib.Core.Bool.{cond, Bool, false}
use mir.Syntax.{w64}
use mir.Val.{bits, hbits}
use mathlib.Core.List.{map}

-- a fact of each two lanes
pub each2_from : (P : ℕ → ℕ → Type 0) (n : ℕ) (xs ys : List ℕ) → length xs ≡ n → length ys ≡ n → ((l : ℕ) → l < n → P (get_or xs l 0) (get_or ys l 0)) → Each2 P xs ys
each2_from P n [] ys long long' each = tt
each2_from P n (x ∷ xs) [] long long' each = tt
each2_from P zero (x ∷ xs) (y ∷ ys) long long' each = absurd (omega (arith, long))
each2_from P (suc n) (x ∷ xs) (y ∷ ys) long long' each =
    (each 0 (omega arith), each2_from P n xs ys (omega (arith, long)) (omega (arith, long')) (λ l below. each (suc l) (omega (arith, below))))

pub length_zip2 : {A : Type 0} (n : ℕ) (f : ℕ → ℕ → A) (xs ys : List ℕ) → length xs ≡ n → length ys ≡ n → length (zip2 f xs ys) ≡ n
length_zip2 n f xs ys long long' = length-zip2 f xs ys (long ∙ sym long') ∙ long

pub lane_zip2 : {A : Type 0} (n : ℕ) (f : ℕ → ℕ → A) (e : A) (xs ys : List ℕ) → length xs ≡ n → length ys ≡ n → (l : ℕ) → l < n → get_or (zip2 f xs ys) l e ≡ f (get_or xs l 0) (get_or ys l 0)
lane_zip2 n f e xs ys long long' l below = get_or-zip2 f xs ys l 0 0 e (omega (arith, long, below)) (omega (arith, long', below))

pub length_map : (f : ℕ → ℕ) (xs : List ℕ) → length (map f xs) ≡ length xs
length_map f [] = refl
length_map f (x ∷ xs) = ap suc (length_map f xs)

pub lane_map : (f : ℕ → ℕ) (xs : List ℕ) (l : ℕ) → l < length xs → get_or (map f xs) l 0 ≡ f (get_or xs l 0)
lane_map f [] l below = absurd (omega (arith, below))
lane_map f (x ∷ xs) zero below = refl
lane_map f (x ∷ xs) (suc l) below = lane_map f xs l (omega (arith, below))

pub lane_twice : (g h : ℕ → ℕ) (xs : List ℕ) (l : ℕ) → l < length xs → get_or (map g (map h xs)) l 0 ≡ g (h (get_or xs l 0))
lane_twice g h xs l below = lane_map g (map h xs) l (omega (arith, below, length_map h xs)) ∙ ap g (lane_map h xs l below)

-- a lane of the first vector where xs is below ys, and of the second elsewhere
pub lane_chosen : (n : ℕ) (xs ys us vs : List ℕ) → length xs ≡ n → length ys ≡ n → length us ≡ n → length vs ≡ n → (l : ℕ) → l < n →
    get_or (sel_l (map (top (hbits w64)) (zip2 (λ a b. cond (ltb a b) (2 ^ bits w64 - 1) 0) xs ys)) us vs) l 0 ≡ cond (ltb (get_or xs l 0) (get_or ys l 0)) (get_or us l 0) (get_or vs l 0)
lane_chosen n xs ys us vs long_x long_y long_u long_v l known =
    let long : length (zip2 ltb xs ys) ≡ n = length_zip2 n ltb xs ys long_x long_y in
    rw (tops_compared w64 ltb xs ys) (
    get_or-sel_l (zip2 ltb xs ys) us vs l 0 (omega (arith, long, known)) (omega (arith, long_u, known)) (omega (arith, long_v, known))
    ∙ ap (λ (b : Bool). cond b (get_or us l 0) (get_or vs l 0)) (lane_zip2 n ltb false xs ys long_x long_y l known))

pub chosen_length : (n : ℕ) (xs ys us vs : List ℕ) → length xs ≡ n → length ys ≡ n → length us ≡ n → length vs ≡ n →
    length (sel_l (map (top (hbits w64)) (zip2 (λ a b. cond (ltb a b) (2 ^ bits w64 - 1) 0) xs ys)) us vs) ≡ n
chosen_length n xs ys us vs long_x long_y long_u long_v =
    let long : length (zip2 ltb xs ys) ≡ n = length_zip2 n ltb xs ys long_x long_y in
    rw (tops_compared w64 ltb xs ys) (length-sel_l (zip2 ltb xs ys) us vs (long ∙ sym long_u) (long ∙ sym long_v) ∙ long)
