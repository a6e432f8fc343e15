-- Lanes of what operators make of vectors of signed numbers.
use Rattle.std.proofs.Common.{◌≡◌, ℕ, zero, suc, ◌-◌, ◌%◌, ◌^◌, ◌<◌, ◌≤◌, ℤ, pos, negsuc, ◌+ℤ◌, ◌-ℤ◌, ◌≤ℤ◌, unsigned_abs, List, [], ◌∷◌, length, map, get_or, to_z, of_z, refl, ap, ◌∙◌, sym, arith, Bool, true, false, eqb, ltb, cond, ◌⊎◌, inl, inr, subst, Fits, w8, rules}
use Rattle.std.specs.Prelude.{int_le, ◌&&◌, not, bit_or, FitsSigned}
use Rattle.std.proofs.lemmas.Simd.{get_or-zip2}
use Rattle.std.proofs.lemmas.Int.{ints, fits_signed_from_abs, wrapping_add_is, wrapping_sub_is, int_wrap_fits}
use Rattle.std.proofs.lemmas.Nat.{or_lt}
use Rattle.std.proofs.lemmas.Nat.Bits.{bit_at_or}
use Rattle.std.specs.Int.{w64, int_wrapping_add, int_wrapping_sub, bit_at}
use Rattle.std.proofs.lemmas.Simd.{mask_l-mod, bit_mask_l, mask_l-lt}
use Rattle.std.proofs.lemmas.Int.{to_z_pos, to_z-of_z}
use Rattle.std.proofs.lemmas.Bool.{le-ltb, le-leb}
use Rattle.std.proofs.Math.Facts.{sfits_to_z}
use Rattle.lbm_lanes.specs.Lanes.{has}
use lib.Lanes.{zip2, mask_l}
use lib.Signed.{lt_z}

pub lane_map : {A B : Type 0} (f : A → B) (xs : List A) (l : ℕ) (d : A) (e : B) → l < length xs → get_or (map f xs) l e ≡ f (get_or xs l d)
lane_map f [] l d e below = absurd (omega (arith, below))
lane_map f (x ∷ xs) zero d e below = refl
lane_map f (x ∷ xs) (suc l) d e below = lane_map f xs l d e (omega (arith, below))

pub length_map : {A B : Type 0} (f : A → B) (xs : List A) → length (map f xs) ≡ length xs
length_map f [] = refl
length_map f (x ∷ xs) = ap suc (length_map f xs)

pub length_zip : {A B C : Type 0} (f : A → B → C) (xs : List A) (ys : List B) (n : ℕ) → length xs ≡ n → length ys ≡ n → length (zip2 f xs ys) ≡ n
length_zip f [] ys n long long' = long
length_zip f (x ∷ xs) [] n long long' = long'
length_zip f (x ∷ xs) (y ∷ ys) zero long long' = absurd (omega (arith, long))
length_zip f (x ∷ xs) (y ∷ ys) (suc n) long long' = ap suc (length_zip f xs ys n (omega (arith, long)) (omega (arith, long')))

pub lane_made : (f : ℕ → ℕ → ℕ) (xs ys : List ℤ) (j : ℕ) → length xs ≡ 8 → length ys ≡ 8 → j < 8
    → get_or (map (to_z w64) (zip2 f (map (of_z w64) xs) (map (of_z w64) ys))) j (pos 0) ≡ to_z w64 (f (of_z w64 (get_or xs j (pos 0))) (of_z w64 (get_or ys j (pos 0))))
lane_made f xs ys j long long' lane =
    let a = length_map (of_z w64) xs ∙ long in let b = length_map (of_z w64) ys ∙ long' in
    let both = length_zip f (map (of_z w64) xs) (map (of_z w64) ys) 8 a b in
    lane_map (to_z w64) (zip2 f (map (of_z w64) xs) (map (of_z w64) ys)) j 0 (pos 0) (omega (arith, both))
    ∙ ap (to_z w64) (get_or-zip2 f (map (of_z w64) xs) (map (of_z w64) ys) j 0 0 0 (omega (arith, a)) (omega (arith, b)))
    ∙ ap (λ m. to_z w64 (f m (get_or (map (of_z w64) ys) j 0))) (lane_map (of_z w64) xs j (pos 0) 0 (omega (arith, long)))
    ∙ ap (λ m. to_z w64 (f (of_z w64 (get_or xs j (pos 0))) m)) (lane_map (of_z w64) ys j (pos 0) 0 (omega (arith, long')))

fits : (z : ℤ) → unsigned_abs z < 2 ^ 62 → FitsSigned w64 z
fits z small = fits_signed_from_abs w64 z (omega (arith, small))

pub sum_is : (x y : ℤ) → unsigned_abs x < 2 ^ 61 → unsigned_abs y < 2 ^ 61 → int_wrapping_add w64 x y ≡ x +ℤ y
sum_is x y small_x small_y =
    wrapping_add_is w64 x y (fits x (omega (arith, small_x))) (fits y (omega (arith, small_y))) ∙ int_wrap_fits w64 (x +ℤ y) (fits (x +ℤ y) (omega (arith, ints, small_x, small_y)))

pub difference_is : (x y : ℤ) → unsigned_abs x < 2 ^ 61 → unsigned_abs y < 2 ^ 61 → int_wrapping_sub w64 x y ≡ x -ℤ y
difference_is x y small_x small_y =
    wrapping_sub_is w64 x y (fits x (omega (arith, small_x))) (fits y (omega (arith, small_y))) ∙ int_wrap_fits w64 (x -ℤ y) (fits (x -ℤ y) (omega (arith, ints, small_x, small_y)))

pub lane_twice : {A B C : Type 0} (g : B → C) (h : A → B) (xs : List A) (l : ℕ) (d : A) (b : B) (e : C) → l < length xs → get_or (map g (map h xs)) l e ≡ g (h (get_or xs l d))
lane_twice g h xs l d b e below = lane_map g (map h xs) l b e (omega (arith, below, length_map h xs)) ∙ ap g (lane_map h xs l d b below)

-- a number that is not negative
pub natural_is : (x : ℤ) → pos 0 ≤ℤ x → x ≡ pos (unsigned_abs x)
natural_is x above = omega (arith, ints, above)

pub cast_is : (f : ℕ → ℕ) (x : ℤ) → pos 0 ≤ℤ x → unsigned_abs x < 2 ^ 62 → ((n : ℕ) → n < 2 ^ 62 → f n ≡ n) → x ≡ pos (f (of_z w64 x))
cast_is f (pos n) above small same = ap pos (sym (same n small))
cast_is f (negsuc n) above small same = absurd (omega (arith, ints, above))

pub cast_fits : (P : ℕ → Type 0) (x : ℤ) → pos 0 ≤ℤ x → unsigned_abs x < 2 ^ 62 → ((n : ℕ) → n < 2 ^ 62 → P n) → P (of_z w64 x)
cast_fits P (pos n) above small each = each n small
cast_fits P (negsuc n) above small each = absurd (omega (arith, ints, above))

pos_is : (m : ℕ) → int_le (pos 0) (pos m) ≡ true
pos_is m = le-leb 0 m (omega arith)

low_is : (m : ℕ) → m < 2 ^ 63 → int_le (pos 0) (to_z w64 m) ≡ true
low_is m low = let is : to_z w64 m ≡ pos m = to_z_pos w64 m low in rw is (pos_is m)

high_is : (m : ℕ) → 2 ^ 63 ≤ m → int_le (pos 0) (to_z w64 m) ≡ false
high_is m high = let past : ltb m (2 ^ 63) ≡ false = le-ltb m (2 ^ 63) high in rw past refl

high_bit : (m : ℕ) → 2 ^ 63 ≤ m → m < 2 ^ 64 → bit_at m 63 ≡ 1
high_bit m high fit = omega (arith, high, fit)

bit_high : (m : ℕ) → bit_at m 63 ≡ 1 → 2 ^ 63 ≤ m
bit_high m set = omega (arith, set)

or_high : (m n : ℕ) → m < 2 ^ 64 → n < 2 ^ 64 → (2 ^ 63 ≤ m) ⊎ (2 ^ 63 ≤ n) → 2 ^ 63 ≤ bit_or m n
or_high m n fit fit' some = bit_high (bit_or m n) (elim some [
  | inl high ↦ omega (arith, bit_at_or m n 63, high_bit m high fit)
  | inr high ↦ omega (arith, bit_at_or m n 63, high_bit n high fit')
])

pub or_sign : (x y : ℤ) → FitsSigned w64 x → FitsSigned w64 y → int_le (pos 0) (to_z w64 (bit_or (of_z w64 x) (of_z w64 y))) ≡ (int_le (pos 0) x && int_le (pos 0) y)
or_sign (pos a) (pos b) fit fit' = let both : (int_le (pos 0) (pos a) && int_le (pos 0) (pos b)) ≡ true = rw (pos_is a, pos_is b) refl in low_is (bit_or a b) (or_lt 63 a b fit.sfits fit'.sfits) ∙ sym both
or_sign (pos a) (negsuc b) fit fit' = let both : (int_le (pos 0) (pos a) && false) ≡ false = rw (pos_is a) refl in high_is (bit_or a (2 ^ 64 - suc b)) (or_high a (2 ^ 64 - suc b) (omega (arith, fit.sfits)) (omega arith) (inr (omega (arith, fit'.sfits)))) ∙ sym both
or_sign (negsuc a) (pos b) fit fit' = high_is (bit_or (2 ^ 64 - suc a) b) (or_high (2 ^ 64 - suc a) b (omega arith) (omega (arith, fit'.sfits)) (inl (omega (arith, fit.sfits))))
or_sign (negsuc a) (negsuc b) fit fit' = high_is (bit_or (2 ^ 64 - suc a) (2 ^ 64 - suc b)) (or_high (2 ^ 64 - suc a) (2 ^ 64 - suc b) (omega arith) (omega arith) (inl (omega (arith, fit.sfits))))

bits_fit : (x : ℤ) → FitsSigned w64 x → of_z w64 x < 2 ^ 64
bits_fit (pos a) fit = omega (arith, fit.sfits)
bits_fit (negsuc a) fit = omega arith

pub or_fits : (x y : ℤ) → FitsSigned w64 x → FitsSigned w64 y → FitsSigned w64 (to_z w64 (bit_or (of_z w64 x) (of_z w64 y)))
or_fits x y fit fit' = sfits_to_z (record { fits = or_lt 64 (of_z w64 x) (of_z w64 y) (bits_fit x fit) (bits_fit y fit') })

-- a lane of a mask
pub bit_is : (ms : List Bool) (l : ℕ) → length ms ≡ 8 → has (mask_l ms % 2 ^ 64) l ≡ get_or ms l false
bit_is ms l long = rw (mask_l-mod ms 64 (omega (arith, long)), bit_mask_l ms l) (one (get_or ms l false))
  where
    one : (b : Bool) → eqb (cond b 1 0) 1 ≡ b
    one true = refl
    one false = refl

pub mask_fits : (ms : List Bool) → length ms ≡ 8 → Fits w8 (mask_l ms % 2 ^ 64)
mask_fits ms long = rw (mask_l-mod ms 64 (omega (arith, long))) (record { fits = ap_lt (mask_l ms) (length ms) long (mask_l-lt ms) })
  where
    ap_lt : (m n : ℕ) → n ≡ 8 → m < 2 ^ n → m < 2 ^ 8
    ap_lt m n e below = subst (λ (k : ℕ). m < 2 ^ k) e below

pub below_zero : (x : ℤ) → FitsSigned w64 x → lt_z (to_z w64 (of_z w64 x)) (to_z w64 0) ≡ not (int_le (pos 0) x)
below_zero x fit = rw (to_z-of_z w64 x fit) (cases x)
  where
    cases : (x : ℤ) → lt_z x (pos 0) ≡ not (int_le (pos 0) x)
    cases (pos n) = search rules
    cases (negsuc n) = refl

pub picked_is : (b : Bool) (x y : ℤ) → FitsSigned w64 x → FitsSigned w64 y → to_z w64 (cond b (of_z w64 x) (of_z w64 y)) ≡ cond b x y
picked_is true x y fit fit' = to_z-of_z w64 x fit
picked_is false x y fit fit' = to_z-of_z w64 y fit'
