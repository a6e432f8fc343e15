-- Masks of lanes.
use Rattle.std.proofs.Common.{◌≡◌, ℕ, zero, suc, ◌-◌, ◌<◌, min, Bool, true, false, refl, sym, ap, ◌∙◌, arith, w8}
use Rattle.std.specs.Prelude.{◌&&◌, not, ◌==◌, bit_and}
use Rattle.std.specs.Int.{bit_at, bit_not}
use Rattle.std.proofs.lemmas.Nat.Bits.{bit_at_and, bit_at_not, bit_at_ones, bit_at-zero, bit_at-lt}
use Rattle.lbm_space.specs.Sum.{all_below}
use Rattle.lbm_space.specs.Laws.{all_below_at}
use Rattle.lbm_lanes.specs.Lanes.{has}

-- the lanes of the first that are not in the second
pub chosen_bit : (fluid out j : ℕ) → fluid < 256 → out < 256 → j < 8 → has (bit_and fluid (bit_not w8 out)) j ≡ (has fluid j && not (has out j))
chosen_bit fluid out j small small' known =
    let both = bit_at_and fluid (bit_not w8 out) j in
    let none = bit_at_not w8 out j small' known in
    let one : bit_at fluid j < 2 = omega arith in
    let two : bit_at out j < 2 = omega arith in
    ap (λ (n : ℕ). n == 1) (both ∙ ap (min (bit_at fluid j)) none) ∙ bits (bit_at fluid j) (bit_at out j) one two
  where
    bits : (a b : ℕ) → a < 2 → b < 2 → (min a (1 - b) == 1) ≡ ((a == 1) && not (b == 1))
    bits zero zero a b = refl
    bits zero (suc zero) a b = refl
    bits (suc zero) zero a b = refl
    bits (suc zero) (suc zero) a b = refl
    bits (suc (suc n)) m a b = absurd (omega (arith, a))
    bits zero (suc (suc m)) a b = absurd (omega (arith, b))
    bits (suc zero) (suc (suc m)) a b = absurd (omega (arith, b))

-- masks that share no lane
pub no_bit : (fluid out j : ℕ) → bit_and fluid out ≡ 0 → (has fluid j && has out j) ≡ false
no_bit fluid out j none =
    let both : min (bit_at fluid j) (bit_at out j) ≡ 0 = sym (bit_at_and fluid out j) ∙ ap (λ (n : ℕ). bit_at n j) none ∙ bit_at-zero j in
    bits (bit_at fluid j) (bit_at out j) (omega (arith, both)) (bit_at-lt fluid j) (bit_at-lt out j)
  where
    bits : (a b : ℕ) → min a b ≡ 0 → a < 2 → b < 2 → ((a == 1) && (b == 1)) ≡ false
    bits zero b none small small' = refl
    bits (suc zero) zero none small small' = refl
    bits (suc zero) (suc b) none small small' = absurd (omega (arith, none))
    bits (suc (suc a)) b none small small' = absurd (omega (arith, small))

pub every_bit : (j : ℕ) → j < 8 → has 255 j ≡ true
every_bit j known = ap (λ (n : ℕ). n == 1) (bit_at_ones 8 j known)

both_true : (a b : Bool) → (a && not b) ≡ true → (a ≡ true) × (b ≡ false)
both_true true true e = absurd cc
both_true true false e = (refl, refl)
both_true false b e = absurd cc

pub all_chosen : (fluid out chosen j : ℕ) → fluid < 256 → out < 256 → j < 8 → chosen ≡ bit_and fluid (bit_not w8 out) → chosen ≡ 255 → (has fluid j ≡ true) × (has out j ≡ false)
all_chosen fluid out chosen j small small' known is all = both_true (has fluid j) (has out j) (sym (chosen_bit fluid out j small small' known) ∙ ap (λ (n : ℕ). has n j) (sym is ∙ all) ∙ every_bit j known)

-- at two written masks the test computes
pub apart-from_test : (fluid solid : ℕ) → all_below 8 (λ j. not (has fluid j && has solid j)) ≡ true → (j : ℕ) → j < 8 → has fluid j ≡ true → has solid j ≡ false
apart-from_test fluid solid passed j known is_fluid =
    let here : not (has fluid j && has solid j) ≡ true = all_below_at (λ j. not (has fluid j && has solid j)) 8 passed j known in
    other (has solid j) (rw is_fluid at here)
  where
    other : (b : Bool) → not b ≡ true → b ≡ false
    other true e = absurd cc
    other false e = refl
