-- The mask of the numbers of eight that are 0.
use Rattle.std.proofs.Common.{◌≡◌, ◌<◌, ◌^◌, ℕ, Bool, true, false, List, map, get_or, length, eqb, cond, Fits, w8, arith, refl, ap, ◌∙◌}
use Rattle.std.proofs.lemmas.List.{length-map, get_or-map}
use Rattle.std.specs.Prelude.{◌==◌}
use Rattle.std.specs.Int.{bit_at}
use Rattle.std.proofs.lemmas.Simd.{bit_mask_l, mask_l-lt}
use lib.Lanes.{mask_l}

pub few_bits : (xs : List ℕ) → length xs ≡ 8 → Fits w8 (mask_l (map (λ x. eqb x 0) xs))
few_bits xs eight =
    let long : length (map (λ x. eqb x 0) xs) ≡ 8 = length-map xs (λ x. eqb x 0) ∙ eight in
    let below : mask_l (map (λ x. eqb x 0) xs) < 2 ^ 8 = rw long at (mask_l-lt (map (λ x. eqb x 0) xs)) in
    record { fits = below }

pub bit_is : (xs : List ℕ) (j : ℕ) → length xs ≡ 8 → j < 8 → (bit_at (mask_l (map (λ x. eqb x 0) xs)) j == 1) ≡ eqb (get_or xs j 0) 0
bit_is xs j eight known =
    ap (λ (n : ℕ). n == 1) (bit_mask_l (map (λ x. eqb x 0) xs) j) ∙ one (get_or (map (λ x. eqb x 0) xs) j false) ∙ get_or-map (λ x. eqb x 0) xs j 0 false (omega (arith, known, eight))
  where
    one : (b : Bool) → (cond b 1 0 == 1) ≡ b
    one true = refl
    one false = refl
