-- The cells of an even drawing, and what their first densities and their moving walls are.
use Rattle.std.proofs.Common.{◌≡◌, ◌≢◌, ℕ, suc, ◌+◌, ◌-◌, ◌*◌, ◌/◌, ◌%◌, ◌<◌, ◌≤◌, Bool, true, not, ◌==◌, cond, List, [], ◌∷◌, map, length, get_or, nat_le, Option, Some, None, All, refl, sym, ap, ◌∙◌, arith, inl, inr}
use Rattle.std.specs.List.{range_with_len}
use Rattle.std.specs.List.Sorted.{IsStrictlyIncreasing}
use Rattle.std.proofs.lemmas.Bool.{cases_Bool, cond-true, cond-false, eqb-true, not-false, cond_both, and_parts, leb-true}
use Rattle.std.proofs.lemmas.List.{length-append, length-map, get_or-map}
use Rattle.std.proofs.lemmas.List.Elements.{All-map, All-filter, filter_passes}
use Rattle.std.proofs.lemmas.List.FromFn.{get_or-range_with_len, length-range_with_len}
use Rattle.std.proofs.lemmas.List.Kept.{IsStrictlyIncreasing-filter}
use Rattle.std.proofs.lemmas.Option.{none-some, same_Some}
use Rattle.std.specs.Option.{option_or}
use Rattle.std.proofs.Math.Nat.{mul_assoc, div-add-mod, mul-le-mul_right}
use Rattle.std.proofs.lemmas.Bool.Decides.{nat_tests}
use Rattle.lbm_space.specs.Torus.{cells}
use Rattle.lbm_model.specs.Case.{AreDensities, AreMoving}
use Rattle.lbm_case.specs.Drawing.{width, row, other_row, ragged, box_of, cells_of, density_of, is_digit, moving_in}
use Rattle.lbm_case.specs.CaseOf.{IsFirstDensity}
use Rattle.lbm_case.proofs.Places.{position_none_at, position-within}

-- a drawing that is not ragged: its rows are equally long, and the layers divide them
pub no_other : (o : Option ℕ) (n layers : ℕ) → option_or o (cond (n % layers == 0) None (Some n)) ≡ None → (o ≡ None) × (n % layers ≡ 0)
no_other None n layers none = elim (cases_Bool (n % layers == 0)) [
  | inl divides ↦ (refl, eqb-true _ _ divides)
  | inr rest ↦ absurd (none-some _ (sym none ∙ cond-false _ _ _ rest))
]
no_other (Some r) n layers none = absurd (none-some _ (sym none))

even_rows : (layers : ℕ) (rows : List (List ℕ)) → ragged layers rows ≡ None → (r : ℕ) → r < length rows → length (row rows r) ≡ width rows
unfolding other_row
even_rows layers rows none r within =
    eqb-true _ _ (not-false _ (position_none_at (λ cs. not (length cs == width rows)) rows (no_other (other_row rows) (length rows) layers none).0 r [] within))

length-cells_of : (rows : List (List ℕ)) (n : ℕ) → ((r : ℕ) → r < length rows → length (row rows r) ≡ n) → length (cells_of rows) ≡ n * length rows
length-cells_of [] n even = omega arith
length-cells_of (cs ∷ rows) n even =
    let here : length cs ≡ n = even 0 (omega arith) in
    let more = length-cells_of rows n (λ r within. even (suc r) (omega arith)) in
    omega (arith, length-append cs (cells_of rows))

pub length-cells_of-box : (dimension layers : ℕ) (rows : List (List ℕ)) → 0 < layers → ragged layers rows ≡ None → length (cells_of rows) ≡ cells (box_of dimension layers rows)
length-cells_of-box dimension layers rows some none =
    let divides = (no_other (other_row rows) (length rows) layers none).1 in
    let whole : length rows ≡ length rows / layers * layers = omega (arith, div-add-mod (length rows) layers) in
    length-cells_of rows (width rows) (even_rows layers rows none) ∙ (ap (λ n. width rows * n) whole ∙ sym (mul_assoc (width rows) (length rows / layers) layers))

-- a first density is 0, or at least that of a plain cell, and at most nine steps above it
dense_enough : (density digit c : ℕ) → 442368 ≤ density → density_of density digit c ≢ 0 → 442368 ≤ density_of density digit c
dense_enough density digit c least some = grind (arith, nat_tests)

few_steps : (digit c : ℕ) → is_digit c ≡ true → (c - 48) * digit ≤ 9 * digit
few_steps digit c passed =
    let known : c ≤ 57 = leb-true c 57 (and_parts (nat_le 48 c) (nat_le c 57) passed).1 in
    let few : c - 48 ≤ 9 = omega arith in
    mul-le-mul_right digit few

not_too_dense : (density digit c : ℕ) → density_of density digit c ≤ density + 9 * digit
not_too_dense density digit c =
    cond_both (c == 46) density _ (λ n. n ≤ density + 9 * digit)
    (λ plain. omega arith)
    (λ other. cond_both (is_digit c) (density + (c - 48) * digit) 0 (λ n. n ≤ density + 9 * digit) (λ passed. omega (arith, few_steps digit c passed)) (λ wall. omega arith))

pub are_densities : (dimension layers density digit : ℕ) (rows : List (List ℕ)) → 0 < layers → ragged layers rows ≡ None → 442368 ≤ density → density + 9 * digit ≤ 4194304
    → AreDensities (box_of dimension layers rows) (map (density_of density digit) (cells_of rows))
are_densities dimension layers density digit rows some none least most = record {
  one_each = length-map (cells_of rows) (density_of density digit) ∙ length-cells_of-box dimension layers rows some none;
  not_thin = All-map (λ n. n ≢ 0 → 442368 ≤ n) (density_of density digit) (cells_of rows) (λ k d within. dense_enough density digit (get_or (cells_of rows) k d) least);
  not_dense = All-map (λ n. n ≤ 4194304) (density_of density digit) (cells_of rows) (λ k d within. omega (arith, not_too_dense density digit (get_or (cells_of rows) k d)));
}

pub are_first_densities : (density digit : ℕ) (cs : List ℕ) → 442368 ≤ density → density + 9 * digit ≤ 3569472 → All IsFirstDensity (map (density_of density digit) cs)
are_first_densities density digit cs least most =
    All-map IsFirstDensity (density_of density digit) cs
    (λ k d within some. (dense_enough density digit (get_or cs k d) least some, (omega (arith, not_too_dense density digit (get_or cs k d)))))

-- the numbers of the moving cells rise, and each is that of a wall
rising_range : (a n : ℕ) → IsStrictlyIncreasing (range_with_len a n)
rising_range a n k within =
    let long = length-range_with_len a n in
    omega (arith, get_or-range_with_len a n k 0 (omega arith), get_or-range_with_len a n (k + 1) 0 (omega arith))

below_length : (cs : List ℕ) → All (λ x. x < length cs) (range_with_len 0 (length cs))
below_length cs k d within =
    let long = length-range_with_len 0 (length cs) in
    omega (arith, get_or-range_with_len 0 (length cs) k d (omega arith))

-- the cells that move are walls
solid_at : (density digit : ℕ) (cs : List ℕ) (x : ℕ) → x < length cs → (get_or cs x 0 == 61) ≡ true → get_or (map (density_of density digit) cs) x 0 ≡ 0
solid_at density digit cs x within moves = get_or-map (density_of density digit) cs x 0 0 within ∙ rw (eqb-true _ _ moves) refl

pub are_moving : (density digit : ℕ) (cs : List ℕ) → AreMoving (map (density_of density digit) cs) (moving_in cs)
are_moving density digit cs =
    let moves : ℕ → Bool = λ x. get_or cs x 0 == 61 in
    let known = All-filter moves (λ x. x < length cs) (range_with_len 0 (length cs)) (below_length cs) in
    let passes = filter_passes moves (range_with_len 0 (length cs)) in
    record {
      rising = IsStrictlyIncreasing-filter moves (range_with_len 0 (length cs)) (rising_range 0 (length cs));
      known = λ k d within. rw (length-map cs (density_of density digit)) (known k d within);
      solid = λ k d within. solid_at density digit cs (get_or (moving_in cs) k d) (known k d within) (passes k d within);
    }

-- the number that a ragged drawing names is at most that of its rows
or_length : (o : Option ℕ) (n layers r : ℕ) → ((k : ℕ) → o ≡ Some k → k < n) → option_or o (cond (n % layers == 0) None (Some n)) ≡ Some r → r ≤ n
or_length (Some k) n layers r known given = let same : k ≡ r = cc in let less = known k refl in omega arith
or_length None n layers r known given = elim (cases_Bool (n % layers == 0)) [
  | inl divides ↦ absurd (none-some _ (sym (cond-true _ _ _ divides) ∙ given))
  | inr rest ↦ (let same : n ≡ r = same_Some _ _ (sym (cond-false _ _ _ rest) ∙ given) in omega arith)
]

pub ragged-within : (layers : ℕ) (rows : List (List ℕ)) (r : ℕ) → ragged layers rows ≡ Some r → r ≤ length rows
unfolding other_row
ragged-within layers rows r given = or_length (other_row rows) (length rows) layers r (λ k found. position-within (λ cs. not (length cs == width rows)) rows k found) given
