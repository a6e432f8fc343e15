-- The list of moving cells.
use Rattle.std.proofs.Common.{◌≡◌, ℕ, zero, suc, ◌+◌, ◌-◌, ◌<◌, ◌≤◌, Bool, true, false, List, [], ◌∷◌, length, get_or, arith, refl, sym, ◌∙◌, inl, inr, subst}
use Rattle.std.specs.Prelude.{Result, Ok, Err, is_ok, nat_eq, nat_le, nat_lt, ◌&&◌, ◌||◌}
use Rattle.std.specs.List.{list_any}
use Rattle.std.specs.List.Sorted.{IsStrictlyIncreasing, IsBinarySearchResult}
use Rattle.std.specs.Ordering.{nat_cmp}
use Rattle.std.proofs.lemmas.Bool.{cases_lt, cases_Bool, eq-eqb, ne_eqb, eqb-true, le-leb, lt-leb, lt-ltb, le-ltb}
use Rattle.std.proofs.lemmas.List.{get_or_default}
use Rattle.std.proofs.lemmas.List.Folds.{list_any_at, list_any_none}
use Rattle.std.proofs.lemmas.List.Sorted.{searched}
use Rattle.lbm_model.specs.Case.{FlowCase, IsCase, first_density, is_solid, is_moving}

-- numbers that rise do not fall over a distance
rises : (xs : List ℕ) → IsStrictlyIncreasing xs → (i n : ℕ) → i + n < length xs → get_or xs i 0 ≤ get_or xs (i + n) 0
rises xs rising i zero within = let e : i + 0 ≡ i = omega arith in subst (λ (k : ℕ). get_or xs i 0 ≤ get_or xs k 0) (sym e) (omega arith)
rises xs rising i (suc n) within =
    let e : i + n + 1 ≡ i + suc n = omega arith in
    let up : get_or xs i 0 ≤ get_or xs (i + n) 0 = rises xs rising i n (omega arith) in
    let step : get_or xs (i + n) 0 < get_or xs (i + n + 1) 0 = rising (i + n) (omega arith) in
    subst (λ (k : ℕ). get_or xs i 0 ≤ get_or xs k 0) e (omega arith)

rises_to : (xs : List ℕ) → IsStrictlyIncreasing xs → (i j : ℕ) → i ≤ j → j < length xs → get_or xs i 0 ≤ get_or xs j 0
rises_to xs rising i j between within =
    let e : i + (j - i) ≡ j = omega arith in
    subst (λ (k : ℕ). get_or xs i 0 ≤ get_or xs k 0) e (rises xs rising i (j - i) (omega arith))

-- a search in numbers that rise finds what is among them
pub is_ok-searched : (xs : List ℕ) (x : ℕ) (r : Result ℕ ℕ) → IsStrictlyIncreasing xs → IsBinarySearchResult (λ y. nat_cmp y x) xs r → is_ok r ≡ list_any (λ y. nat_eq x y) xs
is_ok-searched xs x (Ok i) rising found =
    let place = searched xs x (Ok i) found (rises_to xs rising) in
    sym (list_any_at (λ y. nat_eq x y) xs i 0 place.0 (eq-eqb x (get_or xs i 0) (sym place.1)))
is_ok-searched xs x (Err i) rising found =
    let place = searched xs x (Err i) found (rises_to xs rising) in
    sym (list_any_none (λ y. nat_eq x y) xs (λ k d within.
    let same : get_or xs k d ≡ get_or xs k 0 = get_or_default xs k d 0 within in
    elim (cases_lt k i) [
      | inl before ↦ (let low : get_or xs k 0 < x = place.1 k before in ne_eqb x (get_or xs k d) (λ e. omega arith))
      | inr after ↦ (let high : x < get_or xs k 0 = place.2 k after within in ne_eqb x (get_or xs k d) (λ e. omega arith))
    ]))

-- a number from x up to x + n
is_within : (x n y : ℕ) → x ≤ y → y < x + n → (nat_le x y && nat_lt y (x + n)) ≡ true
is_within x n y low high = rw (le-leb x y low, lt-ltb y (x + n) high) refl

is_below : (x n y : ℕ) → y < x → (nat_le x y && nat_lt y (x + n)) ≡ false
is_below x n y low = rw (lt-leb x y low) refl

is_above : (x n y : ℕ) → x + n ≤ y → (nat_le x y && nat_lt y (x + n)) ≡ false
is_above x n y high = rw (le-leb x y (omega (arith, high)), le-ltb y (x + n) high) refl

-- a search in numbers that rise tells whether one of n numbers from x on is among them: it finds x, or the next one after it
pub any_from-found : (xs : List ℕ) (x n i : ℕ) → IsStrictlyIncreasing xs → 0 < n → IsBinarySearchResult (λ y. nat_cmp y x) xs (Ok i) → true ≡ list_any (λ y. nat_le x y && nat_lt y (x + n)) xs
any_from-found xs x n i rising some found =
    let place = searched xs x (Ok i) found (rises_to xs rising) in
    sym (list_any_at (λ y. nat_le x y && nat_lt y (x + n)) xs i 0 place.0 (is_within x n (get_or xs i 0) (omega (arith, place.1)) (omega (arith, place.1, some))))

pub next_above : (xs : List ℕ) (x i : ℕ) → IsStrictlyIncreasing xs → IsBinarySearchResult (λ y. nat_cmp y x) xs (Err i) → i < length xs → x < get_or xs i 0
next_above xs x i rising found within = (searched xs x (Err i) found (rises_to xs rising)).2 i (omega arith) within

pub any_from-next : (xs : List ℕ) (x n i : ℕ) → IsStrictlyIncreasing xs → IsBinarySearchResult (λ y. nat_cmp y x) xs (Err i) → i < length xs → nat_lt (get_or xs i 0 - x) n ≡ list_any (λ y. nat_le x y && nat_lt y (x + n)) xs
any_from-next xs x n i rising found within =
    let place = searched xs x (Err i) found (rises_to xs rising) in
    let above : x < get_or xs i 0 = place.2 i (omega arith) within in
    elim (cases_lt (get_or xs i 0 - x) n) [
      | inl near ↦ lt-ltb (get_or xs i 0 - x) n near ∙ sym (list_any_at (λ y. nat_le x y && nat_lt y (x + n)) xs i 0 within (is_within x n (get_or xs i 0) (omega (arith, above)) (omega (arith, above, near))))
      | inr far ↦ le-ltb (get_or xs i 0 - x) n far ∙ sym (list_any_none (λ y. nat_le x y && nat_lt y (x + n)) xs (λ k d known.
          let same : get_or xs k d ≡ get_or xs k 0 = get_or_default xs k d 0 known in
          elim (cases_lt k i) [
            | inl before ↦ is_below x n (get_or xs k d) (omega (arith, same, place.1 k before))
            | inr after ↦ is_above x n (get_or xs k d) (omega (arith, same, far, above, rises_to xs rising i k after known))
          ]))
    ]

pub any_from-end : (xs : List ℕ) (x n i : ℕ) → IsStrictlyIncreasing xs → IsBinarySearchResult (λ y. nat_cmp y x) xs (Err i) → length xs ≤ i → nat_lt i (length xs) ≡ list_any (λ y. nat_le x y && nat_lt y (x + n)) xs
any_from-end xs x n i rising found past =
    let place = searched xs x (Err i) found (rises_to xs rising) in
    le-ltb i (length xs) past ∙ sym (list_any_none (λ y. nat_le x y && nat_lt y (x + n)) xs (λ k d known.
    let same : get_or xs k d ≡ get_or xs k 0 = get_or_default xs k d 0 known in
    is_below x n (get_or xs k d) (omega (arith, same, place.1 k (omega (arith, known, past))))))

-- where none is among them, neither is a certain one
pub none_from : (xs : List ℕ) (x n j : ℕ) → j < n → list_any (λ y. nat_le x y && nat_lt y (x + n)) xs ≡ false → list_any (λ y. nat_eq (x + j) y) xs ≡ false
none_from [] x n j known none = refl
none_from (y ∷ ys) x n j known none = elim (cases_Bool (nat_eq (x + j) y)) [
  | inl here ↦ (
      let same : x + j ≡ y = eqb-true (x + j) y here in
      let found : (nat_le x y && nat_lt y (x + n)) ≡ true = is_within x n y (omega (arith, same)) (omega (arith, same, known)) in
      absurd (let e : true ≡ false = rw found at none in cc))
  | inr other ↦ rw other (none_from ys x n j known (rest (nat_le x y && nat_lt y (x + n)) (list_any (λ y. nat_le x y && nat_lt y (x + n)) ys) none))
]
  where
    rest : (a b : Bool) → (a || b) ≡ false → b ≡ false
    rest true b e = absurd cc
    rest false b e = e

-- a cell that moves is solid
pub moving_solid : (case : FlowCase) (x : ℕ) → IsCase case → is_moving case x ≡ true → is_solid case x ≡ true
moving_solid case x allowed moves = elim (cases_Bool (is_solid case x)) [
  | inl solid ↦ solid
  | inr fluid ↦ absurd (
      let none : is_moving case x ≡ false = list_any_none (λ y. nat_eq x y) case.moving (λ k d known.
      ne_eqb x (get_or case.moving k d) (λ same.
      let here : first_density case x ≡ 0 = rw same (allowed.moving.solid k d known) in
      let solid : is_solid case x ≡ true = eq-eqb (first_density case x) 0 here in
      cc)) in
      cc)
]
