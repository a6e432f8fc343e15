-- The ranges of a region's arrays that the slabs of a cutting are lent.
--     t, margin    the space, and how many slots an array has beside its padded places
--     shifts       for each array, the slot of padded place 0 and how far the step moves its ranges, together
--     bounds       the cutting
use Rattle.std.specs.Prelude.{◌≡◌, ◌≢◌, ◌↔◌, ℕ, ◌<◌, ◌≤◌, List, length, ℤ, pos, ◌+ℤ◌, ◌≤ℤ◌, unsigned_abs, slice_index_or, slice_range, Option, None}
use Rattle.lbm_space.specs.Sum.{list_below}
use Rattle.lbm_space.specs.Torus.{Torus, rows}
use Rattle.lbm_space.specs.Padded.{row_start}
use Rattle.lbm_space.specs.Cuttings.{slabs_of, first_row, end_row}
use Rattle.lbm_arrays.specs.Arrays.{array_size, slot_at}
use Rattle.lbm_arrays.specs.Least.{least}

abbrev pub shift : List ℤ → ℕ → ℤ
shift shifts k = slice_index_or shifts k (pos 0)

-- the slot at which the range of array k begins for a slab whose first row is `row`
abbrev pub range_start : Torus → ℕ → List ℤ → ℕ → ℕ → ℕ
range_start t margin shifts k row = slot_at t margin k (unsigned_abs (pos (row_start t row) +ℤ shift shifts k))

-- slot s lies in the range of array k for the rows from a up to, not including, b
abbrev pub IsLent : Torus → ℕ → List ℤ → ℕ → ℕ → ℕ → ℕ → Type 0
IsLent t margin shifts k a b s = (range_start t margin shifts k a ≤ s) × (s < range_start t margin shifts k b)

-- what these ranges hold, array by array
abbrev pub lent : Torus → ℕ → List ℤ → ℕ × ℕ → List ℤ → List (List ℤ)
lent t margin shifts row slots =
    list_below (length shifts) (λ k. slice_range slots (range_start t margin shifts k row.0) (range_start t margin shifts k row.1))

-- the rows of slab k
abbrev pub slab_rows : List ℕ → ℕ → ℕ × ℕ
slab_rows bounds k = (first_row bounds k, end_row bounds k)

-- the range of all rows lies in its array, for each array
abbrev pub AreInside : Torus → ℕ → List ℤ → Type 0
AreInside t margin shifts = (k : ℕ) → k < length shifts
    → (pos 0 ≤ℤ (pos (row_start t 0) +ℤ shift shifts k)) × ((pos (row_start t (rows t)) +ℤ shift shifts k) ≤ℤ pos (array_size t margin))

-- each slab's range lies in its array, two slabs share no slot, and together they have exactly the slots of all rows
pub record AreLent (t : Torus) (margin : ℕ) (shifts : List ℤ) (bounds : List ℕ) : Type 0 where
  pub within : (j k : ℕ) → j < slabs_of bounds → k < length shifts
      → (slot_at t margin k 0 ≤ range_start t margin shifts k (first_row bounds j))
      × (range_start t margin shifts k (first_row bounds j) ≤ range_start t margin shifts k (end_row bounds j))
      × (range_start t margin shifts k (end_row bounds j) ≤ slot_at t margin k (array_size t margin))
  pub apart : (i j k l s : ℕ) → i < slabs_of bounds → j < slabs_of bounds → k < length shifts → l < length shifts → i ≢ j
      → IsLent t margin shifts k (first_row bounds i) (end_row bounds i) s → IsLent t margin shifts l (first_row bounds j) (end_row bounds j) s → ⊥
  pub covers : (k s : ℕ) → k < length shifts
      → IsLent t margin shifts k 0 (rows t) s ↔ ((j : ℕ) × (j < slabs_of bounds) × IsLent t margin shifts k (first_row bounds j) (end_row bounds j) s)

-- each slab's work was done on its ranges, and the answer is the least of theirs
pub record IsForked (does : ℕ → ℕ × ℕ → List (List ℤ) → Option ℕ → List (List ℤ) → Type 0) (t : Torus) (margin : ℕ) (shifts : List ℤ) (bounds : List ℕ) (old new : List ℤ) (answer : Option ℕ) : Type 0 where
  pub answers : List (Option ℕ)
  pub count : length answers ≡ slabs_of bounds
  pub done : (k : ℕ) → k < slabs_of bounds
      → does k (slab_rows bounds k) (lent t margin shifts (slab_rows bounds k) old) (slice_index_or answers k None) (lent t margin shifts (slab_rows bounds k) new)
  pub is_least : answer ≡ least answers
