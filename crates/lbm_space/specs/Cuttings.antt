-- Cuttings: the rows of a lattice dealt out to slabs, each of which has consecutive rows.
-- A cutting is its bounds: the first row of each slab, and behind the last slab the number of rows.
use Rattle.std.specs.Prelude.{◌≡◌, ℕ, ◌+◌, ◌-◌, ◌*◌, ◌/◌, ◌<◌, ◌≤◌, min, List, ◌∷◌, length, slice_index}

abbrev pub slabs_of : List ℕ → ℕ
slabs_of bounds = length bounds - 1

-- the first row of slab k, and the row past its end
abbrev pub first_row : List ℕ → ℕ → ℕ
first_row bounds k = slice_index bounds k

abbrev pub end_row : List ℕ → ℕ → ℕ
end_row bounds k = slice_index bounds (k + 1)

-- the number of rows that the slabs have together
abbrev pub rows_of : List ℕ → ℕ
rows_of bounds = slice_index bounds (slabs_of bounds)

-- there are slabs, none is empty, each begins where the one before it ends, and together they have all rows from 0 on
pub record IsCutting (bounds : List ℕ) : Type 0 where
  pub some : 2 ≤ length bounds
  pub begins : first_row bounds 0 ≡ 0
  pub rises : (k : ℕ) → k < slabs_of bounds → first_row bounds k < end_row bounds k

-- a row lies in slab k
abbrev pub HasRow : List ℕ → ℕ → ℕ → Type 0
HasRow bounds k row = (first_row bounds k ≤ row) × (row < end_row bounds k)

-- a row lies in one slab and in no other
pub record IsInOneSlab (bounds : List ℕ) (row : ℕ) : Type 0 where
  pub slab : ℕ
  pub known : slab < slabs_of bounds
  pub holds : HasRow bounds slab row
  pub only : (k : ℕ) → k < slabs_of bounds → HasRow bounds k row → k ≡ slab

-- as many slabs as workers, but no more than rows, of nearly as many rows each
pub record IsEven (rows workers : ℕ) (bounds : List ℕ) : Type 0 where
  pub count : length bounds ≡ min workers rows + 1
  pub firsts : (k : ℕ) → k ≤ min workers rows → slice_index bounds k ≡ k * rows / min workers rows

-- the row that entry k of a list of first rows has to be above: the entry before it, and row 0 for the first
abbrev pub row_before : List ℕ → ℕ → ℕ
row_before entries k = slice_index (0 ∷ entries) k

abbrev pub IsGoodCut : ℕ → List ℕ → ℕ → Type 0
IsGoodCut rows entries k = (row_before entries k < slice_index entries k) × (slice_index entries k < rows)

-- entry k is the first that does not rise or is no row
pub record IsBadCut (rows : ℕ) (entries : List ℕ) (k : ℕ) : Type 0 where
  pub known : k < length entries
  pub earlier : (j : ℕ) → j < k → IsGoodCut rows entries j
  pub bad : IsGoodCut rows entries k → ⊥
