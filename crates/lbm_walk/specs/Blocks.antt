-- Eight cells in step. A block has a row of eight numbers for each direction, and a cell is a lane of it.
use Rattle.std.specs.Prelude.{◌≡◌, ℕ, ◌<◌, List, [], length, ℤ, pos, slice_index_or}
use Rattle.lbm_space.specs.Limits.{most_directions}

-- the eight numbers of direction i
abbrev pub row : List (List ℤ) → ℕ → List ℤ
row rows i = slice_index_or rows i []

-- the populations of the cell in lane j
abbrev pub lane : List (List ℤ) → ℕ → ℕ → ℤ
lane rows j i = slice_index_or (row rows i) j (pos 0)

-- a block has a row of eight lanes for each direction that a set may have
pub record IsBlock (rows : List (List ℤ)) : Type 0 where
  pub count : length rows ≡ most_directions
  pub lanes : (i : ℕ) → i < most_directions → length (row rows i) ≡ 8
