-- The ranges of a loan, array by array, and tables of directions.
use Rattle.std.specs.Prelude.{◌≡◌, ℕ, ◌<◌, List, [], length, ℤ, slice_index, slice_index_or}
use Rattle.lbm_cell.specs.Rows.{entry}

-- what stands in a slot, a slot being a row and a place
abbrev pub slots : List (List ℤ) → ℕ × ℕ → ℤ
slots rows s = entry rows s.0 s.1

-- there are q rows of `len` places each
pub record IsSized (q len : ℕ) (rows : List (List ℤ)) : Type 0 where
  pub count : length rows ≡ q
  pub lengths : (k : ℕ) → k < q → length (slice_index_or rows k []) ≡ len

-- a table of directions: each of the q directions stands in it once
pub record IsTable (q : ℕ) (table : List ℕ) : Type 0 where
  pub some : 0 < q
  pub count : length table ≡ q
  pub known : (i : ℕ) → i < q → slice_index table i < q
  pub distinct : (i j : ℕ) → i < q → j < q → slice_index table i ≡ slice_index table j → i ≡ j
