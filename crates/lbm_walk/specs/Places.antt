-- Where the cells of a slab stand in its ranges.
--     t, rows    the space, and the first row of the slab and the row past its end
use Rattle.std.specs.Prelude.{◌≡◌, ℕ, ◌+◌, ◌-◌, ◌*◌, ◌/◌, ◌<◌, ◌≤◌}
use Rattle.lbm_space.specs.Torus.{Torus, cells, rows as row_count}
use Rattle.lbm_space.specs.Padded.{padded_index, row_start}

-- a cell lies in these rows
pub record InRows (t : Torus) (rows : ℕ × ℕ) (cell : ℕ) : Type 0 where
  pub known : cell < cells t
  pub low : rows.0 ≤ cell / t.nx
  pub high : cell / t.nx < rows.1

-- the place of a cell in each range of the slab
abbrev pub local : Torus → ℕ × ℕ → ℕ → ℕ
local t rows cell = padded_index t cell - row_start t rows.0

-- `width` cells from `cell` on are the row of this number of the slab, and stand at the places from `at` on
pub record IsRow (t : Torus) (rows : ℕ × ℕ) (number cell at width : ℕ) : Type 0 where
  pub inside : rows.1 ≤ row_count t
  pub low : rows.0 ≤ number
  pub high : number < rows.1
  pub first : cell ≡ number * t.nx
  pub whole : width ≡ t.nx
  pub begins : row_start t rows.0 + at ≡ row_start t number + 1
