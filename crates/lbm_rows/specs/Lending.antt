-- Tiles: rows of cells, with the kept rows that a step lends to them.
--     time    the time from which the step is made
use Rattle.std.specs.Prelude.{◌≡◌, ℕ, ◌+◌, ◌-◌, ◌*◌, ◌/◌, ◌%◌, ◌<◌, ◌≤◌, nat_eq, List, [], length, ℤ, pos, slice_index_or, if◌then◌else◌, unsigned_abs}
use Rattle.lbm_space.specs.Torus.{rows, x_of}
use Rattle.lbm_walk.specs.Places.{InRows}
use Rattle.lbm_model.specs.Case.{FlowCase, target}
use Rattle.lbm_model.specs.Layout.{array_of, aa_layout}
use Rattle.lbm_model.specs.Small.{size_limit}
use Rattle.lbm_sweep.specs.Blocks.{IsSized}

-- what contracts see of a tile: its rows of cells are those from `first` up to, not including, `end`; array after array it has a kept row for each of them
pub record TileModel : Type 0 where
  pub first : ℕ
  pub end : ℕ
  pub kept : List (List ℤ)

abbrev pub tile_of : (rows : ℕ × ℕ) → List (List ℤ) → TileModel
tile_of rows kept = record { first = rows.0; end = rows.1; kept = kept }

abbrev pub height : TileModel → ℕ
height tile = tile.end - tile.first

-- the kept row of array k for row first + n
abbrev pub kept_row : TileModel → (k n : ℕ) → List ℤ
kept_row tile k n = slice_index_or tile.kept (k * height tile + n) []

-- In a step each cell touches one slot of each array: its own at even times, at odd ones that of the cell to which the array's direction leads.
abbrev pub touched : FlowCase → (time k x : ℕ) → ℕ
touched case time k x = if nat_eq (time % 2) 0 then x else target case x k

-- the row of the cells whose slots of array k the cells of row r touch: a step lends its kept row
abbrev pub lent_row : FlowCase → (time k r : ℕ) → ℕ
lent_row case time k r = touched case time k (r * case.torus.nx) / case.torus.nx

-- the number of that kept row among all of them
abbrev pub lent_number : FlowCase → (time k r : ℕ) → ℕ
lent_number case time k r = k * rows case.torus + lent_row case time k r

-- the tile has the kept rows that a step lends to it
pub record IsLent (case : FlowCase) (time : ℕ) (kept : List (List ℤ)) (tile : TileModel) : Type 0 where
  pub some : tile.first < tile.end
  pub inside : tile.end ≤ rows case.torus
  pub count : length tile.kept ≡ case.stencil.directions * height tile
  pub lent : (k n : ℕ) → k < case.stencil.directions → n < height tile → kept_row tile k n ≡ slice_index_or kept (lent_number case time k (tile.first + n)) []

-- a tile of a case, with a kept row in each array for each of its rows
pub record IsTile (case : FlowCase) (tile : TileModel) : Type 0 where
  pub some : tile.first < tile.end
  pub inside : tile.end ≤ rows case.torus
  pub sized : IsSized (case.stencil.directions * height tile) (case.torus.nx + 2) tile.kept

-- a cell of the tile
abbrev pub InTile : FlowCase → TileModel → ℕ → Type 0
InTile case tile x = InRows case.torus (tile.first, tile.end) x

-- what stands in the slot of array k that cell x touches
abbrev pub in_slot : FlowCase → ℕ → TileModel → (k x : ℕ) → ℤ
in_slot case time tile k x = slice_index_or (kept_row tile k (x / case.torus.nx - tile.first)) (1 + x_of case.torus (touched case time k x)) (pos 0)

-- population i of cell x, which the cell takes
abbrev pub taken : FlowCase → ℕ → TileModel → (x i : ℕ) → ℤ
taken case time tile x i = in_slot case time tile (array_of case.stencil (aa_layout time) i) x

-- what stands where cell x sends direction i, which is population i of the cell ahead at the next time
abbrev pub sent : FlowCase → ℕ → TileModel → (x i : ℕ) → ℤ
sent case time tile x i = in_slot case time tile (array_of case.stencil (aa_layout (time + 1)) i) x

-- a tile of the case, of which no population is too large
pub record IsReady (case : FlowCase) (time : ℕ) (tile : TileModel) : Type 0 where
  pub whole : IsTile case tile
  pub small : (x i : ℕ) → InTile case tile x → i < case.stencil.directions → unsigned_abs (taken case time tile x i) ≤ size_limit case x

-- a tile of the same rows, with as many kept rows of the same lengths
pub record IsSameShape (old new : TileModel) : Type 0 where
  pub first : new.first ≡ old.first
  pub end : new.end ≡ old.end
  pub count : length new.kept ≡ length old.kept
  pub lengths : (j : ℕ) → j < length old.kept → length (slice_index_or new.kept j []) ≡ length (slice_index_or old.kept j [])

-- the number of the kept row that entry j of a tile of these rows was, among all of them
abbrev pub entry_number : FlowCase → (time : ℕ) → (rows : ℕ × ℕ) → (j : ℕ) → ℕ
entry_number case time rows j = lent_number case time (j / (rows.1 - rows.0)) (rows.0 + j % (rows.1 - rows.0))
