-- A row of cells of a tile, in the kept rows that the tile was lent.
--     kept         the kept rows of the tile
--     w            where its cells take their populations and put what they send
--     row, width   the number of the row in the tile, and how many cells it has
--     at, n        the place of the first cell of some, and how many they are: the first cell of the row is at place 1
use Rattle.std.specs.Prelude.{◌≡◌, ◌⊎◌, ℕ, zero, suc, ◌+◌, ◌-◌, ◌*◌, ◌/◌, ◌%◌, ◌<◌, ◌≤◌, nat_eq, List, [], length, ℤ, pos, ◌+ℤ◌, unsigned_abs, slice_index, slice_index_or, slice_set, if◌then◌else◌}
use Rattle.lbm_space.specs.Limits.{most_directions}
use Rattle.lbm_space.specs.Stencil.{Stencil, part, velocity, opposite}
use Rattle.lbm_cell.specs.Rows.{entry}
use Rattle.lbm_model.specs.Layout.{array_of, aa_layout}
use Rattle.lbm_sweep.specs.Blocks.{IsSized}
use Rattle.lbm_rows.specs.declared.ways.Ways.{Ways}

-- the kept row from which the cells of a row take direction i, and that into which they put it
abbrev pub takes : Ways → (row i : ℕ) → ℕ
takes w row i = slice_index w.takes i + row

abbrev pub puts : Ways → (row i : ℕ) → ℕ
puts w row i = slice_index w.puts i + row

-- what stands at a place, where the slot of place 1 is number `first` of kept row k
abbrev pub stands : List (List ℤ) → (k first place : ℕ) → ℤ
stands kept k first zero = pos 0
stands kept k first (suc p) = entry kept k (first + p)

-- the slot of the cell at x in a kept row, which is a ring, where the first cell's slot is number `start`: 0, 1 or 2
abbrev pub around : (width start x : ℕ) → ℕ
around width start x = 1 + (x + start + (width - 1)) % width

-- a row whose pads are set: slot 0 has what the last cell's has, and the last slot what the first cell's has
abbrev pub with_pads : (width : ℕ) → List ℤ → List ℤ
with_pads width row = slice_set (slice_set row 0 (slice_index_or row width (pos 0))) (width + 1) (slice_index_or row 1 (pos 0))

-- what cells have put into a pad stands where it belongs
abbrev pub without_pads : (width start : ℕ) → List ℤ → List ℤ
without_pads width zero row = slice_set row width (slice_index_or row 0 (pos 0))
without_pads width (suc zero) row = row
without_pads width (suc (suc k)) row = slice_set row 1 (slice_index_or row (width + 1) (pos 0))

-- the slot of the first cell in array k: its own at even times, that of the cell ahead at odd ones
abbrev pub start : Stencil → (time k : ℕ) → ℕ
start v time k = if nat_eq (time % 2) 0 then 1 else unsigned_abs (pos 1 +ℤ part (velocity v k) 0)

-- the ways of the cells of a tile of so many rows, in a step from a time
pub record AreWays (v : Stencil) (time height : ℕ) (w : Ways) : Type 0 where
  pub takes : (i : ℕ) → i < v.directions → slice_index w.takes i ≡ array_of v (aa_layout time) i * height
  pub from : (i : ℕ) → i < v.directions → slice_index w.from i ≡ start v time (array_of v (aa_layout time) i)
  pub puts : (i : ℕ) → i < v.directions → slice_index w.puts i ≡ array_of v (aa_layout (time + 1)) i * height
  pub to : (i : ℕ) → i < v.directions → slice_index w.to i ≡ start v time (array_of v (aa_layout (time + 1)) i)

-- each direction is taken from a kept row of its own, and put where its opposite is taken from
pub record IsExchange (v : Stencil) (w : Ways) : Type 0 where
  pub few : v.directions ≤ most_directions
  pub opposites : (i : ℕ) → i < v.directions → opposite v i < v.directions
  pub distinct : (i j : ℕ) → i < v.directions → j < v.directions → slice_index w.takes i ≡ slice_index w.takes j → i ≡ j
  pub starts : (i : ℕ) → i < v.directions → slice_index w.from i ≤ 2
  pub puts : (i : ℕ) → i < v.directions → slice_index w.puts i ≡ slice_index w.takes (opposite v i)
  pub to : (i : ℕ) → i < v.directions → slice_index w.to i ≡ slice_index w.from (opposite v i)

-- there are the kept rows of a row, and all kept rows have two slots more than it has cells
pub record HasRow (v : Stencil) (w : Ways) (row width : ℕ) (kept : List (List ℤ)) : Type 0 where
  pub known : (i : ℕ) → i < v.directions → takes w row i < length kept
  pub sized : IsSized (length kept) (width + 2) kept

-- one to eight of its cells
pub record AreCells (width at n : ℕ) : Type 0 where
  pub some : 1 ≤ n
  pub few : n ≤ 8
  pub inner : 0 < at
  pub fits : at + n < width + 2

-- no slot but those of the row has changed, and no row its length
pub record IsAlike (v : Stencil) (w : Ways) (row : ℕ) (old new : List (List ℤ)) : Type 0 where
  pub count : length new ≡ length old
  pub lengths : (j : ℕ) → length (slice_index_or new j []) ≡ length (slice_index_or old j [])
  pub beside : (j : ℕ) → ((i : ℕ) → i < v.directions → j ≡ takes w row i → ⊥) → slice_index_or new j [] ≡ slice_index_or old j []

-- nor those at the places before `low` and from `high` on
pub record IsSameBut (v : Stencil) (w : Ways) (row low high : ℕ) (old new : List (List ℤ)) : Type 0 where
  pub alike : IsAlike v w row old new
  pub others : (i p : ℕ) → i < v.directions → (p < low) ⊎ (high ≤ p) → stands new (takes w row i) (slice_index w.from i) p ≡ stands old (takes w row i) (slice_index w.from i) p

-- the kept rows of a tile of so many rows: those of each row are its own
pub record HasRows (v : Stencil) (w : Ways) (height width : ℕ) (kept : List (List ℤ)) : Type 0 where
  pub known : (i n : ℕ) → i < v.directions → n < height → takes w n i < length kept
  pub apart : (i j m n : ℕ) → i < v.directions → j < v.directions → m < height → n < height → takes w m i ≡ takes w n j → m ≡ n
  pub sized : IsSized (length kept) (width + 2) kept

-- what cell x takes from direction i, and what stands where it sends it, in a tile whose first row of cells is `first`
abbrev pub taken_by : (kept : List (List ℤ)) → Ways → (first width x i : ℕ) → ℤ
taken_by kept w first width x i = entry kept (takes w (x / width - first) i) (around width (slice_index w.from i) (x % width))

abbrev pub sent_by : (kept : List (List ℤ)) → Ways → (first width x i : ℕ) → ℤ
sent_by kept w first width x i = entry kept (puts w (x / width - first) i) (around width (slice_index w.to i) (x % width))

-- f has what the cells of some rows take: cell, then direction
abbrev pub AreTakenBy : (q : ℕ) (kept : List (List ℤ)) (w : Ways) (rows : ℕ × ℕ) (width : ℕ) (f : ℕ → ℕ → ℤ) → Type 0
AreTakenBy q kept w rows width f = (x i : ℕ) → rows.0 * width ≤ x → x < rows.1 * width → i < q → taken_by kept w rows.0 width x i ≡ f x i
