-- Where a cell finds its populations: behind it, in its slab's range or in what its slab has saved. Places p are those of
-- the slab's ranges.
--     rises    whether the sweep rises
--     saved    what the slabs have saved
--     k        an array, and the direction whose populations it has
use Rattle.std.specs.Prelude.{◌≡◌, ◌⊎◌, ℕ, ◌+◌, ◌-◌, ◌*◌, ◌<◌, ◌≤◌, nat_le, nat_lt, if◌then◌else◌, Bool, ◌&&◌, ◌||◌, true, false, List, [], length, ℤ, pos, ◌+ℤ◌, ◌-ℤ◌, unsigned_abs, slice_index, slice_index_or}
use Rattle.lbm_space.specs.Stencil.{Stencil, IsVelocitySet, velocity}
use Rattle.lbm_space.specs.Torus.{Torus, IsSpace, rows as row_count}
use Rattle.lbm_space.specs.Padded.{offset, reach, row_start}
use Rattle.lbm_arrays.specs.Lent.{Lent, Place, first_slot}
use Rattle.lbm_cell.specs.Rows.{entry}
use Rattle.lbm_sweep.specs.Blocks.{IsSized}
use Rattle.lbm_walk.specs.Places.{local}
use Rattle.lbm_grid.specs.Strips.{strip_of, first_of, past_of, room_of, room_at}
use Rattle.lbm_grid.specs.declared.reading.Reading.{Reading}

-- how far from its own place of the range a cell reads array k: higher where the sweep rises, lower where it falls
abbrev pub far_of : Torus → Stencil → Bool → ℕ → ℕ
far_of t v true k = unsigned_abs (pos (reach t v) -ℤ offset t (velocity v k))
far_of t v false k = unsigned_abs (pos (reach t v) +ℤ offset t (velocity v k))

-- there
abbrev pub read_place : Bool → (far p : ℕ) → ℕ
read_place true far p = p + far
read_place false far p = p - far

-- the place of the cell before which padded place q lies along direction k, in a slab whose first row is a
abbrev pub taker : Torus → Stencil → (k a q : ℕ) → ℕ
taker t v k a q = unsigned_abs ((pos q +ℤ offset t (velocity v k)) -ℤ pos (row_start t a))

-- how a slab of these rows reads array k
abbrev pub reading_of : Torus → Stencil → Bool → (begins : List ℕ) (width : ℕ) → ℕ × ℕ → ℕ → Reading
reading_of t v rises begins width rows k = record {
  first = taker t v k rows.0 (first_of (strip_of t v rises k rows.0 rows.1));
  past = taker t v k rows.0 (past_of (strip_of t v rises k rows.0 rows.1));
  at = room_at begins width k rows.0;
  far = far_of t v rises k;
}

-- reading k of some
abbrev pub reading_at : List Reading → ℕ → Reading
reading_at readings k = slice_index_or readings k (record { first = 0; past = 0; at = 0; far = 0 })

-- what the cell of place p takes: what is saved of the strip, or what the range holds
abbrev pub seen : Bool → (saved : List ℤ) (ranges : List (List ℤ)) (k : ℕ) → Reading → ℕ → ℤ
seen rises saved ranges k r p = if nat_lt p r.first then entry ranges k (read_place rises r.far p) else if nat_lt p r.past then slice_index_or saved (r.at + (p - r.first)) (pos 0) else entry ranges k (read_place rises r.far p)

-- it is there
pub record IsThere (rises : Bool) (saved len : ℕ) (r : Reading) (p : ℕ) : Type 0 where
  pub kept : r.first ≤ p → p < r.past → r.at + (p - r.first) < saved
  pub low : (p < r.first) ⊎ (r.past ≤ p) → rises ≡ false → r.far ≤ p
  pub lent : (p < r.first) ⊎ (r.past ≤ p) → read_place rises r.far p < len

-- so is what all cells take of a slab whose ranges have `len` places: the first of them and the last are no cells
pub record AreThere (rises : Bool) (q saved len : ℕ) (readings : List Reading) : Type 0 where
  pub few : len ≤ 4194304
  pub there : (k p : ℕ) → k < q → 0 < p → p + 1 < len → IsThere rises saved len (reading_at readings k) p

-- the strips of the arrays of q directions lie from place `least` up to, not including, `most`
pub record AreBetween (q least most : ℕ) (readings : List Reading) : Type 0 where
  pub low : (k : ℕ) → k < q → least ≤ (reading_at readings k).first
  pub high : (k : ℕ) → k < q → (reading_at readings k).past ≤ most

-- whether none of n places from `at` on lies there
abbrev pub is_outside : (least most at n : ℕ) → Bool
is_outside least most at n = nat_le most at || nat_lt at least && nat_le n (least - at)

-- slot `first` begins the range of array k, and what the cells of n places from `at` on take from it is there
pub record IsRead (rises : Bool) (saved : ℕ) (lent : Lent) (first k : ℕ) (r : Reading) (at n : ℕ) : Type 0 where
  pub known : k < length lent.ranges
  pub begins : first ≡ first_slot lent.place k
  pub few : length (slice_index_or lent.ranges k []) ≤ 4194304
  pub inside : at + n ≤ 4194304
  pub there : (j : ℕ) → j < n → IsThere rises saved (length (slice_index_or lent.ranges k [])) r (at + j)

-- what goes in each of q directions goes to the array of the direction
abbrev pub AreOwn : ℕ → List ℕ → Type 0
AreOwn q writes = (i : ℕ) → i < q → slice_index writes i ≡ i

-- the range of the array of each of q directions begins at the slot of the direction
abbrev pub OwnBegin : ℕ → Place → (slots : List ℕ) → Type 0
OwnBegin q place slots = (i : ℕ) → i < q → slice_index slots i ≡ first_slot place i

-- the ranges of a slab and the room for its strips are as large as they have to be
pub record IsNear (t : Torus) (v : Stencil) (begins : List ℕ) (width size : ℕ) (rows : ℕ × ℕ) (ranges : List (List ℤ)) : Type 0 where
  pub space : IsSpace t
  pub set : IsVelocitySet v
  pub dimension : v.dimension ≡ t.dimension
  pub some : rows.0 < rows.1
  pub inside : rows.1 ≤ row_count t
  pub sized : IsSized v.directions (row_start t rows.1 - row_start t rows.0) ranges
  pub count : length begins ≡ row_count t
  pub room : slice_index begins rows.0 + room_of t v rows.0 rows.1 ≤ width
  pub whole : size ≡ v.directions * width

-- population k of a cell, as a slab of these rows takes it
abbrev pub taken_near : Torus → Stencil → Bool → (begins : List ℕ) (width : ℕ) (saved : List ℤ) → ℕ × ℕ → List (List ℤ) → ℕ → ℕ → ℤ
taken_near t v rises begins width saved rows ranges cell k = seen rises saved ranges k (reading_of t v rises begins width rows k) (local t rows cell)
