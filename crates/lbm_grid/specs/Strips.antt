-- What slabs save before a sweep writes, and where it is kept.
--     t, v             the space and the velocity set
--     rises            whether the sweep rises
--     begins, width    for the first row of each slab, the first place kept for it of each array, and how many places an array has
use Rattle.std.specs.Prelude.{◌≡◌, ℕ, zero, suc, ◌+◌, ◌-◌, ◌*◌, ◌<◌, ◌≤◌, min, Bool, List, length, ℤ, unsigned_abs, slice_index, if◌then◌else◌}
use Rattle.lbm_space.specs.Stencil.{Stencil}
use Rattle.lbm_space.specs.Torus.{Torus, rows, padded}
use Rattle.lbm_space.specs.Padded.{reach, row_start}
use Rattle.lbm_space.specs.Cuttings.{slabs_of, first_row, end_row}
use Rattle.lbm_arrays.specs.Arrays.{array_size, held}
use Rattle.lbm_arrays.specs.Pads.{place_slot}
use Rattle.lbm_arrays.specs.Steps.{Strip, rising_strip, falling_strip}

-- what a slab of the rows from a up to, not including, b saves of array k
abbrev pub strip_of : Torus → Stencil → Bool → ℕ → ℕ → ℕ → Strip
strip_of t v rises k a b = if rises then rising_strip t v k a b else falling_strip t v k a b

-- the first of its places, and the one past its end
abbrev pub first_of : Strip → ℕ
first_of strip = unsigned_abs strip.0

abbrev pub past_of : Strip → ℕ
past_of strip = unsigned_abs strip.1

-- how many places are kept for such a strip, whichever way the sweep goes
abbrev pub room_of : Torus → Stencil → ℕ → ℕ → ℕ
room_of t v a b = min (row_start t b - row_start t a) (2 * reach t v)

-- how many are kept of an array for the first n slabs of a cutting
abbrev pub rooms_of : Torus → Stencil → List ℕ → ℕ → ℕ
rooms_of t v bounds zero = 0
rooms_of t v bounds (suc n) = rooms_of t v bounds n + room_of t v (first_row bounds n) (end_row bounds n)

-- the rooms of an array's strips lie one behind the other, those of one array behind those of another
pub record AreRooms (t : Torus) (v : Stencil) (bounds begins : List ℕ) (width size : ℕ) : Type 0 where
  pub count : length begins ≡ rows t
  pub begin : (j : ℕ) → j < slabs_of bounds → slice_index begins (first_row bounds j) ≡ rooms_of t v bounds j
  pub all : width ≡ rooms_of t v bounds (slabs_of bounds)
  pub whole : size ≡ v.directions * width

-- where the room for array k of a slab begins whose first row is a
abbrev pub room_at : (begins : List ℕ) (width k a : ℕ) → ℕ
room_at begins width k a = k * width + slice_index begins a

-- place p of a strip of array k is kept of a slab
abbrev pub kept_at : Torus → Stencil → Bool → (begins : List ℕ) (width k a b p : ℕ) → ℕ
kept_at t v rises begins width k a b p = room_at begins width k a + (p - first_of (strip_of t v rises k a b))

-- what is saved of: an array for each direction, of `margin` slots more than the space has padded places
pub record AreArrays (t : Torus) (v : Stencil) (margin base : ℕ) (slots : List ℤ) : Type 0 where
  pub dimension : v.dimension ≡ t.dimension
  pub room : base ≤ margin
  pub few : margin ≤ padded t
  pub whole : length slots ≡ v.directions * array_size t margin

-- place p of the strip of array k is kept of slab j, if it is a place of it: as the slots hold it, whose padded place 0 is slot `base` of each array
abbrev pub IsSaved : (t : Torus) (v : Stencil) (rises : Bool) (bounds begins : List ℕ) (width margin base : ℕ) (slots kept : List ℤ) (j k p : ℕ) → Type 0
IsSaved t v rises bounds begins width margin base slots kept j k p =
    first_of (strip_of t v rises k (first_row bounds j) (end_row bounds j)) ≤ p → p < past_of (strip_of t v rises k (first_row bounds j) (end_row bounds j))
    → held kept (kept_at t v rises begins width k (first_row bounds j) (end_row bounds j) p) ≡ held slots (place_slot t margin k base p)

-- so the strips of the first n slabs are
pub record AreSaved (t : Torus) (v : Stencil) (rises : Bool) (bounds begins : List ℕ) (width margin base n : ℕ) (slots kept : List ℤ) : Type 0 where
  pub saved : (j k p : ℕ) → j < n → k < v.directions → IsSaved t v rises bounds begins width margin base slots kept j k p
