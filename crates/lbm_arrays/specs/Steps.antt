-- The steps of the patterns: how each moves the ranges that it lends, what a cell touches, and what is saved before the slabs write.
--     t, v          the space and the velocity set
--     margin, base  how many slots an array has beside its padded places, and the slot of padded place 0
--     k             an array, and the direction whose populations it has
use Rattle.std.specs.Prelude.{◌⊎◌, ℕ, zero, suc, ◌+◌, ◌/◌, ◌<◌, ◌≤◌, nat_lt, List, ℤ, pos, ◌+ℤ◌, ◌-ℤ◌, ◌≤ℤ◌, ◌<ℤ◌, neg_ℤ, unsigned_abs, if◌then◌else◌}
use Rattle.std.specs.Int.{int_min, int_max}
use Rattle.lbm_space.specs.Sum.{list_below}
use Rattle.lbm_space.specs.Stencil.{Stencil, velocity, opposite}
use Rattle.lbm_space.specs.Torus.{Torus, cells, rows, padded}
use Rattle.lbm_space.specs.Padded.{padded_index, offset, reach, row_start}
use Rattle.lbm_space.specs.Cuttings.{first_row, end_row}
use Rattle.lbm_arrays.specs.Arrays.{array_size, slot_at}
use Rattle.lbm_arrays.specs.LentRanges.{IsLent}
use Rattle.lbm_arrays.specs.declared.steps.Step.{Step}
use Rattle.lbm_arrays.specs.declared.steps.Step.TheVariants.{InPlace, Exchange, Ahead, Rise, Fall}

-- how far a step moves the range of array k
abbrev pub shift_of : Torus → Stencil → Step → ℕ → ℤ
shift_of t v InPlace k = pos 0
shift_of t v Exchange k = if nat_lt k (opposite v k) then offset t (velocity v k) else pos 0
shift_of t v Ahead k = offset t (velocity v k)
shift_of t v Rise k = neg_ℤ (pos (reach t v))
shift_of t v Fall k = pos (reach t v)

-- the shifts of all arrays, counted from their first slots
abbrev pub step_shifts : Torus → Stencil → Step → ℕ → List ℤ
step_shifts t v step base = list_below v.directions (λ k. pos base +ℤ shift_of t v step k)

-- whether the ranges of all rows, so moved, stay in their arrays
abbrev pub HasRoom : Torus → Stencil → Step → ℕ → ℕ → Type 0
HasRoom t v InPlace margin base = base ≤ margin
HasRoom t v Exchange margin base = (1 ≤ base) × (base + 1 ≤ margin)
HasRoom t v Ahead margin base = (1 ≤ base) × (base + 1 ≤ margin)
HasRoom t v Rise margin base = (reach t v ≤ base) × (base ≤ margin)
HasRoom t v Fall margin base = base + reach t v ≤ margin

-- the place of array k that a step touches for a cell, counted from the first slot of the array; a step that rises or falls writes there
abbrev pub touched_place : Torus → ℕ → Stencil → Step → ℕ → ℕ → ℤ
touched_place t base v step k cell = pos (base + padded_index t cell) +ℤ shift_of t v step k

-- its slot
abbrev pub touched : Torus → ℕ → ℕ → Stencil → Step → ℕ → ℕ → ℕ
touched t margin base v step k cell = slot_at t margin k (unsigned_abs (touched_place t base v step k cell))

-- the place from which c leads to a cell, without wrapping, counted from padded place 0
abbrev pub behind : Torus → List ℤ → ℕ → ℤ
behind t c cell = pos (padded_index t cell) -ℤ offset t c

abbrev pub place_behind : Torus → List ℤ → ℕ → ℕ
place_behind t c cell = unsigned_abs (behind t c cell)

-- one of the first n places
abbrev pub IsPlace : ℕ → ℤ → Type 0
IsPlace n z = (pos 0 ≤ℤ z) × (z <ℤ pos n)

-- no cell touches a place of an array before its first slot, or past its last one
abbrev pub TouchesArrays : Torus → Stencil → Step → ℕ → ℕ → Type 0
TouchesArrays t v step margin base = (cell k : ℕ) → cell < cells t → k < v.directions → IsPlace (array_size t margin) (touched_place t base v step k cell)

-- and none that takes its populations from the places behind it reads a place before padded place 0, or past the last one
abbrev pub ReadsPlaces : Torus → Stencil → Type 0
ReadsPlaces t v = (cell k : ℕ) → cell < cells t → k < v.directions → IsPlace (padded t) (behind t (velocity v k) cell)

-- What a slab of the rows from a up to, not including, b saves of array k: the places from the first up to, not including, the second.
abbrev pub Strip : Type 0
Strip = ℤ × ℤ

abbrev pub rising_strip : Torus → Stencil → ℕ → ℕ → ℕ → Strip
rising_strip t v k a b = (
  int_max (pos (row_start t a) -ℤ offset t (velocity v k)) (pos (row_start t b) -ℤ pos (reach t v)),
  int_min (pos (row_start t b) -ℤ offset t (velocity v k)) (pos (padded t)),
)

abbrev pub falling_strip : Torus → Stencil → ℕ → ℕ → ℕ → Strip
falling_strip t v k a b = (
  int_max (pos (row_start t a) -ℤ offset t (velocity v k)) (pos 0),
  int_min (pos (row_start t b) -ℤ offset t (velocity v k)) (pos (row_start t a) +ℤ pos (reach t v)),
)

abbrev pub IsInStrip : Strip → ℕ → Type 0
IsInStrip strip p = (strip.0 ≤ℤ pos p) × (pos p <ℤ strip.1)

-- how many places a strip has
abbrev pub strip_size : Strip → ℕ
strip_size strip = unsigned_abs (int_max (pos 0) (strip.1 -ℤ strip.0))

-- how many the strips of the first n slabs of a cutting have together
abbrev pub strips_size : (ℕ → ℕ → Strip) → List ℕ → ℕ → ℕ
strips_size strip bounds zero = 0
strips_size strip bounds (suc n) = strips_size strip bounds n + strip_size (strip (first_row bounds n) (end_row bounds n))

-- Where a sweep rises or falls, a cell reads array k at the place behind it: from its slab's range, or from what its slab has saved.
pub record IsReadNear (t : Torus) (margin base : ℕ) (v : Stencil) (shifts : List ℤ) (strip : ℕ → ℕ → ℕ → Strip) : Type 0 where
  pub near : (a b cell k : ℕ) → b ≤ rows t → cell < cells t → a ≤ cell / t.nx → cell / t.nx < b → k < v.directions
      → IsLent t margin shifts k a b (slot_at t margin k (base + place_behind t (velocity v k) cell)) ⊎ IsInStrip (strip k a b) (place_behind t (velocity v k) cell)
