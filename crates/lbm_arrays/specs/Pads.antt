-- Copying between the pads of an array and the interior slots for which they stand.
--     t, margin    the space, and how many slots an array has beside its padded places
--     k, base      the array, and the slot of its padded place 0
--     off          an offset
--     old, new     the region's slots before and after
use Rattle.std.specs.Prelude.{◌≡◌, ◌≢◌, ℕ, ◌+◌, ◌<◌, ◌≤◌, List, ℤ, pos, ◌+ℤ◌, ◌-ℤ◌, ◌≤ℤ◌, ◌<ℤ◌, unsigned_abs}
use Rattle.lbm_space.specs.Stencil.{Stencil, part, velocity}
use Rattle.lbm_space.specs.Torus.{Torus, cells, cell_number, modulo, padded}
use Rattle.lbm_space.specs.Padded.{padded_box, pads_below, padded_index, place_ahead, wrap, IsPad}
use Rattle.lbm_arrays.specs.Arrays.{slot_at, held}

-- the slot of a padded place
abbrev pub place_slot : Torus → ℕ → ℕ → ℕ → ℕ → ℕ
place_slot t margin k base p = slot_at t margin k (base + p)

-- the interior place for which a place stands
unfoldable pub stand : Torus → ℕ → ℕ
stand t p = padded_index t (wrap t p)

-- place p is an interior place plus the offset
abbrev pub IsReached : Torus → ℤ → ℕ → Type 0
IsReached t off p = (cell : ℕ) × (cell < cells t) × (pos p ≡ pos (padded_index t cell) +ℤ off)

-- no interior place is the one for which two such places stand
abbrev pub IsOnce : Torus → ℤ → Type 0
IsOnce t off = (p q : ℕ) → IsReached t off p → IsReached t off q → stand t p ≡ stand t q → p ≡ q

-- each pad has the value of the interior slot for which it stands
pub record IsLoaded (t : Torus) (margin k base : ℕ) (old new : List ℤ) : Type 0 where
  pub pads : (p : ℕ) → IsPad t p → held new (place_slot t margin k base p) ≡ held old (place_slot t margin k base (stand t p))
  pub others : (s : ℕ) → ((p : ℕ) → IsPad t p → s ≢ place_slot t margin k base p) → held new s ≡ held old s

-- each interior slot for which a pad stands that is an interior place plus the offset has the pad's value
pub record IsStored (t : Torus) (margin k base : ℕ) (off : ℤ) (old new : List ℤ) : Type 0 where
  pub pads : (p : ℕ) → IsPad t p → IsReached t off p → held new (place_slot t margin k base (stand t p)) ≡ held old (place_slot t margin k base p)
  pub others : (s : ℕ) → ((p : ℕ) → IsPad t p → IsReached t off p → s ≢ place_slot t margin k base (stand t p)) → held new s ≡ held old s

-- each padded place of the first q arrays has the value of the interior place for which it stands
abbrev pub AreLoaded : Torus → (q margin base : ℕ) → (old new : List ℤ) → Type 0
AreLoaded t q margin base old new = (k p : ℕ) → k < q → p < padded t → held new (place_slot t margin k base p) ≡ held old (place_slot t margin k base (stand t p))

-- in the array of each direction the place ahead of each cell has given its value to the interior place for which it stands
abbrev pub AreStored : Torus → Stencil → (margin base : ℕ) → (old new : List ℤ) → Type 0
AreStored t v margin base old new = (k cell : ℕ) → k < v.directions → cell < cells t
    → held new (place_slot t margin k base (stand t (place_ahead t (velocity v k) cell))) ≡ held old (place_slot t margin k base (place_ahead t (velocity v k) cell))

-- a coordinate along a side, where `pads` places lie before the cells and as many behind: that of the cell for which its place stands
abbrev pub ring : ℕ → ℕ → ℕ → ℕ
ring pads side place = modulo (pos place -ℤ pos pads) side + pads

-- where the line of the padded places of one y and one z starts
abbrev pub line_start : Torus → ℕ → ℕ → ℕ
line_start t y z = cell_number (padded_box t) 0 y z

-- and where the line starts for whose cells it stands
abbrev pub stand_start : Torus → ℕ → ℕ → ℕ
stand_start t y z = line_start t (ring 1 t.ny y) (ring (pads_below t) t.nz z)

-- a step of c leads to the coordinate from that of a cell
pub record IsLed (pads side : ℕ) (c : ℤ) (place : ℕ) : Type 0 where
  pub low : pos pads ≤ℤ (pos place -ℤ c)
  pub high : (pos place -ℤ c) <ℤ pos (pads + side)

-- a velocity that leads from each cell to a padded place: its parts are -1, 0 or 1, and it stays in a plane
pub record IsUnitVelocity (t : Torus) (c : List ℤ) : Type 0 where
  pub unit : (a : ℕ) → a < 3 → unsigned_abs (part c a) ≤ 1
  pub flat : t.dimension ≡ 2 → part c 2 ≡ pos 0

-- the n slots from `to` on have what those from `from` on had
pub record IsCopied (from to n : ℕ) (old new : List ℤ) : Type 0 where
  pub run : (j : ℕ) → j < n → held new (to + j) ≡ held old (from + j)
  pub before : (s : ℕ) → s < to → held new s ≡ held old s
  pub behind : (s : ℕ) → to + n ≤ s → held new s ≡ held old s

-- Of the slots of one array's padded places alone: the pads from place lo up to, not including, hi have what the places had for which they stand.
pub record IsLoadedIn (t : Torus) (lo hi : ℕ) (old new : List ℤ) : Type 0 where
  pub pads : (p : ℕ) → lo ≤ p → p < hi → IsPad t p → held new p ≡ held old (stand t p)
  pub others : (p : ℕ) → (lo ≤ p → p < hi → IsPad t p → ⊥) → held new p ≡ held old p

-- and what they stand for has what those of them had that are an interior place plus the offset
pub record IsStoredIn (t : Torus) (off : ℤ) (lo hi : ℕ) (old new : List ℤ) : Type 0 where
  pub pads : (p : ℕ) → lo ≤ p → p < hi → IsPad t p → IsReached t off p → held new (stand t p) ≡ held old p
  pub others : (s : ℕ) → ((p : ℕ) → lo ≤ p → p < hi → IsPad t p → IsReached t off p → s ≢ stand t p) → held new s ≡ held old s
