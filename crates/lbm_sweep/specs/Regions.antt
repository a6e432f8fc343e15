-- A collision over the arrays of a region.
--     t, margin, shifts    the space, how many slots an array has beside its padded places, and how far its lent range is moved
use Rattle.std.specs.Prelude.{◌≡◌, ℕ, ◌+◌, ◌-◌, ◌<◌, List, ℤ}
use Rattle.lbm_space.specs.Torus.{Torus}
use Rattle.lbm_space.specs.Padded.{padded_index, row_start}
use Rattle.lbm_space.specs.Cuttings.{slabs_of}
use Rattle.lbm_arrays.specs.LentRanges.{range_start, lent, slab_rows}
use Rattle.lbm_walk.specs.Places.{InRows}

-- the slot of a cell in array k: its own place of the lent range
abbrev pub range_slot : Torus → ℕ → List ℤ → ℕ → ℕ → ℕ
range_slot t margin shifts k cell = range_start t margin shifts k 0 + (padded_index t cell - row_start t 0)

-- the cell has a slot in one of q arrays
abbrev pub HasSlot : Torus → ℕ → List ℤ → ℕ → ℕ → ℕ → Type 0
HasSlot t margin shifts q cell s = (k : ℕ) × (k < q) × (range_slot t margin shifts k cell ≡ s)

-- P holds of the rows of each slab, of what its ranges hold, and of each of its cells
abbrev pub InEachSlab : Torus → ℕ → List ℤ → List ℕ → List ℤ → (ℕ × ℕ → List (List ℤ) → ℕ → Type 0) → Type 0
InEachSlab t margin shifts bounds slots P =
    (k cell : ℕ) → k < slabs_of bounds → InRows t (slab_rows bounds k) cell → P (slab_rows bounds k) (lent t margin shifts (slab_rows bounds k) slots) cell
