-- Where a cell finds its populations in a lattice whose pads are loaded: behind it.
use Rattle.std.specs.Prelude.{◌≡◌, ℕ, ◌+◌, ◌-◌, ◌*◌, ◌<◌, List, pos, ◌-ℤ◌, slice_index}
use Rattle.lbm_space.specs.Stencil.{Stencil, velocity}
use Rattle.lbm_space.specs.Torus.{Torus, padded}
use Rattle.lbm_space.specs.Padded.{offset}
use Rattle.lbm_arrays.specs.Pads.{place_slot}
use Rattle.lbm_arrays.specs.Steps.{place_behind}

-- the slot of that place in the array of direction i, where arrays have no margins
abbrev pub slot_behind : Torus → Stencil → ℕ → ℕ → ℕ
slot_behind t v cell i = place_slot t 0 i 0 (place_behind t (velocity v i) cell)

-- for each of the first n directions the slot of the place behind `first`, in the array of the direction
abbrev pub AreBehind : Torus → Stencil → ℕ → ℕ → List ℕ → Type 0
AreBehind t v first n slots = (i : ℕ) → i < n → pos (slice_index slots i) ≡ (pos (i * padded t + first) -ℤ offset t (velocity v i))

-- a slab has `len` places, of which the second takes each of q directions from one of `count` slots, and those from it to the last but one from the slots that follow
abbrev pub AreThere : (q : ℕ) (starts : List ℕ) (len count : ℕ) → Type 0
AreThere q starts len count = (i p : ℕ) → i < q → 0 < p → p + 1 < len → slice_index starts i + (p - 1) < count
