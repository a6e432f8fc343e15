-- The padded lattice: the cells with one more place on either side of each axis, the pads. A plane has none above or below it.
use Rattle.std.specs.Prelude.{◌≡◌, ℕ, zero, suc, ◌+◌, ◌-◌, ◌/◌, ◌%◌, ◌<◌, List, ℤ, pos, ◌+ℤ◌, ◌-ℤ◌, ◌*ℤ◌, unsigned_abs, nat_eq, nat_lt, if◌then◌else◌}
use Rattle.std.specs.Int.{int_max}
use Rattle.lbm_space.specs.Stencil.{Stencil, part, velocity}
use Rattle.lbm_space.specs.Torus.{Torus, torus, cells, rows, cell_number, x_of, y_of, z_of, modulo, padded}

-- the box of the padded places, which are numbered in it as cells are
abbrev pub padded_box : Torus → Torus
padded_box t = torus t.dimension (t.nx + 2) (t.ny + 2) (if nat_eq t.dimension 2 then 1 else t.nz + 2)

-- how many layers of pads lie below the cells
abbrev pub pads_below : Torus → ℕ
pads_below t = if nat_eq t.dimension 2 then 0 else 1

-- the place of a cell
unfoldable pub padded_index : Torus → ℕ → ℕ
padded_index t cell = cell_number (padded_box t) (x_of t cell + 1) (y_of t cell + 1) (z_of t cell + pads_below t)

-- how far apart two places are that differ by c, without wrapping
unfoldable pub offset : Torus → List ℤ → ℤ
offset t c = part c 0 +ℤ pos (t.nx + 2) *ℤ (part c 1 +ℤ pos (t.ny + 2) *ℤ part c 2)

-- the place to which c leads from a cell, without wrapping
unfoldable pub place_ahead : Torus → List ℤ → ℕ → ℕ
place_ahead t c cell = unsigned_abs (pos (padded_index t cell) +ℤ offset t c)

-- the greatest of 0, f 0, f 1, .., f (n - 1)
abbrev pub greatest_below : ℕ → (ℕ → ℤ) → ℤ
greatest_below zero f = pos 0
greatest_below (suc n) f = int_max (greatest_below n f) (f n)

-- the greatest offset of a set
unfoldable pub reach : Torus → Stencil → ℕ
reach t v = unsigned_abs (greatest_below v.directions (λ i. offset t (velocity v i)))

-- the cell for which a place stands: each of its coordinates is counted from the first cell, modulo the side
unfoldable pub wrap : Torus → ℕ → ℕ
wrap t p = cell_number t
    (modulo (pos (x_of (padded_box t) p) -ℤ pos 1) t.nx)
    (modulo (pos (y_of (padded_box t) p) -ℤ pos 1) t.ny)
    (modulo (pos (z_of (padded_box t) p) -ℤ pos (pads_below t)) t.nz)

-- a place is interior where a cell stands at it; each other place of the box is a pad
unfoldable pub IsInterior : Torus → ℕ → Type 0
IsInterior t p = (cell : ℕ) × (cell < cells t) × (padded_index t cell ≡ p)

pub record IsPad (t : Torus) (p : ℕ) : Type 0 where
  pub known : p < padded t
  pub outside : IsInterior t p → ⊥

-- the place left of the first cell of a row
abbrev pub place_before : Torus → ℕ → ℕ
place_before t row = cell_number (padded_box t) 0 (row % t.ny + 1) (row / t.ny + pads_below t)

-- where each row starts, and past the last of them where the last one ends
unfoldable pub row_start : Torus → ℕ → ℕ
row_start t row = if nat_lt row (rows t) then place_before t row else place_before t (rows t - 1) + (t.nx + 2)
