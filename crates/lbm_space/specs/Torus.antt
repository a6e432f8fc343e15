use Rattle.std.specs.Prelude.{◌≡◌, ◌⊎◌, ℕ, ◌+◌, ◌*◌, ◌/◌, ◌%◌, ◌<◌, ◌≤◌, List, ℤ, pos, ◌-ℤ◌, unsigned_abs, nat_eq, if◌then◌else◌}
use Rattle.std.specs.Int.{int_rem_euclid}
use Rattle.lbm_space.specs.Limits.{greatest_side, most_places}
use Rattle.lbm_space.specs.Stencil.{part}

-- a box of cells in which every axis is periodic
pub record Torus : Type 0 where
  pub dimension : ℕ
  pub nx : ℕ
  pub ny : ℕ
  pub nz : ℕ

abbrev pub torus : ℕ → ℕ → ℕ → ℕ → Torus
torus dimension nx ny nz = record { dimension = dimension; nx = nx; ny = ny; nz = nz }

abbrev pub cells : Torus → ℕ
cells t = t.nx * t.ny * t.nz

-- a row is the cells of one y and one z
abbrev pub rows : Torus → ℕ
rows t = t.ny * t.nz

-- the number of the cell at (x, y, z), where x varies fastest
abbrev pub cell_number : Torus → ℕ → ℕ → ℕ → ℕ
cell_number t x y z = x + t.nx * (y + t.ny * z)

-- the coordinates of a cell by its number
abbrev pub x_of : Torus → ℕ → ℕ
x_of t cell = cell % t.nx

abbrev pub y_of : Torus → ℕ → ℕ
y_of t cell = cell / t.nx % t.ny

abbrev pub z_of : Torus → ℕ → ℕ
z_of t cell = cell / t.nx / t.ny

-- z modulo n
abbrev pub modulo : ℤ → ℕ → ℕ
modulo z n = unsigned_abs (int_rem_euclid z (pos n))

-- the neighbour from which velocity c leads to the cell: each coordinate less that of c, modulo the side
abbrev pub back : Torus → List ℤ → ℕ → ℕ
back t c cell = cell_number t
    (modulo (pos (x_of t cell) -ℤ part c 0) t.nx)
    (modulo (pos (y_of t cell) -ℤ part c 1) t.ny)
    (modulo (pos (z_of t cell) -ℤ part c 2) t.nz)

-- how many places the box has with a layer of padding round it
abbrev pub padded : Torus → ℕ
padded t = (t.nx + 2) * (t.ny + 2) * (if nat_eq t.dimension 2 then 1 else t.nz + 2)

-- the sizes that are allowed
pub record IsSpace (t : Torus) : Type 0 where
  pub plane_or_space : (t.dimension ≡ 2) ⊎ (t.dimension ≡ 3)
  pub some_x : 0 < t.nx
  pub some_y : 0 < t.ny
  pub some_z : 0 < t.nz
  pub few_x : t.nx ≤ greatest_side
  pub few_y : t.ny ≤ greatest_side
  pub few_z : t.nz ≤ greatest_side
  pub flat : t.dimension ≡ 2 → t.nz ≡ 1
  pub fits : padded t ≤ most_places
