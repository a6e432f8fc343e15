-- A file in the legacy VTK format, version 3.0, with the dataset STRUCTURED_POINTS, in its ASCII or its binary form.
use Rattle.std.specs.Prelude.{ℕ, ℤ, FitsSigned, List, [], ◌∷◌, ◌++◌, codes}
use Rattle.std.specs.Fmt.{decimal, signed_decimal}
use Rattle.std.specs.Int.{w32, cast_unsigned, to_be_bytes}
use Rattle.std.specs.List.{flat_map, join_by}
use Rattle.lbm_space.specs.Torus.{Torus, cells}
use Rattle.lbm_cell.specs.declared.populations.Moment.{Moment}
use Rattle.lbm_vtk.specs.declared.Format.{Format}
use Rattle.lbm_vtk.specs.declared.Format.TheVariants.{Ascii, Binary}

-- every line ends with one byte 10
abbrev pub line : List ℕ → List ℕ
line text = text ++ 10 ∷ []

-- the form, as the file names it
abbrev pub name : Format → List ℕ
name Ascii = codes "ASCII"
name Binary = codes "BINARY"

-- the lines before the numbers: `title` and the step are the second, and `field` names the first table of numbers
abbrev pub head : Torus → (title : List ℕ) → (step : ℕ) → (field : List ℕ) → Format → List (List ℕ)
head space title step field format =
    codes "# vtk DataFile Version 3.0" ∷
    (title ++ decimal step) ∷
    name format ∷
    codes "DATASET STRUCTURED_POINTS" ∷
    (codes "DIMENSIONS " ++ join_by decimal (codes " ") (space.nx ∷ space.ny ∷ space.nz ∷ [])) ∷
    codes "ORIGIN 0 0 0" ∷
    codes "SPACING 1 1 1" ∷
    (codes "POINT_DATA " ++ decimal (cells space)) ∷
    (codes "SCALARS " ++ (field ++ codes " int 1")) ∷
    codes "LOOKUP_TABLE default" ∷
    []

-- a number in two's complement, the highest byte first
abbrev pub four_bytes : ℤ → List ℕ
four_bytes z = to_be_bytes w32 (cast_unsigned w32 z)

-- the numbers of one cell: in ASCII a line, where they are in decimal and joined by single spaces, and in binary four bytes each
abbrev pub row : Format → List ℤ → List ℕ
row Ascii numbers = line (join_by signed_decimal (codes " ") numbers)
row Binary numbers = flat_map four_bytes numbers

-- what follows the numbers of all cells
abbrev pub numbers_end : Format → List ℕ
numbers_end Ascii = []
numbers_end Binary = 10 ∷ []

-- the numbers of all cells
abbrev pub table : Format → (Moment → List ℤ) → List Moment → List ℕ
table format numbers moments = flat_map (λ cell. row format (numbers cell)) moments ++ numbers_end format

-- the numbers of a cell, first in the one table and then in the other
abbrev pub density : Moment → List ℤ
density cell = cell.rho ∷ []

abbrev pub momentum : Moment → List ℤ
momentum cell = cell.jx ∷ cell.jy ∷ cell.jz ∷ []

-- the file of a space at a step, with the moments of its cells in the order of their numbers
abbrev pub vtk : Torus → ℕ → List Moment → Format → List ℕ
vtk space step moments format =
    flat_map line (head space (codes "lattice Boltzmann step ") step (codes "density") format)
    ++ table format density moments
    ++ line (codes "VECTORS momentum int")
    ++ table format momentum moments

-- a file in ASCII with one number for each cell
abbrev pub scalars : Torus → (title : List ℕ) → (step : ℕ) → (field : List ℕ) → List ℤ → List ℕ
scalars space title step field numbers =
    flat_map line (head space title step field Ascii) ++ flat_map (λ number. row Ascii (number ∷ [])) numbers

-- each number of a cell fits the 32 signed bits of an int of VTK
pub record FitsInts (cell : Moment) : Type 0 where
  pub rho : FitsSigned w32 cell.rho
  pub jx : FitsSigned w32 cell.jx
  pub jy : FitsSigned w32 cell.jy
  pub jz : FitsSigned w32 cell.jz
