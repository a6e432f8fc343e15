-- The case of a voxel file and of a case, or the first refusal of the file.
use Rattle.std.specs.Prelude.{ℕ, List, [], ◌∷◌, map, find, pos, Bool, ◌&&◌, ◌==◌, nat_le, if◌then◌else◌, Option, Some, None, option_and_then, is_none, unwrap_or, slice_get, Result, Ok, ok_or}
use Rattle.std.specs.List.{range_with_len}
use Rattle.lbm_number.specs.Number.{number_of}
use Rattle.lbm_space.specs.Torus.{Torus, torus, cells}
use Rattle.lbm_cell.specs.Limits.{least_density, greatest_density}
use Rattle.lbm_model.specs.Case.{FlowCase}
use Rattle.lbm_model.specs.Refusals.{◌>>=◌, demand}
use Rattle.lbm_case.specs.Drawing.{is_space}
use Rattle.lbm_voxel.specs.declared.fault.VoxelFault.{VoxelFault}
use Rattle.lbm_voxel.specs.declared.fault.VoxelFault.TheVariants.{Head, Word, Sides, Count, Value}
use Rattle.lbm_voxel.specs.declared.head.WordKind.{WordKind}
use Rattle.lbm_voxel.specs.Text.{first_line, words}
use Rattle.lbm_voxel.specs.Head.{is_version, is_title, is_ascii, head_in, strange_word, side, count_in, values_in}
use Rattle.lbm_voxel.specs.Refusals.{refuse}

-- ---- the lines

-- what follows line k, which has to be there and to be right
unfoldable pub after_line : (List ℕ → Bool) → ℕ → List ℕ → Result (List ℕ) VoxelFault
after_line is_right k text = do
  line ← ok_or (first_line text) (Head k)
  right ← demand (is_right line.0) (Head k)
  Ok line.1

-- what follows the three lines
unfoldable pub body_of : List ℕ → Result (List ℕ) VoxelFault
body_of bytes = do
  second ← after_line is_version 1 bytes
  third ← after_line is_title 2 second
  after_line is_ascii 3 third

-- ---- the box

-- the box whose sides a head tells, if it is allowed
abbrev pub box_in : ℕ → List WordKind → List (List ℕ) → Torus
box_in dimension head words = torus dimension (side head words 1) (side head words 2) (side head words 3)

abbrev pub space_in : ℕ → List WordKind → List (List ℕ) → Option Torus
space_in dimension head words = if is_space (box_in dimension head words) then Some (box_in dimension head words) else None

-- ---- the values

-- the first density of a cell with a value: 0 is a solid cell, 1 a fluid cell with the unit of density, and half the unit
-- to twice the unit a fluid cell with that density
abbrev pub density_of : ℕ → Option ℕ
density_of value =
    if value == 0 then Some 0
    else if value == 1 then Some 884736
    else if nat_le least_density value && nat_le value greatest_density then Some value
    else None

-- the first density of cell x, where word x after the head is a value
unfoldable pub density_at : List (List ℕ) → ℕ → Option ℕ
density_at values x = option_and_then density_of (option_and_then number_of (slice_get values x))

-- the first of n cells without one
abbrev pub bad_value : List (List ℕ) → ℕ → Option ℕ
bad_value values n = find (λ x. is_none (density_at values x)) (range_with_len 0 n)

-- the first densities of n cells
abbrev pub densities_of : List (List ℕ) → ℕ → List ℕ
densities_of values n = map (λ x. unwrap_or (density_at values x) 0) (range_with_len 0 n)

-- those, or a refusal of the first cell without one
unfoldable pub densities_in : List (List ℕ) → ℕ → Result (List ℕ) VoxelFault
densities_in values n = do
  complete ← refuse Value (bad_value values n)
  Ok (densities_of values n)

-- ---- the file

-- a case in another box, with other first densities, in which no cell moves
abbrev pub with_voxels : FlowCase → Torus → List ℕ → FlowCase
with_voxels case space densities = record case {
  torus = space;
  densities = densities;
  moving = [];
  wall = pos 0 ∷ pos 0 ∷ pos 0 ∷ [];
}

-- what the words after the three lines give
unfoldable pub case_in : List (List ℕ) → FlowCase → Result FlowCase VoxelFault
case_in words case = do
  head ← ok_or (head_in words) (Word (strange_word words))
  space ← ok_or (space_in case.stencil.dimension head words) Sides
  counted ← demand (count_in head words == cells space) Count
  densities ← densities_in (values_in head words) (cells space)
  Ok (with_voxels case space densities)

-- The case of a file and a case, or the first of five refusals: of a line, of a word, of the sides, of the number of values, or
-- of a value. The file tells sides, walls and first densities, and the case all else.
unfoldable pub voxels_of : List ℕ → FlowCase → Result FlowCase VoxelFault
voxels_of bytes case = do
  body ← body_of bytes
  case_in (words body) case
