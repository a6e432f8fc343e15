-- Voxel files that were worked by hand, and what each of them gives.
use Rattle.std.specs.Prelude.{◌≡◌, ℕ, List, [], ◌∷◌, ◌++◌, codes, Ok, Err}
use Rattle.std.specs.List.{flat_map}
use Rattle.lbm_model.specs.Case.{FlowCase}
use Rattle.lbm_model.specs.Worked.{two_levels}
use Rattle.lbm_voxel.specs.declared.fault.VoxelFault.TheVariants.{Head, Word, Sides, Count, Value}
use Rattle.lbm_voxel.specs.Voxels.{voxels_of}

-- every line ends with a byte 10
abbrev pub file : List (List ℕ) → List ℕ
file lines = flat_map (λ line. line ++ 10 ∷ []) lines

-- a file of two cells, with some of its lines to be chosen
abbrev pub sample : List ℕ → List ℕ → List ℕ → List ℕ → List ℕ → List ℕ → List ℕ
sample form dataset sides count scalars values = file (
    codes "# vtk DataFile Version 3.0" ∷
    codes "lattice Boltzmann step 0" ∷
    form ∷
    dataset ∷
    sides ∷
    codes "ORIGIN 0 0 0" ∷
    codes "SPACING 1 1 1" ∷
    count ∷
    scalars ∷
    codes "LOOKUP_TABLE default" ∷
    values ∷
    [])

abbrev ascii : List ℕ
ascii = codes "ASCII"

abbrev points : List ℕ
points = codes "DATASET STRUCTURED_POINTS"

abbrev two_by_one : List ℕ
two_by_one = codes "DIMENSIONS 2 1 1"

abbrev two : List ℕ
two = codes "POINT_DATA 2"

abbrev ints : List ℕ
ints = codes "SCALARS density int 1"

abbrev fluid : List ℕ
fluid = codes "1 921600"

-- two cells at the unit of density, which a file gives other first densities
unfoldable pub even : FlowCase
even = record two_levels { densities = 884736 ∷ 884736 ∷ [] }

-- the values 1 and 921600 are the unit of density and that density
pub record TwoCells : Type 0 where
  pub accepted : voxels_of (sample ascii points two_by_one two ints fluid) even ≡ Ok two_levels
  -- keywords in small letters, parts in another order, no number of values at a point, and lines that end with 13 and 10
  pub other_spelling : voxels_of (file (
      (codes "# vtk DataFile Version 2.0" ++ 13 ∷ []) ∷
      [] ∷
      (codes "ASCII" ++ 13 ∷ []) ∷
      codes "dataset structured_points" ∷
      codes "aspect_ratio 1 1 1 dimensions" ∷
      codes "02 1 1 origin 0 0 0 point_data 2" ∷
      codes "scalars s unsigned_char lookup_table t" ∷
      codes "001" ∷
      codes "921600 7" ∷
      [])) even ≡ Ok two_levels

-- one line of the file is another
pub record Refused : Type 0 where
  pub no_bytes : voxels_of [] even ≡ Err (Head 1)
  pub no_line_feed : voxels_of (codes "# vtk DataFile Version 3.0") even ≡ Err (Head 1)
  pub binary : voxels_of (sample (codes "BINARY") points two_by_one two ints fluid) even ≡ Err (Head 3)
  pub other_dataset : voxels_of (sample ascii (codes "DATASET POLYDATA") two_by_one two ints fluid) even ≡ Err (Word 1)
  pub float_values : voxels_of (sample ascii points two_by_one two (codes "SCALARS density float 1") fluid) even ≡ Err (Word 18)
  pub no_word : voxels_of (file (codes "# vtk DataFile Version 3.0" ∷ [] ∷ ascii ∷ [])) even ≡ Err (Word 0)
  pub too_wide : voxels_of (sample ascii points (codes "DIMENSIONS 4097 1 1") two ints fluid) even ≡ Err Sides
  pub not_plane : voxels_of (sample ascii points (codes "DIMENSIONS 1 1 2") two ints fluid) even ≡ Err Sides
  pub other_count : voxels_of (sample ascii points two_by_one (codes "POINT_DATA 3") ints fluid) even ≡ Err Count
  pub other_value : voxels_of (sample ascii points two_by_one two ints (codes "1 7")) even ≡ Err (Value 1)
  pub missing_value : voxels_of (sample ascii points two_by_one two ints (codes "1")) even ≡ Err (Value 1)
