-- A lattice in kept rows, and the tiles into which a step cuts it.
use Rattle.std.specs.Prelude.{◌≡◌, ℕ, ◌+◌, ◌*◌, ◌/◌, ◌<◌, ◌≤◌, min, List, [], ℤ, pos, slice_get, slice_index_or, length, Option, None, Some}
use Rattle.lbm_space.specs.Stencil.{Stencil}
use Rattle.lbm_space.specs.Torus.{cells, rows, x_of}
use Rattle.lbm_model.specs.State.{FlowState, population}
use Rattle.lbm_model.specs.Case.{FlowCase, IsCase}
use Rattle.lbm_model.specs.Layout.{array_of, stands_at, aa_layout}
use Rattle.lbm_model.specs.Small.{IsSmall}
use Rattle.lbm_model.specs.Standing.{Standing}
use Rattle.lbm_rows.specs.Kept.{AreKept, state_kept}
use Rattle.lbm_rows.specs.Division.{AreFew}
use Rattle.lbm_rows.specs.Lending.{TileModel, height, entry_number, IsTile, IsLent}

-- a case at a time, the cell that spent the lattice, if it is spent, and its kept rows
pub record KeptLattice : Type 0 where
  pub case : FlowCase
  pub time : ℕ
  pub spent : Option ℕ
  pub kept : List (List ℤ)

abbrev pub kept_lattice : FlowCase → ℕ → Option ℕ → List (List ℤ) → KeptLattice
kept_lattice case time spent kept = record { case = case; time = time; spent = spent; kept = kept }

-- what it stands for
abbrev pub standing_in : KeptLattice → Standing
standing_in l = record { case = l.case; time = l.time; spent = l.spent; state = state_kept l.case l.time l.kept }

-- each population of a state whose slot is in row r of array k stands there
abbrev pub StandInRow : FlowCase → ℕ → FlowState → (k r : ℕ) → List ℤ → Type 0
StandInRow case time s k r row = (x i : ℕ) → x < cells case.torus → i < case.stencil.directions
    → array_of case.stencil (aa_layout time) i ≡ k → stands_at case (aa_layout time) x i / case.torus.nx ≡ r
    → slice_index_or row (1 + x_of case.torus (stands_at case (aa_layout time) x i)) (pos 0) ≡ population s x i

-- so many rows are a tile's, and so many turns work
pub record IsDivision (rows per_tile workers : ℕ) : Type 0 where
  pub some : 1 ≤ per_tile
  pub few : AreFew rows per_tile
  pub turns : (0 < workers) × (workers ≤ 64)

-- what a lattice in kept rows keeps to: while it is not spent no population is too large
pub record IsKeptLattice (v : Stencil) (l : KeptLattice) : Type 0 where
  pub set : l.case.stencil ≡ v
  pub valid : IsCase l.case
  pub rows : AreKept l.case l.kept
  pub small : l.spent ≡ None → IsSmall l.case (state_kept l.case l.time l.kept)

-- the first row of tile k and the row past its end, where each tile but the last has n rows
abbrev pub tile_bounds : (rows n k : ℕ) → ℕ × ℕ
tile_bounds rows n k = (k * n, min (k * n + n) rows)

-- so many tiles have all rows, and none is empty
pub record IsCut (rows n tiles : ℕ) : Type 0 where
  pub all : rows ≤ tiles * n
  pub each : (k : ℕ) → k < tiles → k * n < rows

-- the tiles of a case that a step lends, of n rows each
pub record AreLent (case : FlowCase) (time n : ℕ) (kept : List (List ℤ)) (tiles : List TileModel) : Type 0 where
  pub cut : IsCut (rows case.torus) n (length tiles)
  pub lent : (k : ℕ) (tile : TileModel) → slice_get tiles k ≡ Some tile → IsLent case time kept tile
  pub bounds : (k : ℕ) (tile : TileModel) → slice_get tiles k ≡ Some tile → (tile.first, tile.end) ≡ tile_bounds (rows case.torus) n k

-- tile k of a case, of n rows
pub record IsTileAt (case : FlowCase) (n k : ℕ) (tile : TileModel) : Type 0 where
  pub whole : IsTile case tile
  pub bounds : (tile.first, tile.end) ≡ tile_bounds (rows case.torus) n k

-- tiles of a case: whole rows, one tile behind the other
pub record AreTiles (case : FlowCase) (tiles : List TileModel) : Type 0 where
  pub n : ℕ
  pub cut : IsCut (rows case.torus) n (length tiles)
  pub at : (k : ℕ) (tile : TileModel) → slice_get tiles k ≡ Some tile → IsTileAt case n k tile

-- the same of the pieces of a closed board, of which none is missing
pub record ArePieces (case : FlowCase) (pieces : List (Option TileModel)) : Type 0 where
  pub n : ℕ
  pub cut : IsCut (rows case.torus) n (length pieces)
  pub at : (k : ℕ) → k < length pieces → (tile : TileModel) × (slice_get pieces k ≡ Some (Some tile)) × IsTileAt case n k tile

-- the kept rows of a tile stand in their places
abbrev pub IsBack : FlowCase → (time : ℕ) → TileModel → (kept : List (List ℤ)) → Type 0
IsBack case time tile kept = (j : ℕ) → j < case.stencil.directions * height tile → slice_index_or kept (entry_number case time (tile.first, tile.end) j) [] ≡ slice_index_or tile.kept j []
