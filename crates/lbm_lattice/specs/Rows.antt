-- The populations along a row of cells.
use Rattle.std.specs.Prelude.{◌≡◌, ℕ, ◌+◌, ◌*◌, ◌<◌, List, ℤ, pos, length, slice_index_or, FitsSigned}
use Rattle.std.specs.Int.{w32}
use Rattle.lbm_model.specs.State.{population}
use Rattle.lbm_model.specs.Standing.{Standing}

-- the list has population i of each cell of a row, in the order of the cells
pub record IsRead (now : Standing) (row i : ℕ) (pops : List ℤ) : Type 0 where
  pub count : length pops ≡ now.case.torus.nx
  pub value : (x : ℕ) → x < now.case.torus.nx → slice_index_or pops x (pos 0) ≡ population now.state (row * now.case.torus.nx + x) i
  pub fits : (x : ℕ) → x < now.case.torus.nx → FitsSigned w32 (slice_index_or pops x (pos 0))
