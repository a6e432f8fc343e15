-- A row of cells of a case, and where their populations stand by a layout.
use Rattle.std.specs.Prelude.{◌≡◌, ℕ, ◌+◌, ◌*◌, ◌<◌, ◌≤◌, List, ℤ, slice_index}
use Rattle.lbm_space.specs.Stencil.{Stencil}
use Rattle.lbm_space.specs.Torus.{rows, padded}
use Rattle.lbm_model.specs.State.{FlowState, population}
use Rattle.lbm_model.specs.Case.{FlowCase, IsCase}
use Rattle.lbm_model.specs.declared.layout.Layout.{Layout}
use Rattle.lbm_model.specs.Layout.{IsRound, population_in}
use Rattle.lbm_sweep.specs.declared.cell_row.CellRow.{CellRow}

-- the cell at x of the row
abbrev pub cell_at : CellRow → ℕ → ℕ
cell_at r x = r.number * r.width + x

-- a row of the case, with the places of each direction's populations
pub record IsRow (v : Stencil) (r : CellRow) : Type 0 where
  pub set : r.case.now.stencil ≡ v
  pub valid : IsCase r.case.now
  pub base : r.layout.base ≤ r.layout.margin
  pub margin : r.layout.margin ≤ padded r.case.now.torus
  pub known : r.number < rows r.case.now.torus
  pub width : r.width ≡ r.case.now.torus.nx
  pub places : (i : ℕ) → i < v.directions → IsRound r.case.now r.layout r.number i (slice_index r.firsts i, slice_index r.aheads i)

-- the populations of the first n cells stand in their slots
abbrev pub ArePlaced : FlowCase → Layout → FlowState → ℕ → List ℤ → Type 0
ArePlaced case layout s n slots = (y i : ℕ) → y < n → i < case.stencil.directions → population_in case layout slots y i ≡ population s y i
