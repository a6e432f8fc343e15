-- A row of cells, and the kept rows in which its populations stand at a time.
use Rattle.std.specs.Prelude.{◌≡◌, ℕ, ◌+◌, ◌*◌, ◌<◌, slice_index}
use Rattle.lbm_space.specs.Stencil.{Stencil}
use Rattle.lbm_space.specs.Torus.{rows}
use Rattle.lbm_model.specs.Case.{IsCase}
use Rattle.lbm_model.specs.Layout.{array_of, aa_layout}
use Rattle.lbm_rows.specs.declared.reading.CellRow.{CellRow}
use Rattle.lbm_rows.specs.Lending.{lent_number}
use Rattle.lbm_rows.specs.TileRows.{start}

-- the cell at x of the row
abbrev pub cell_at : CellRow → ℕ → ℕ
cell_at r x = r.number * r.width + x

-- a row of the case, with the kept row of each direction and the slot of its first cell in it
pub record IsRow (v : Stencil) (r : CellRow) : Type 0 where
  pub set : r.case.now.stencil ≡ v
  pub valid : IsCase r.case.now
  pub known : r.number < rows r.case.now.torus
  pub width : r.width ≡ r.case.now.torus.nx
  pub numbers : (i : ℕ) → i < v.directions → slice_index r.numbers i ≡ lent_number r.case.now r.time (array_of v (aa_layout r.time) i) r.number
  pub starts : (i : ℕ) → i < v.directions → slice_index r.starts i ≡ start v r.time (array_of v (aa_layout r.time) i)
