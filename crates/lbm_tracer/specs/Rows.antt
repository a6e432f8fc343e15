-- A row of cells, and where the amounts of a tracer stand along it.
use Rattle.std.specs.Prelude.{◌≡◌, ℕ, ◌+◌, ◌*◌, ◌<◌, List, ℤ, pos, slice_index}
use Rattle.lbm_space.specs.Torus.{Torus, IsSpace, rows}
use Rattle.lbm_model.specs.Layout.{array_of, IsRound, aa_layout}
use Rattle.lbm_tracer.specs.Sets.{stencil_of}
use Rattle.lbm_tracer.specs.Tracing.{set_in}
use Rattle.lbm_tracer.specs.Carried.{places_of, amount_in}
use Rattle.lbm_tracer.specs.declared.slots.TracerRow.{TracerRow}

-- the cell at x of the row
abbrev pub cell_at : TracerRow → ℕ → ℕ
cell_at r x = r.number * r.width + x

-- where the amounts of direction k stand along a row at a time: in this array, and there round after each other
pub record IsAlong (t : Torus) (time row k array first ahead : ℕ) : Type 0 where
  pub is_array : array ≡ array_of (set_in t) (aa_layout time) k
  pub array_known : array < (set_in t).directions
  pub round : IsRound (places_of t) (aa_layout time) row k (first, ahead)

pub record IsTracerRow (r : TracerRow) : Type 0 where
  pub space : IsSpace r.space
  pub set : stencil_of r.set ≡ set_in r.space
  pub number_known : r.number < rows r.space
  pub wide : r.width ≡ r.space.nx
  pub along : (k : ℕ) → k < (set_in r.space).directions → IsAlong r.space r.time r.number k (slice_index r.arrays k) (slice_index r.firsts k) (slice_index r.aheads k)

-- each amount of the row's cells is 0
abbrev pub HoldsNothing : TracerRow → List ℤ → Type 0
HoldsNothing r slots = (x k : ℕ) → x < r.width → k < (set_in r.space).directions → amount_in r.space r.time slots (cell_at r x) k ≡ pos 0
