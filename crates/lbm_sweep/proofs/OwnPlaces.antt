-- What cells take that take their populations from their own places, in each slab of a region.
use Rattle.std.proofs.Common.{◌≡◌, ℕ, ℤ, ◌*◌, ◌<◌, List, length, slice_index, refl, sym, ap, ◌∙◌, subst, arith}
use Rattle.lbm_space.specs.Stencil.{Stencil, IsVelocitySet}
use Rattle.lbm_space.specs.Torus.{Torus, IsSpace, cells, rows as row_count}
use Rattle.lbm_space.specs.Cuttings.{slabs_of, first_row, end_row, rows_of, IsCutting}
use Rattle.lbm_arrays.specs.Arrays.{array_size, held}
use Rattle.lbm_arrays.specs.LentRanges.{lent, slab_rows, AreInside}
use Rattle.lbm_arrays.specs.declared.steps.Step.{Step}
use Rattle.lbm_arrays.specs.Steps.{step_shifts, HasRoom, touched}
use Rattle.lbm_arrays.proofs.Moves.{length-shifts, shifts_inside}
use Rattle.lbm_arrays.proofs.LentReads.{touched_at}
use Rattle.lbm_cell.specs.Rows.{entry}
use Rattle.lbm_sweep.specs.Blocks.{IsTable}
use Rattle.lbm_walk.specs.Places.{local}
use Rattle.lbm_sweep.specs.Slabs.{IsSlab}
use Rattle.lbm_sweep.specs.Regions.{range_slot, InEachSlab}
use Rattle.lbm_walk.proofs.Places.{row_known}
use Rattle.lbm_sweep.proofs.Regions.{slot_entry, slab_is}

-- in a step's ranges, a cell's slot is the one that the step lets it touch
pub slot_touched : (t : Torus) → IsSpace t → (v : Stencil) → IsVelocitySet v → v.dimension ≡ t.dimension → (step : Step) (base margin : ℕ) → HasRoom t v step margin base → (k cell : ℕ) → k < v.directions → cell < cells t
    → range_slot t margin (step_shifts t v step base) k cell ≡ touched t margin base v step k cell
slot_touched t space v laws fits step base margin room k cell known here =
    touched_at t space v laws fits step base margin room 0 (row_count t) cell k (omega arith) here (omega arith) (row_known t space cell here) known

module _ (t : Torus) (space : IsSpace t) (margin : ℕ) (shifts : List ℤ) (inside : AreInside t margin shifts) (q : ℕ) (count : length shifts ≡ q) (bounds : List ℕ) (cutting : IsCutting bounds) (fits : rows_of bounds ≡ row_count t)
    (slots : List ℤ) (whole : length slots ≡ q * array_size t margin) (reads : List ℕ) (table : IsTable q reads) (own : Torus) (same : own ≡ t) where
  -- each cell takes what its slots hold
  pub own_taken : InEachSlab t margin shifts bounds slots (λ rows ranges cell. (i : ℕ) → i < q → entry ranges (slice_index reads i) (local own rows cell) ≡ held slots (range_slot t margin shifts (slice_index reads i) cell))
  own_taken k cell known here i less =
      let slab = slab_is t space margin shifts inside q count bounds cutting fits slots whole k known in let some = slab.some in
      subst (λ u. entry (lent t margin shifts (slab_rows bounds k) slots) (slice_index reads i) (local u (slab_rows bounds k) cell) ≡ held slots (range_slot t margin shifts (slice_index reads i) cell)) (sym same)
      (slot_entry t space margin shifts inside q count (first_row bounds k) (end_row bounds k) (omega arith) slab.inside slots whole (slice_index reads i) cell (table.known i less) here)

  -- and what holds of that holds of what it takes
  pub own_small : (P : ℕ → ℤ → Type 0) → ((cell i : ℕ) → cell < cells t → i < q → P cell (held slots (range_slot t margin shifts (slice_index reads i) cell)))
      → InEachSlab t margin shifts bounds slots (λ rows ranges cell. (i : ℕ) → i < q → P cell (entry ranges (slice_index reads i) (local own rows cell)))
  own_small P all k cell known here i less = subst (P cell) (sym (own_taken k cell known here i less)) (all cell i here.known less)

-- in the ranges of a step
module _ (t : Torus) (space : IsSpace t) (v : Stencil) (laws : IsVelocitySet v) (fits : v.dimension ≡ t.dimension) (step : Step) (base margin : ℕ) (room : HasRoom t v step margin base)
    (slots : List ℤ) (whole : length slots ≡ v.directions * array_size t margin) (bounds : List ℕ) (cutting : IsCutting bounds) (all : rows_of bounds ≡ row_count t) where
  inside : AreInside t margin (step_shifts t v step base)
  inside = shifts_inside t space v laws fits step base margin room

  pub step_slab : (k : ℕ) → k < slabs_of bounds → IsSlab t v.directions (slab_rows bounds k) (lent t margin (step_shifts t v step base) (slab_rows bounds k) slots)
  step_slab = slab_is t space margin (step_shifts t v step base) inside v.directions (length-shifts t v step base) bounds cutting all slots whole

  -- each cell takes what it touches
  pub step_taken : (reads : List ℕ) → IsTable v.directions reads
      → InEachSlab t margin (step_shifts t v step base) bounds slots (λ rows ranges cell. (i : ℕ) → i < v.directions → entry ranges (slice_index reads i) (local t rows cell) ≡ held slots (touched t margin base v step (slice_index reads i) cell))
  step_taken reads table k cell known here i less =
      own_taken t space margin (step_shifts t v step base) inside v.directions (length-shifts t v step base) bounds cutting all slots whole reads table t refl k cell known here i less
      ∙ ap (held slots) (slot_touched t space v laws fits step base margin room (slice_index reads i) cell (table.known i less) here.known)
