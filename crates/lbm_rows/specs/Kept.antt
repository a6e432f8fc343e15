-- Kept rows: for each direction an array, of one row of slots for each row of cells. Slot 1 + x of a row is that of its cell at x; the first slot and the last one are pads.
--     kept    the kept rows, array after array
use Rattle.std.specs.Prelude.{ℕ, ◌+◌, ◌*◌, ◌/◌, List, ℤ}
use Rattle.lbm_space.specs.Torus.{Torus, rows, x_of}
use Rattle.lbm_cell.specs.Rows.{entry}
use Rattle.lbm_model.specs.State.{FlowState, population}
use Rattle.lbm_model.specs.Case.{FlowCase}
use Rattle.lbm_model.specs.Flow.{state_by}
use Rattle.lbm_model.specs.Layout.{array_of, stands_at, aa_layout}
use Rattle.lbm_sweep.specs.Blocks.{IsSized}

-- there is a kept row in each array for each row of cells
abbrev pub AreKept : FlowCase → List (List ℤ) → Type 0
AreKept case kept = IsSized (case.stencil.directions * rows case.torus) (case.torus.nx + 2) kept

-- what stands in the slot of a cell in array k
abbrev pub slot_of_cell : Torus → List (List ℤ) → (k cell : ℕ) → ℤ
slot_of_cell t kept k cell = entry kept (k * rows t + cell / t.nx) (1 + x_of t cell)

-- population i of cell x at a time: the layout is that of the pattern that works in place
abbrev pub population_kept : FlowCase → ℕ → List (List ℤ) → ℕ → ℕ → ℤ
population_kept case time kept x i =
    slot_of_cell case.torus kept (array_of case.stencil (aa_layout time) i) (stands_at case (aa_layout time) x i)

-- the state that stands in the kept rows at a time
abbrev pub state_kept : FlowCase → ℕ → List (List ℤ) → FlowState
state_kept case time kept = state_by case (population_kept case time kept)

-- what is to stand in the slot of a cell in array k, where a state stands at a time: that population which the layout keeps there
abbrev pub placed : FlowCase → ℕ → FlowState → (k cell : ℕ) → ℤ
placed case time s k cell = population s (stands_at case (aa_layout time) cell k) (array_of case.stencil (aa_layout time) k)
