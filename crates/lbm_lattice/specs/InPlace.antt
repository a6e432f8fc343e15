-- A sweep in place, over the slots of one lattice, whose arrays have two slots more than the box has padded places.
--     step             how far it moves the ranges of the arrays
--     reads, writes    for each direction, the array from which a cell takes its population and the one into which it puts what it sends
use Rattle.std.specs.Prelude.{ℕ, true, false, List, ℤ, slice_index}
use Rattle.lbm_model.specs.Case.{FlowCase}
use Rattle.lbm_model.specs.declared.layout.Layout.{Layout}
use Rattle.lbm_arrays.specs.Arrays.{held}
use Rattle.lbm_arrays.specs.declared.steps.Step.{Step}
use Rattle.lbm_arrays.specs.Steps.{touched}

-- each cell has its populations in its own slots
abbrev pub own_layout : Layout
own_layout = record { margin = 2; base = 1; turned = false; behind = false }

-- the cells behind have them in those of the opposite directions, as they have sent them
abbrev pub turned_layout : Layout
turned_layout = record { margin = 2; base = 1; turned = true; behind = true }

-- the slot of array k that cell x touches
abbrev pub slot_in : FlowCase → Step → ℕ → ℕ → ℕ
slot_in case step k x = touched case.torus 2 1 case.stencil step k x

-- population i of cell x, as the cell takes it
abbrev pub taken : FlowCase → Step → (reads : List ℕ) → List ℤ → ℕ → ℕ → ℤ
taken case step reads slots x i = held slots (slot_in case step (slice_index reads i) x)

-- where cell x puts what it sends in direction i
abbrev pub sent_to : FlowCase → Step → (writes : List ℕ) → ℕ → ℕ → ℕ
sent_to case step writes x i = slot_in case step (slice_index writes i) x
