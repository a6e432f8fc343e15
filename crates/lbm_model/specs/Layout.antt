-- Where patterns keep the populations: in arrays, one behind the other, of `margin` slots more than the box has padded places.
use Rattle.std.specs.Prelude.{◌≡◌, ℕ, ◌+◌, ◌*◌, ◌%◌, ◌<◌, ◌≤◌, nat_eq, true, false, List, ℤ, pos, slice_index_or, if◌then◌else◌}
use Rattle.lbm_space.specs.Stencil.{Stencil, opposite}
use Rattle.lbm_space.specs.Torus.{Torus, cells, padded}
use Rattle.lbm_space.specs.Padded.{padded_index, reach}
use Rattle.lbm_model.specs.declared.layout.Layout.{Layout}
use Rattle.lbm_model.specs.State.{FlowState, population}
use Rattle.lbm_model.specs.Case.{FlowCase, source}
use Rattle.lbm_model.specs.Flow.{state_by}

-- the array in which population i stands
abbrev pub array_of : Stencil → Layout → ℕ → ℕ
array_of v layout i = if layout.turned then opposite v i else i

-- the cell at whose place population i of cell x stands
abbrev pub stands_at : FlowCase → Layout → ℕ → ℕ → ℕ
stands_at case layout x i = if layout.behind then source case x i else x

-- its slot in its array
abbrev pub place_of : FlowCase → Layout → ℕ → ℕ → ℕ
place_of case layout x i = layout.base + padded_index case.torus (stands_at case layout x i)

-- The places of population i along a row follow each other round: the last one is followed by the first. That of the row's first cell lies
-- `round.1` places behind `round.0`, the first one.
pub record IsRound (case : FlowCase) (layout : Layout) (row i : ℕ) (round : ℕ × ℕ) : Type 0 where
  pub known : round.1 < case.torus.nx
  pub inside : round.0 + case.torus.nx ≤ layout.margin + padded case.torus
  pub place : (x : ℕ) → x < case.torus.nx → place_of case layout (row * case.torus.nx + x) i ≡ round.0 + (x + round.1) % case.torus.nx

-- its slot among those of all arrays
abbrev pub slot_of : FlowCase → Layout → ℕ → ℕ → ℕ
slot_of case layout x i = array_of case.stencil layout i * (layout.margin + padded case.torus) + place_of case layout x i

-- population i of cell x, by what the slots hold
abbrev pub population_in : FlowCase → Layout → List ℤ → ℕ → ℕ → ℤ
population_in case layout slots x i = slice_index_or slots (slot_of case layout x i) (pos 0)

-- the state whose populations stand in the slots
abbrev pub state_in : FlowCase → Layout → List ℤ → FlowState
state_in case layout slots = state_by case (population_in case layout slots)

-- each population of a state stands in its slot
abbrev pub StandsIn : FlowCase → Layout → FlowState → List ℤ → Type 0
StandsIn case layout s slots = (x i : ℕ) → x < cells case.torus → i < case.stencil.directions → population_in case layout slots x i ≡ population s x i

-- the layout of two lattices, in the one that is read next
abbrev pub two_layout : Layout
two_layout = record { margin = 0; base = 0; turned = false; behind = true }

-- the layout of the pattern that exchanges
abbrev pub swap_layout : Layout
swap_layout = record { margin = 2; base = 1; turned = false; behind = false }

-- the layout of the pattern that works in place: as each cell has it at even times, and as the cells behind have sent it at odd times
abbrev pub aa_layout : ℕ → Layout
aa_layout time = if nat_eq (time % 2) 0 then swap_layout else record { margin = 2; base = 1; turned = true; behind = true }

-- the layout of the compressed grid, which moves as a whole
abbrev pub grid_layout : Torus → Stencil → ℕ → Layout
grid_layout t v time = record { margin = reach t v; base = if nat_eq (time % 2) 0 then reach t v else 0; turned = false; behind = true }
