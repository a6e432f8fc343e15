-- A sweep of the compressed grid, over the slots of one lattice.
--     rises    whether it rises
use Rattle.std.specs.Prelude.{◌≡◌, ℕ, Bool, false, true, List, length, ℤ, if◌then◌else◌}
use Rattle.lbm_space.specs.Stencil.{Stencil, velocity}
use Rattle.lbm_space.specs.Torus.{rows}
use Rattle.lbm_space.specs.Padded.{reach}
use Rattle.lbm_space.specs.Cuttings.{rows_of, slabs_of}
use Rattle.lbm_model.specs.declared.layout.Layout.{Layout}
use Rattle.lbm_model.specs.Case.{FlowCase, IsCase}
use Rattle.lbm_arrays.specs.Arrays.{Arrays, held}
use Rattle.lbm_arrays.specs.Pads.{place_slot, AreLoaded}
use Rattle.lbm_arrays.specs.declared.steps.Step.{Step}
use Rattle.lbm_arrays.specs.declared.steps.Step.TheVariants.{Rise, Fall}
use Rattle.lbm_arrays.specs.Steps.{touched, place_behind}
use Rattle.lbm_sweep.specs.Lattices.{IsLaidOut, AreWithin}
use Rattle.lbm_grid.specs.Strips.{AreRooms, AreSaved}

-- how far the lattice moves
abbrev pub far : FlowCase → ℕ
far case = reach case.torus case.stencil

-- the slot of padded place 0 before a sweep
abbrev pub base_of : Bool → ℕ → ℕ
base_of rises reach = if rises then reach else 0

-- where the populations stand before a sweep
abbrev pub layout_before : FlowCase → Bool → Layout
layout_before case rises = record { margin = far case; base = base_of rises (far case); turned = false; behind = true }

-- where they stand after it
abbrev pub layout_after : FlowCase → Bool → Layout
layout_after case rises = record { margin = far case; base = if rises then 0 else far case; turned = false; behind = true }

-- how it moves the ranges of the arrays
abbrev pub step_of : Bool → Step
step_of rises = if rises then Rise else Fall

-- population i of cell x, as the cell takes it: from the place behind
abbrev pub taken : FlowCase → Bool → List ℤ → ℕ → ℕ → ℤ
taken case rises slots x i = held slots (place_slot case.torus (far case) i (base_of rises (far case)) (place_behind case.torus (velocity case.stencil i) x))

-- where cell x puts what it sends in direction i
abbrev pub sent_to : FlowCase → Bool → ℕ → ℕ → ℕ
sent_to case rises x i = touched case.torus (far case) (base_of rises (far case)) case.stencil (step_of rises) i x

-- the pads of all arrays are loaded before a sweep
abbrev pub AreLoadedFor : FlowCase → Bool → (old new : List ℤ) → Type 0
AreLoadedFor case rises old new = AreLoaded case.torus case.stencil.directions (far case) (base_of rises (far case)) old new

-- all is ready for a sweep: pads are loaded, strips are saved
pub record AreReady (case : FlowCase) (v : Stencil) (rises : Bool) (bounds begins : List ℕ) (width : ℕ) (kept : List ℤ) (region : Arrays) : Type 0 where
  pub valid : IsCase case
  pub set : case.stencil ≡ v
  pub laid : IsLaidOut case (layout_before case rises) region
  pub cutting : rows_of bounds ≡ rows case.torus
  pub rooms : AreRooms case.torus v bounds begins width (length kept)
  pub saved : AreSaved case.torus v rises bounds begins width (far case) (base_of rises (far case)) (slabs_of bounds) region.slots kept
  pub small : AreWithin case (taken case rises region.slots)
