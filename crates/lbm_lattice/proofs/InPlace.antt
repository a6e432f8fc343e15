-- Sweeps in place, by the slots that their cells touch.
use Rattle.std.proofs.Common.{◌≡◌, ℕ, ◌<◌, List, ℤ, slice_index, ap, sym, ◌∙◌, arith}
use Rattle.std.proofs.lemmas.Int.{ints}
use Rattle.lbm_space.specs.Stencil.{Stencil, velocity, opposite}
use Rattle.lbm_space.specs.Torus.{cells}
use Rattle.lbm_space.specs.Padded.{padded_index, place_ahead}
use Rattle.lbm_model.specs.Case.{FlowCase, IsCase, target}
use Rattle.lbm_model.specs.Layout.{population_in, state_in}
use Rattle.lbm_model.proofs.Neighbours.{source-target}
use Rattle.lbm_model.proofs.States.{population-state_by}
use Rattle.lbm_arrays.specs.Arrays.{held}
use Rattle.lbm_arrays.specs.Pads.{place_slot, stand}
use Rattle.lbm_arrays.specs.declared.steps.Step.TheVariants.{InPlace}
use Rattle.lbm_arrays.proofs.Padding.{stand-ahead}
use Rattle.lbm_sweep.specs.Steps.{IsTaken, IsSent}
use Rattle.lbm_lattice.specs.InPlace.{own_layout, turned_layout, slot_in, taken, sent_to}

-- the tables of directions
abbrev pub IsSame : Stencil → List ℕ → Type 0
IsSame v table = (i : ℕ) → i < v.directions → slice_index table i ≡ i

abbrev pub AreOpposite : Stencil → List ℕ → Type 0
AreOpposite v table = (i : ℕ) → i < v.directions → slice_index table i ≡ opposite v i

module _ (case : FlowCase) (allowed : IsCase case) where
  -- the place ahead of a cell stands for the cell to which the direction leads
  pub stand-target : (k x : ℕ) → k < case.stencil.directions → x < cells case.torus → stand case.torus (place_ahead case.torus (velocity case.stencil k) x) ≡ padded_index case.torus (target case x k)
  stand-target k x known here = stand-ahead case.torus allowed.space 2 k 1 case.stencil allowed.set (sym allowed.dimension) k known x here

  -- where the ranges are not moved, a cell touches its own slots
  slot_own : (k x : ℕ) → slot_in case InPlace k x ≡ place_slot case.torus 2 k 1 (padded_index case.torus x)
  slot_own k x = omega (arith, ints)

  -- It has its populations there.
  pub taken_own : (reads : List ℕ) (slots : List ℤ) → IsSame case.stencil reads → IsTaken case (state_in case own_layout slots) (taken case InPlace reads slots)
  taken_own reads slots same x i here known =
      ap (λ k. held slots (slot_in case InPlace k x)) (same i known) ∙ ap (held slots) (slot_own i x) ∙ sym (population-state_by case (population_in case own_layout slots) x i here known)

  -- It sends into those of the opposite directions: there the cell ahead finds it behind.
  pub sent_turned : (writes : List ℕ) (new : List ℤ) → AreOpposite case.stencil writes → IsSent case turned_layout (sent_to case InPlace writes) (held new) new
  sent_turned writes new turned x i here known =
      ap (λ y. held new (place_slot case.torus 2 (opposite case.stencil i) 1 (padded_index case.torus y))) (source-target case x i allowed here known)
      ∙ ap (held new) (sym (slot_own (opposite case.stencil i) x)) ∙ ap (λ k. held new (slot_in case InPlace k x)) (sym (turned i known))
