-- What distinguishes this pattern: where its cells take the state, and where the next one stands.
use Rattle.std.proofs.Common.{◌≡◌, ℕ, ◌<◌, List, ℤ, slice_index, sym, ap, ◌∙◌, arith}
use Rattle.std.proofs.lemmas.Int.{ints}
use Rattle.lbm_space.specs.Stencil.{velocity}
use Rattle.lbm_space.specs.Padded.{padded_index}
use Rattle.lbm_model.specs.Case.{FlowCase, IsCase}
use Rattle.lbm_model.specs.Layout.{two_layout, population_in, state_in}
use Rattle.lbm_model.proofs.Neighbours.{source-target}
use Rattle.lbm_model.proofs.States.{population-state_by}
use Rattle.lbm_arrays.specs.Arrays.{held}
use Rattle.lbm_arrays.specs.Pads.{place_slot, AreLoaded}
use Rattle.lbm_arrays.specs.declared.steps.Step.TheVariants.{InPlace}
use Rattle.lbm_arrays.specs.Steps.{step_shifts, place_behind}
use Rattle.lbm_arrays.proofs.Behind.{place_behind_below, stand-behind}
use Rattle.lbm_sweep.specs.Regions.{range_slot}
use Rattle.lbm_sweep.specs.Steps.{IsTaken, IsSent}
use Rattle.lbm_sweep.proofs.OwnPlaces.{slot_touched}
use Rattle.lbm_two.specs.Behind.{slot_behind}

module _ (case : FlowCase) (allowed : IsCase case) where
  -- Loaded: the place behind a cell stands for the cell behind, where its population stands.
  pub loaded : (old new : List ℤ) → AreLoaded case.torus case.stencil.directions 0 0 old new → IsTaken case (state_in case two_layout old) (λ x i. held new (slot_behind case.torus case.stencil x i))
  loaded old new pads x i here known =
      let p : ℕ = place_behind case.torus (velocity case.stencil i) x in
      pads i p known (place_behind_below case.torus allowed.space case.stencil allowed.set (sym allowed.dimension) i known x here)
      ∙ ap (λ (q : ℕ). held old (place_slot case.torus 0 i 0 q)) (stand-behind case.torus allowed.space case.stencil allowed.set (sym allowed.dimension) i known x here)
      ∙ sym (population-state_by case (population_in case two_layout old) x i here known)

  -- Stored: a cell is behind the one to which it sends, so it writes where that one's population stands.
  pub stored : (table : List ℕ) (last : List ℤ) → ((i : ℕ) → i < case.stencil.directions → slice_index table i ≡ i)
      → IsSent case two_layout (λ x i. range_slot case.torus 0 (step_shifts case.torus case.stencil InPlace 0) (slice_index table i) x) (held last) last
  stored table last same x i here known =
      let own = slot_touched case.torus allowed.space case.stencil allowed.set (sym allowed.dimension) InPlace 0 0 (omega arith) i x known here in
      ap (λ (y : ℕ). held last (place_slot case.torus 0 i 0 (padded_index case.torus y))) (source-target case x i allowed here known)
      ∙ ap (held last) (omega (arith, ints, own))
      ∙ ap (λ (k : ℕ). held last (range_slot case.torus 0 (step_shifts case.torus case.stencil InPlace 0) k x)) (sym (same i known))
