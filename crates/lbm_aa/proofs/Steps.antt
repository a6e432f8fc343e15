-- How the lattice that works in place goes from the slots of one time to those of the next.
use Rattle.std.proofs.Common.{◌≡◌, ℕ, ◌+◌, ◌*◌, ◌/◌, ◌%◌, ◌<◌, List, ℤ, refl, ap, sym, ◌∙◌, inl, inr, arith}
use Rattle.std.proofs.lemmas.Int.{ints}
use Rattle.std.proofs.lemmas.Nat.{mod-mul-add, mod_below}
use Rattle.std.proofs.lemmas.Bool.{cases_lt}
use Rattle.std.proofs.Math.Nat.{mod-add-div}
use Rattle.lbm_space.specs.Stencil.{velocity, opposite}
use Rattle.lbm_space.specs.Torus.{cells}
use Rattle.lbm_space.specs.Padded.{padded_index, place_ahead}
use Rattle.lbm_space.proofs.Offsets.{place_ahead_is, place_ahead_below}
use Rattle.lbm_model.specs.Case.{FlowCase, IsCase, source}
use Rattle.lbm_model.specs.Layout.{population_in, state_in, aa_layout}
use Rattle.lbm_model.proofs.States.{population-state_by}
use Rattle.lbm_arrays.specs.Arrays.{held}
use Rattle.lbm_arrays.specs.Pads.{place_slot, stand, AreLoaded, AreStored}
use Rattle.lbm_arrays.specs.declared.steps.Step.TheVariants.{Ahead}
use Rattle.lbm_sweep.specs.Steps.{IsTaken, IsSent}
use Rattle.lbm_lattice.specs.InPlace.{own_layout, turned_layout, slot_in, taken, sent_to}
use Rattle.lbm_lattice.proofs.InPlace.{IsSame, AreOpposite, stand-target}

module _ (case : FlowCase) (allowed : IsCase case) where
  -- where the ranges are moved ahead, a cell touches the slots ahead of it
  slot_ahead : (k x : ℕ) → k < case.stencil.directions → x < cells case.torus → slot_in case Ahead k x ≡ place_slot case.torus 2 k 1 (place_ahead case.torus (velocity case.stencil k) x)
  slot_ahead k x known here = let at = place_ahead_is case.torus allowed.space case.stencil allowed.set (sym allowed.dimension) k x known here in omega (arith, ints, at)

  -- At odd times it takes them, once the pads are loaded, from the arrays of the opposite directions: what is ahead there is behind.
  pub taken_odd : (reads : List ℕ) (old loaded : List ℤ) → AreOpposite case.stencil reads → AreLoaded case.torus case.stencil.directions 2 1 old loaded
      → IsTaken case (state_in case turned_layout old) (taken case Ahead reads loaded)
  taken_odd reads old loaded turned loads x i here known =
      let o = opposite case.stencil i in let known_o = allowed.set.opposite_exists i known in
      let behind : stand case.torus (place_ahead case.torus (velocity case.stencil o) x) ≡ padded_index case.torus (source case x i) =
      stand-target case allowed o x known_o here ∙ ap (λ j. padded_index case.torus (source case x j)) (allowed.set.opposite_twice i known) in
      ap (λ k. held loaded (slot_in case Ahead k x)) (turned i known) ∙ ap (held loaded) (slot_ahead o x known_o here)
      ∙ loads o (place_ahead case.torus (velocity case.stencil o) x) known_o (place_ahead_below case.torus allowed.space case.stencil allowed.set (sym allowed.dimension) o x known_o here)
      ∙ ap (λ p. held old (place_slot case.torus 2 o 1 p)) behind ∙ sym (population-state_by case (population_in case turned_layout old) x i here known)

  -- It sends into those ahead: once the pads are stored, the cell ahead has it in its own slots.
  pub sent_odd : (writes : List ℕ) (swept stored : List ℤ) → IsSame case.stencil writes → AreStored case.torus case.stencil 2 1 swept stored → IsSent case own_layout (sent_to case Ahead writes) (held swept) stored
  sent_odd writes swept stored same stores x i here known =
      ap (λ p. held stored (place_slot case.torus 2 i 1 p)) (sym (stand-target case allowed i x known here)) ∙ stores i x known here
      ∙ ap (held swept) (sym (slot_ahead i x known here)) ∙ ap (λ k. held swept (slot_in case Ahead k x)) (sym (same i known))

-- the layouts take turns
pub aa_layout-even : (time : ℕ) → time % 2 ≡ 0 → (aa_layout time ≡ own_layout) × (aa_layout (time + 1) ≡ turned_layout)
aa_layout-even time even =
    let whole : time + 1 ≡ time / 2 * 2 + 1 = let e = mod-add-div time 2 in omega (arith, e, even) in
    let next : (time + 1) % 2 ≡ 1 = rw whole (mod-mul-add (time / 2) 2 1 (omega arith)) in
    (rw even refl, rw next refl)

pub aa_layout-odd : (time : ℕ) → (time % 2 ≡ 0 → ⊥) → (aa_layout time ≡ turned_layout) × (aa_layout (time + 1) ≡ own_layout)
aa_layout-odd time odd =
    let one : time % 2 ≡ 1 = elim (cases_lt (time % 2) 1) [ inl none ↦ absurd (odd (omega arith)) | inr some ↦ (let below = mod_below time 2 (omega arith) in omega arith) ] in
    let whole : time + 1 ≡ (time / 2 + 1) * 2 + 0 = let e = mod-add-div time 2 in omega (arith, e, one) in
    let next : (time + 1) % 2 ≡ 0 = rw whole (mod-mul-add (time / 2 + 1) 2 0 (omega arith)) in
    (rw one refl, rw next refl)
