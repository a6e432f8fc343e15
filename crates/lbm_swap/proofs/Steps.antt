-- How the slots of one state become those of the next.
use Rattle.std.proofs.Common.{◌≡◌, ℕ, ◌<◌, ltb, true, false, List, ℤ, sym, ap, ◌∙◌, inl, inr, arith}
use Rattle.std.proofs.lemmas.Bool.{cases_Bool, le-ltb, ltb-true, ltb-false}
use Rattle.std.proofs.lemmas.Int.{ints}
use Rattle.lbm_space.specs.Stencil.{Stencil, velocity, opposite}
use Rattle.lbm_space.specs.Torus.{Torus, cells, padded}
use Rattle.lbm_space.specs.Padded.{padded_index, offset, place_ahead}
use Rattle.lbm_space.proofs.Interior.{interior_index}
use Rattle.lbm_space.proofs.Offsets.{offset-opposite, place_ahead_is}
use Rattle.lbm_model.specs.Case.{FlowCase, IsCase, source, target}
use Rattle.lbm_model.specs.Layout.{population_in, state_in}
use Rattle.lbm_model.proofs.Neighbours.{source-target, target-source, source_known, target_known}
use Rattle.lbm_model.proofs.States.{state_by-same}
use Rattle.lbm_arrays.specs.Arrays.{held}
use Rattle.lbm_arrays.specs.Pads.{stand}
use Rattle.lbm_arrays.proofs.Padding.{stand-interior}
use Rattle.lbm_lattice.specs.InPlace.{own_layout, turned_layout}
use Rattle.lbm_lattice.proofs.InPlace.{stand-target}
use Rattle.lbm_swap.specs.Exchange.{AreExchanged, loaded_place, met_place, sent_slot, slot_in}
use Rattle.lbm_swap.proofs.Places.{met_ahead, met_own, loaded_stand, loaded_own, met_place_below}

-- what the copies between the pads and the interior give, in the case's own terms
abbrev pub AreLoaded : FlowCase → List ℤ → List ℤ → Type 0
AreLoaded case old new = (k p : ℕ) → k < case.stencil.directions → p < padded case.torus → held new (slot_in case k p) ≡ held old (slot_in case k (loaded_place case.torus case.stencil k p))

abbrev pub AreStored : FlowCase → List ℤ → List ℤ → Type 0
AreStored case old new = (k x : ℕ) → k < case.stencil.directions → x < cells case.torus
    → held new (slot_in case k (stand case.torus (met_place case.torus case.stencil k x))) ≡ held old (slot_in case k (met_place case.torus case.stencil k x))

module _ (case : FlowCase) (allowed : IsCase case) where
  abbrev t : Torus
  t = case.torus

  abbrev v : Stencil
  v = case.stencil

  -- a cell's own place stands for itself
  stand-own : (x : ℕ) → x < cells t → stand t (padded_index t x) ≡ padded_index t x
  stand-own x here = stand-interior t allowed.space (padded_index t x) (interior_index t allowed.space x here)

  -- where direction i leads to, the opposite direction leads back from
  back_again : (i x : ℕ) → i < v.directions → x < cells t → target case (target case x i) (opposite v i) ≡ x
  back_again i x known here = ap (source case (target case x i)) (allowed.set.opposite_twice i known) ∙ source-target case x i allowed here known

  -- a direction that is its own opposite leads nowhere
  stays : (i x : ℕ) → i < v.directions → x < cells t → opposite v i ≡ i → padded_index t (target case x i) ≡ padded_index t x
  stays i x known here same =
      let turned = offset-opposite t allowed.space v allowed.set (sym allowed.dimension) i known in let alike = ap (λ (k : ℕ). offset t (velocity v k)) same in
      let ahead = place_ahead_is t allowed.space v allowed.set (sym allowed.dimension) i x known here in
      let at : place_ahead t (velocity v i) x ≡ padded_index t x = omega (arith, ints, turned, alike, ahead) in
      sym (stand-target case allowed i x known here) ∙ ap (stand t) at ∙ stand-own x here

  module _ (swept loaded exchanged stored : List ℤ) (loads : AreLoaded case swept loaded) (exchange : AreExchanged case loaded exchanged) (stores : AreStored case exchanged stored) where
    -- In the array of the lesser direction what a cell sends is exchanged ahead, and stored in the cell ahead.
    sent_ahead : (i x : ℕ) → i < v.directions → x < cells t → ltb i (opposite v i) ≡ true → held stored (slot_in case i (padded_index t (target case x i))) ≡ held swept (sent_slot case x i)
    sent_ahead i x known here on =
        let o : ℕ = opposite v i in let known_o : o < v.directions = allowed.set.opposite_exists i known in
        let off : ltb o (opposite v o) ≡ false = let twice = allowed.set.opposite_twice i known in let less = ltb-true i o on in le-ltb o (opposite v o) (omega (arith, twice, less)) in
        let own = met_own t v o x off in
        let below = met_place_below t allowed.space v allowed.set (sym allowed.dimension) o x known_o here in
        let left : loaded_place t v o (met_place t v o x) ≡ padded_index t x = loaded_own t v o (met_place t v o x) off ∙ own in
        ap (λ (p : ℕ). held stored (slot_in case i p)) (sym (ap (stand t) (met_ahead t v i x on) ∙ stand-target case allowed i x known here))
        ∙ stores i x known here
        ∙ exchange.exchanged x i here known
        ∙ loads o (met_place t v o x) known_o below
        ∙ ap (λ (p : ℕ). held swept (slot_in case o p)) left

    -- In that of the greater direction the cell ahead has it from its pad, or from the cell itself.
    sent_back : (i x : ℕ) → i < v.directions → x < cells t → ltb i (opposite v i) ≡ false → held stored (slot_in case i (padded_index t (target case x i))) ≡ held swept (sent_slot case x i)
    sent_back i x known here off =
        let o : ℕ = opposite v i in let known_o : o < v.directions = allowed.set.opposite_exists i known in
        let y : ℕ = target case x i in let there : y < cells t = target_known case x i allowed here known in
        let own = met_own t v i y off in
        let below = met_place_below t allowed.space v allowed.set (sym allowed.dimension) o y known_o there in
        let twice = allowed.set.opposite_twice i known in
        let from : loaded_place t v o (met_place t v o y) ≡ padded_index t x = elim (cases_Bool (ltb o (opposite v o))) [
          | inl on ↦ loaded_stand t v o (met_place t v o y) on ∙ ap (stand t) (met_ahead t v o y on) ∙ stand-target case allowed o y known_o there ∙ ap (padded_index t) (back_again i x known here)
          | inr off' ↦ (
              let same : o ≡ i = let low = ltb-false i o off in let low' = ltb-false o (opposite v o) off' in omega (arith, low, low', twice) in
              loaded_own t v o (met_place t v o y) off' ∙ met_own t v o y off' ∙ stays i x known here same)
        ] in
        ap (λ (p : ℕ). held stored (slot_in case i p)) (sym (ap (stand t) own ∙ stand-own y there))
        ∙ stores i y known there
        ∙ exchange.exchanged y i there known
        ∙ loads o (met_place t v o y) known_o below
        ∙ ap (λ (p : ℕ). held swept (slot_in case o p)) from

    sent_on : (i x : ℕ) → i < v.directions → x < cells t → held stored (slot_in case i (padded_index t (target case x i))) ≡ held swept (sent_slot case x i)
    sent_on i x known here = elim (cases_Bool (ltb i (opposite v i))) [ inl on ↦ sent_ahead i x known here on | inr off ↦ sent_back i x known here off ]

    -- what the cell behind has sent has arrived
    pub passed_on : state_in case own_layout stored ≡ state_in case turned_layout swept
    passed_on = state_by-same case (population_in case own_layout stored) (population_in case turned_layout swept) (λ x i here known.
        let y = source case x i in
        ap (λ (z : ℕ). held stored (slot_in case i (padded_index t z))) (sym (target-source case x i allowed here known)) ∙ sent_on i y known (source_known case x i allowed here known))
