-- A population is put in its slot.
use Rattle.std.proofs.Common.{◌≡◌, ℕ, ◌<◌, ℤ, pos, List, length, set, sym, ap, ◌∙◌}
use Rattle.std.specs.Prelude.{slice_set}
use Rattle.std.proofs.lemmas.List.{get_or-set_same, get_or-set_other, length-set}
use Rattle.lbm_space.specs.Torus.{cells}
use Rattle.lbm_model.specs.declared.layout.Layout.{Layout}
use Rattle.lbm_model.specs.Case.{FlowCase, IsCase}
use Rattle.lbm_model.specs.Layout.{array_of, place_of, slot_of, population_in}
use Rattle.lbm_arrays.specs.Arrays.{Arrays, IsRegion, slot_at}
use Rattle.lbm_sweep.specs.Lattices.{IsLaidOut}
use Rattle.lbm_sweep.proofs.Lattices.{slot_of_apart, slot_at-slot_of, slot_inside}

module _ (case : FlowCase) (layout : Layout) (r : Arrays) (allowed : IsCase case) (laid : IsLaidOut case layout r) (region : IsRegion r) where
  -- it has the number, and the others are as before
  pub record IsPut (x i : ℕ) (v : ℤ) (new : Arrays) : Type 0 where
    pub here : population_in case layout new.slots x i ≡ v
    pub others : (y j : ℕ) → y < cells case.torus → j < case.stencil.directions → ((y ≡ x) × (j ≡ i) → ⊥) → population_in case layout new.slots y j ≡ population_in case layout r.slots y j
    pub same : new ≡ record r { slots = new.slots }
    pub size : length new.slots ≡ length r.slots

  pub put : (x i array at : ℕ) (v : ℤ) (new : Arrays) → x < cells case.torus → i < case.stencil.directions → array ≡ array_of case.stencil layout i → at ≡ place_of case layout x i
      → new ≡ record r { slots = slice_set r.slots (slot_at r.space r.margin array at) v } → IsPut x i v new
  put x i array at v new here known array_is at_is is =
      let slot : slot_at r.space r.margin array at ≡ slot_of case layout x i = rw (array_is, at_is) (slot_at-slot_of case layout r allowed laid region x i) in
      let slots : new.slots ≡ set r.slots (slot_of case layout x i) v = ap (λ (a : Arrays). a.slots) is ∙ ap (λ (s : ℕ). set r.slots s v) slot in
      record {
        here = rw slots (get_or-set_same r.slots (slot_of case layout x i) v (pos 0) (slot_inside case layout r allowed laid region x i here known));
        others = λ y j there known_j other. rw slots (get_or-set_other r.slots (slot_of case layout x i) (slot_of case layout y j) v (pos 0) (λ one. other (let both = slot_of_apart case layout allowed x y i j laid.base here there known known_j (sym one) in (sym both.0, sym both.1))));
        same = is ∙ ap (λ (s : List ℤ). record r { slots = s }) (sym (ap (λ (a : Arrays). a.slots) is));
        size = rw slots (length-set r.slots (slot_of case layout x i) v);
      }
