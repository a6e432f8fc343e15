-- An amount is put in its slot.
use Rattle.std.proofs.Common.{◌≡◌, ℕ, ◌<◌, ℤ, pos, List, length, set, sym, ap, ◌∙◌}
use Rattle.std.specs.Prelude.{slice_set}
use Rattle.std.proofs.lemmas.List.{get_or-set_same, get_or-set_other, length-set}
use Rattle.lbm_space.specs.Torus.{Torus, IsSpace, cells}
use Rattle.lbm_model.specs.Layout.{array_of, place_of, slot_of, aa_layout}
use Rattle.lbm_arrays.specs.Arrays.{Arrays, IsRegion, slot_at}
use Rattle.lbm_tracer.specs.Tracing.{set_in}
use Rattle.lbm_tracer.specs.Carried.{places_of, amount_in, IsTracerRegion}
use Rattle.lbm_tracer.proofs.Places.{slot_is, slot_inside, amounts_apart}

-- a region of which the slots alone changed
pub laid_again : (t : Torus) (r new : Arrays) → new ≡ record r { slots = new.slots } → IsTracerRegion t r → IsTracerRegion t new
laid_again t r new same laid = record {
  space = ap (λ (a : Arrays). a.space) same ∙ laid.space;
  count = ap (λ (a : Arrays). a.count) same ∙ laid.count;
  margin = ap (λ (a : Arrays). a.margin) same ∙ laid.margin;
}

module _ (t : Torus) (space : IsSpace t) (r : Arrays) (laid : IsTracerRegion t r) (region : IsRegion r) (time : ℕ) where
  -- it has the number, and the others are as before
  pub record IsPut (x k : ℕ) (v : ℤ) (new : Arrays) : Type 0 where
    pub here : amount_in t time new.slots x k ≡ v
    pub others : (y j : ℕ) → y < cells t → j < (set_in t).directions → ((y ≡ x) × (j ≡ k) → ⊥) → amount_in t time new.slots y j ≡ amount_in t time r.slots y j
    pub same : new ≡ record r { slots = new.slots }
    pub size : length new.slots ≡ length r.slots

  pub put : (x k array at : ℕ) (v : ℤ) (new : Arrays) → x < cells t → k < (set_in t).directions → array ≡ array_of (set_in t) (aa_layout time) k → at ≡ place_of (places_of t) (aa_layout time) x k
      → new ≡ record r { slots = slice_set r.slots (slot_at r.space r.margin array at) v } → IsPut x k v new
  put x k array at v new here known array_is at_is is =
      let slot : slot_at r.space r.margin array at ≡ slot_of (places_of t) (aa_layout time) x k = slot_is t space r laid region time x k array at array_is at_is in
      let slots : new.slots ≡ set r.slots (slot_of (places_of t) (aa_layout time) x k) v = ap (λ (a : Arrays). a.slots) is ∙ ap (λ (s : ℕ). set r.slots s v) slot in
      record {
        here = rw slots (get_or-set_same r.slots (slot_of (places_of t) (aa_layout time) x k) v (pos 0) (slot_inside t space r laid region time x k here known));
        others = λ y j there known_j other. rw slots (get_or-set_other r.slots (slot_of (places_of t) (aa_layout time) x k) (slot_of (places_of t) (aa_layout time) y j) v (pos 0)
            (λ one. other (amounts_apart t space r laid region time y x j k there here known_j known one)));
        same = is ∙ ap (λ (s : List ℤ). record r { slots = s }) (sym (ap (λ (a : Arrays). a.slots) is));
        size = rw slots (length-set r.slots (slot_of (places_of t) (aa_layout time) x k) v);
      }
