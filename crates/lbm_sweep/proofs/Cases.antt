-- What a sweep is called with and what it gives, in the case's own terms: the space, the set, the shifts and the rule of its calls are those of the case.
use Rattle.std.proofs.Common.{◌≡◌, ℕ, ◌*◌, List, length, ℤ, slice_index, unsigned_abs, ◌≤◌, sym, ◌∙◌, subst}
use Rattle.std.specs.Prelude.{Option}
use Rattle.lbm_space.specs.Stencil.{Stencil}
use Rattle.lbm_space.specs.Torus.{Torus, cells}
use Rattle.lbm_model.specs.State.{FlowState}
use Rattle.lbm_model.specs.Case.{FlowCase}
use Rattle.lbm_model.specs.Flow.{is_sound, post}
use Rattle.lbm_model.specs.Small.{size_limit, IsSmall}
use Rattle.lbm_model.specs.declared.layout.Layout.{Layout}
use Rattle.lbm_arrays.specs.Arrays.{Arrays, IsRegion, array_size}
use Rattle.lbm_arrays.specs.LentRanges.{AreInside}
use Rattle.lbm_arrays.specs.declared.steps.Step.{Step}
use Rattle.lbm_arrays.specs.Steps.{step_shifts}
use Rattle.lbm_sweep.specs.Blocks.{IsTable}
use Rattle.lbm_sweep.specs.Sweep.{IsCollided}
use Rattle.lbm_sweep.specs.Regions.{range_slot, HasSlot}
use Rattle.lbm_sweep.specs.Steps.{IsTaken}
use Rattle.lbm_sweep.specs.Lattices.{IsLaidOut, AreWithin}
use Rattle.lbm_sweep.proofs.Regions.{all_slots}

-- what is taken of a small state is small
pub small_taken : (case : FlowCase) (s : FlowState) (f : ℕ → ℕ → ℤ) → IsTaken case s f → IsSmall case s → AreWithin case f
small_taken case s f is small x i here known = subst (λ (z : ℤ). unsigned_abs z ≤ size_limit case x) (sym (is x i here known)) (small.within x i here known)

-- how many slots the region of a lattice has
pub whole_region : (case : FlowCase) (layout : Layout) (r : Arrays) → IsRegion r → IsLaidOut case layout r → length r.slots ≡ case.stencil.directions * array_size case.torus layout.margin
whole_region case layout r region laid = all_slots r case.stencil.directions region laid.count ∙ (λ i. case.stencil.directions * array_size (laid.space i) (laid.margin i))

module _ (case : FlowCase) (v : Stencil) (set : case.stencil ≡ v) where
  pub table_in : (ps : List ℕ) → IsTable v.directions ps → IsTable case.stencil.directions ps
  table_in ps table = subst (λ (w : Stencil). IsTable w.directions ps) (sym set) table

  module _ (layout : Layout) (step : Step) (base : ℕ) (t : Torus) (moved : List ℤ) (space : t ≡ case.torus) (table : moved ≡ step_shifts t v step base) where
    pub shifts_are : moved ≡ step_shifts case.torus case.stencil step base
    shifts_are = table ∙ (λ i. step_shifts (space i) (sym set i) step base)

    pub shifts_inside : AreInside t layout.margin moved → AreInside case.torus layout.margin (step_shifts case.torus case.stencil step base)
    shifts_inside inside = subst (λ (w : Torus × List ℤ). AreInside w.0 layout.margin w.1) (λ i. (space i, shifts_are i)) inside

    pub shifts_inside_region : (r : Arrays) → IsLaidOut case layout r → AreInside t layout.margin moved → AreInside r.space r.margin moved
    shifts_inside_region r laid inside = subst (λ (w : Torus × ℕ). AreInside w.0 w.1 moved) (λ i. ((space ∙ sym laid.space) i, sym laid.margin i)) inside

  -- what the collision says
  pub collided_in : (layout : Layout) (r : Arrays) (rule : FlowCase) (moved shifts : List ℤ) (given table : List ℕ) (before : ℕ → ℕ → ℤ) (old new : ℕ → ℤ) (answer : Option ℕ)
      → IsLaidOut case layout r → rule ≡ case → moved ≡ shifts → given ≡ table
      → IsCollided (is_sound rule) (post rule) v.directions before (λ x i. range_slot r.space r.margin moved (slice_index given i) x) (HasSlot r.space r.margin moved v.directions) 0 (cells r.space) old new answer
      → IsCollided (is_sound case) (post case) case.stencil.directions before (λ x i. range_slot case.torus layout.margin shifts (slice_index table i) x) (HasSlot case.torus layout.margin shifts case.stencil.directions) 0 (cells case.torus) old new answer
  collided_in layout r rule moved shifts given table before old new answer laid is are same all =
      subst (λ (w : FlowCase × Torus × ℕ × List ℤ × List ℕ × Stencil). IsCollided (is_sound w.0) (post w.0) w.5.directions before (λ x i. range_slot w.1 w.2 w.3 (slice_index w.4 i) x) (HasSlot w.1 w.2 w.3 w.5.directions) 0 (cells w.1) old new answer)
      (λ i. (is i, laid.space i, laid.margin i, are i, same i, sym set i)) all
