-- States that stand in kept rows.
use Rattle.std.proofs.Common.{◌≡◌, ℕ, ◌+◌, ◌*◌, ◌/◌, ◌%◌, ◌<◌, ◌≤◌, ◌^◌, nat_eq, Bool, true, false, List, [], ◌∷◌, ◌++◌, length, get_or, ℤ, pos, unsigned_abs, FitsSigned, w32, refl, ap, sym, ◌∙◌, subst, arith}
use Rattle.std.specs.Prelude.{Option, None, if◌then◌else◌, slice_index_or}
use Rattle.std.proofs.lemmas.Int.{ints}
use Rattle.std.proofs.lemmas.List.{places}
use Rattle.std.proofs.lemmas.Nat.{div-mul-add, mod-mul-add, mod_below, mul-add-lt}
use Rattle.lbm_space.specs.Torus.{cells, rows, x_of}
use Rattle.lbm_walk.proofs.Places.{row_known}
use Rattle.lbm_model.specs.State.{FlowState, population}
use Rattle.lbm_model.specs.Case.{FlowCase, IsCase, is_solid}
use Rattle.lbm_model.specs.Flow.{IsStateOf, is_sound}
use Rattle.lbm_model.specs.Layout.{array_of, stands_at, aa_layout}
use Rattle.lbm_model.specs.Small.{size_limit, IsSmall}
use Rattle.lbm_model.specs.Standing.{stopped_at, stepped}
use Rattle.lbm_model.proofs.Local.{is_sound-agree}
use Rattle.lbm_model.proofs.Neighbours.{source_known, target-source}
use Rattle.lbm_model.proofs.SmallStates.{small-next}
use Rattle.lbm_model.proofs.States.{population-state_by, state_by-is}
use Rattle.lbm_sweep.specs.Steps.{IsStepTo}
use Rattle.lbm_rows.specs.Kept.{placed, population_kept, state_kept}
use Rattle.lbm_rows.specs.Tiles.{KeptLattice, standing_in, StandInRow}
use Rattle.lbm_rows.proofs.Touching.{array_known}
use Rattle.lbm_rows.proofs.KeptSteps.{layout_when}

-- one more number at the end of a row
pub slot_in_front : (items : List ℤ) (v : ℤ) (i : ℕ) → i < length items → get_or (items ++ v ∷ []) i (pos 0) ≡ get_or items i (pos 0)
slot_in_front items v i below = grind (arith, places)

pub slot_at_end : (items : List ℤ) (v : ℤ) (i : ℕ) → i ≡ length items → get_or (items ++ v ∷ []) i (pos 0) ≡ v
slot_at_end items v i end = grind (arith, places)

module _ (case : FlowCase) (allowed : IsCase case) where
  placed_by : (even : Bool) (s : FlowState) (x i : ℕ) → x < cells case.torus → i < case.stencil.directions
      → population s (stands_at case (layout_when even) (stands_at case (layout_when even) x i) (array_of case.stencil (layout_when even) i)) (array_of case.stencil (layout_when even) (array_of case.stencil (layout_when even) i)) ≡ population s x i
  placed_by true s x i here known = refl
  placed_by false s x i here known = (λ j. population s (target-source case x i allowed here known j) (allowed.set.opposite_twice i known j))

  stands_by : (even : Bool) (x i : ℕ) → x < cells case.torus → i < case.stencil.directions → stands_at case (layout_when even) x i < cells case.torus
  stands_by true x i here known = here
  stands_by false x i here known = source_known case x i allowed here known

  pub stands_known : (time x i : ℕ) → x < cells case.torus → i < case.stencil.directions → stands_at case (aa_layout time) x i < cells case.torus
  stands_known time x i here known = stands_by (nat_eq (time % 2) 0) x i here known

  -- what is placed in the slot of a population is that population
  pub placed_stands : (time : ℕ) (s : FlowState) (x i : ℕ) → x < cells case.torus → i < case.stencil.directions → placed case time s (array_of case.stencil (aa_layout time) i) (stands_at case (aa_layout time) x i) ≡ population s x i
  placed_stands time s x i here known = placed_by (nat_eq (time % 2) 0) s x i here known

  -- so where all is placed the state stands in the rows
  pub made_state : (time : ℕ) (s : FlowState) (kept : List (List ℤ)) → IsStateOf case s
      → ((j x : ℕ) → j < case.stencil.directions * rows case.torus → x < case.torus.nx → slice_index_or (slice_index_or kept j []) (1 + x) (pos 0) ≡ placed case time s (j / rows case.torus) (j % rows case.torus * case.torus.nx + x))
      → state_kept case time kept ≡ s
  made_state time s kept state made = state_by-is case s (population_kept case time kept) state (λ x i here known.
      let k : ℕ = array_of case.stencil (aa_layout time) i in let at : ℕ = stands_at case (aa_layout time) x i in
      let k_known = array_known case.stencil allowed.set time i known in let at_known = stands_known time x i here known in
      let row = row_known case.torus allowed.space at at_known in
      let column = mod_below at case.torus.nx allowed.space.some_x in
      let number : ℕ = k * rows case.torus + at / case.torus.nx in
      let whole : at / case.torus.nx * case.torus.nx + x_of case.torus at ≡ at = omega arith in
      let e = mul-add-lt k (rows case.torus) (at / case.torus.nx) case.stencil.directions k_known row in
      made number (x_of case.torus at) (omega (arith, e)) column
      ∙ (λ z. placed case time s (div-mul-add k (rows case.torus) (at / case.torus.nx) row z) (mod-mul-add k (rows case.torus) (at / case.torus.nx) row z * case.torus.nx + x_of case.torus at))
      ∙ ap (placed case time s k) whole
      ∙ placed_stands time s x i here known)

-- each population stands in its slot
pub row_stands : (case : FlowCase) (time : ℕ) (kept : List (List ℤ)) (k r : ℕ) → StandInRow case time (state_kept case time kept) k r (slice_index_or kept (k * rows case.torus + r) [])
row_stands case time kept k r x i here known array row =
    (λ z. slice_index_or (slice_index_or kept (sym array z * rows case.torus + sym row z) []) (1 + x_of case.torus (stands_at case (aa_layout time) x i)) (pos 0))
    ∙ sym (population-state_by case (population_kept case time kept) x i here known)

-- a population that is not too large fits 32 bits
limit_least : (case : FlowCase) (x : ℕ) → size_limit case x ≤ 2 ^ 28 + 2 ^ 15
limit_least case x = by_cases (is_solid case x)
  where
    by_cases : (solid : Bool) → (if solid then 2 ^ 28 else 2 ^ 28 + 2 ^ 15) ≤ 2 ^ 28 + 2 ^ 15
    by_cases true = omega arith
    by_cases false = omega arith

module _ (case : FlowCase) (time : ℕ) (kept : List (List ℤ)) where
  pub kept_fits : IsSmall case (state_kept case time kept) → (x i : ℕ) → x < cells case.torus → i < case.stencil.directions → FitsSigned w32 (population_kept case time kept x i)
  kept_fits small x i here known =
      let within : unsigned_abs (population_kept case time kept x i) ≤ size_limit case x = subst (λ (z : ℤ). unsigned_abs z ≤ size_limit case x) (population-state_by case (population_kept case time kept) x i here known) (small.within x i here known) in
      omega (arith, ints, within, limit_least case x)

  pub kept_sound : (x : ℕ) (f : ℕ → ℤ) → x < cells case.torus → ((i : ℕ) → i < case.stencil.directions → f i ≡ population_kept case time kept x i) → is_sound case x f ≡ is_sound case x (population (state_kept case time kept) x)
  kept_sound x f here read =
      is_sound-agree case x f (population (state_kept case time kept) x) (record { same = λ i known. read i known ∙ sym (population-state_by case (population_kept case time kept) x i here known) })

-- a step of the rows is a step of what they stand for
module _ (l : KeptLattice) (new : List (List ℤ)) where
  pub stops : (answer : Option ℕ) → l.spent ≡ None → IsStepTo l.case (state_kept l.case l.time l.kept) (population_kept l.case (l.time + 1) new) answer → stopped_at (standing_in l) ≡ answer
  stops answer free step = rw free (sym step.first)

  pub steps : IsStepTo l.case (state_kept l.case l.time l.kept) (population_kept l.case (l.time + 1) new) None → standing_in (record l { time = l.time + 1; kept = new }) ≡ stepped (standing_in l)
  steps step = ap (λ (s : FlowState). record (standing_in l) { time = l.time + 1; state = s }) (step.next refl)

  pub small_next : IsCase l.case → IsSmall l.case (state_kept l.case l.time l.kept) → IsStepTo l.case (state_kept l.case l.time l.kept) (population_kept l.case (l.time + 1) new) None → IsSmall l.case (state_kept l.case (l.time + 1) new)
  small_next allowed small step = subst (IsSmall l.case) (sym (step.next refl)) (small-next l.case (state_kept l.case l.time l.kept) allowed small (sym step.first))
