-- Lattices whose populations stand in the slots of a region.
use Rattle.std.proofs.Common.{◌≡◌, ℕ, ◌+◌, ◌*◌, ◌^◌, ◌<◌, ◌≤◌, ℤ, unsigned_abs, FitsSigned, w32, Bool, true, false, List, length, refl, sym, ap, subst, ◌∙◌, arith}
use Rattle.std.specs.Prelude.{Option, None, if◌then◌else◌}
use Rattle.std.proofs.lemmas.Int.{ints}
use Rattle.lbm_space.specs.Stencil.{Stencil, IsVelocitySet, opposite}
use Rattle.lbm_space.specs.Torus.{cells, padded}
use Rattle.lbm_space.specs.Padded.{padded_index}
use Rattle.lbm_space.proofs.Places.{padded_index_apart, padded_index_below}
use Rattle.lbm_model.specs.declared.layout.Layout.{Layout}
use Rattle.lbm_model.specs.State.{FlowState, population}
use Rattle.lbm_model.specs.Case.{FlowCase, IsCase, is_solid, source, target}
use Rattle.lbm_model.specs.Flow.{IsStateOf, is_sound}
use Rattle.lbm_model.specs.Layout.{array_of, stands_at, place_of, slot_of, population_in, state_in, StandsIn}
use Rattle.lbm_model.specs.Small.{IsNarrow, size_limit, IsSmall}
use Rattle.lbm_model.specs.Standing.{stopped_at, stepped}
use Rattle.lbm_model.proofs.Local.{is_sound-agree}
use Rattle.lbm_model.proofs.Neighbours.{source_known, target-source}
use Rattle.lbm_model.proofs.SmallStates.{small-next, small-narrow}
use Rattle.lbm_model.proofs.States.{IsStateOf-state_by, population-state_by, state_by-is}
use Rattle.lbm_arrays.specs.Arrays.{Arrays, IsRegion, slot_at}
use Rattle.lbm_arrays.specs.Pads.{place_slot}
use Rattle.lbm_arrays.proofs.Slots.{slot_below, slots_apart}
use Rattle.lbm_sweep.specs.Lattices.{IsLaidOut, Lattice, standing_by}
use Rattle.lbm_sweep.specs.Steps.{IsTaken, IsStep}

-- each population has an array, and no two directions have the same
array_below : (v : Stencil) (turned : Bool) (i : ℕ) → IsVelocitySet v → i < v.directions → (if turned then opposite v i else i) < v.directions
array_below v true i laws known = laws.opposite_exists i known
array_below v false i laws known = known

array_apart : (v : Stencil) (turned : Bool) (i j : ℕ) → IsVelocitySet v → i < v.directions → j < v.directions → (if turned then opposite v i else i) ≡ (if turned then opposite v j else j) → i ≡ j
array_apart v true i j laws known_i known_j same = sym (laws.opposite_twice i known_i) ∙ ap (opposite v) same ∙ laws.opposite_twice j known_j
array_apart v false i j laws known_i known_j same = same

-- each population stands at a cell, and those of one direction at different ones
cell_below : (case : FlowCase) (behind : Bool) (x i : ℕ) → IsCase case → x < cells case.torus → i < case.stencil.directions → (if behind then source case x i else x) < cells case.torus
cell_below case true x i allowed here known = source_known case x i allowed here known
cell_below case false x i allowed here known = here

cell_apart : (case : FlowCase) (behind : Bool) (x y i : ℕ) → IsCase case → x < cells case.torus → y < cells case.torus → i < case.stencil.directions → (if behind then source case x i else x) ≡ (if behind then source case y i else y) → x ≡ y
cell_apart case true x y i allowed here there known same = sym (target-source case x i allowed here known) ∙ ap (λ (z : ℕ). target case z i) same ∙ target-source case y i allowed there known
cell_apart case false x y i allowed here there known same = same

-- the slot of a population is that of a padded place of its array
pub slot_of-place_slot : (case : FlowCase) (layout : Layout) (x i : ℕ) → slot_of case layout x i ≡ place_slot case.torus layout.margin (array_of case.stencil layout i) layout.base (padded_index case.torus (stands_at case layout x i))
slot_of-place_slot case layout x i = refl

module _ (case : FlowCase) (layout : Layout) (allowed : IsCase case) where
  pub array_known : (i : ℕ) → i < case.stencil.directions → array_of case.stencil layout i < case.stencil.directions
  array_known i known = array_below case.stencil layout.turned i allowed.set known

  pub stands_known : (x i : ℕ) → x < cells case.torus → i < case.stencil.directions → stands_at case layout x i < cells case.torus
  stands_known x i here known = cell_below case layout.behind x i allowed here known

  pub place_known : (x i : ℕ) → layout.base ≤ layout.margin → x < cells case.torus → i < case.stencil.directions → place_of case layout x i < layout.margin + padded case.torus
  place_known x i base here known =
      let place = padded_index_below case.torus allowed.space (stands_at case layout x i) (stands_known x i here known) in
      omega (arith, place)

  pub slot_known : (x i : ℕ) → layout.base ≤ layout.margin → x < cells case.torus → i < case.stencil.directions → slot_of case layout x i < case.stencil.directions * (layout.margin + padded case.torus)
  slot_known x i base here known = slot_below (layout.margin + padded case.torus) case.stencil.directions (array_of case.stencil layout i) (place_of case layout x i) (array_known i known) (place_known x i base here known)

  -- no slot has two populations
  pub slot_of_apart : (x y i j : ℕ) → layout.base ≤ layout.margin → x < cells case.torus → y < cells case.torus → i < case.stencil.directions → j < case.stencil.directions
      → slot_of case layout x i ≡ slot_of case layout y j → (x ≡ y) × (i ≡ j)
  slot_of_apart x y i j base here there known_i known_j same =
      let size : ℕ = layout.margin + padded case.torus in
      let arrays : array_of case.stencil layout i ≡ array_of case.stencil layout j =
      slots_apart size (array_of case.stencil layout i) (array_of case.stencil layout j) (place_of case layout x i) (place_of case layout y j) (place_known x i base here known_i) (place_known y j base there known_j) same in
      let one : i ≡ j = array_apart case.stencil layout.turned i j allowed.set known_i known_j arrays in
      let start : array_of case.stencil layout i * size ≡ array_of case.stencil layout j * size = ap (λ (k : ℕ). k * size) arrays in
      let places : padded_index case.torus (stands_at case layout x i) ≡ padded_index case.torus (stands_at case layout y j) = omega (arith, same, start) in
      let at : stands_at case layout x i ≡ stands_at case layout y j = padded_index_apart case.torus allowed.space (stands_at case layout x i) (stands_at case layout y j) (stands_known x i here known_i) (stands_known y j there known_j) places in
      (cell_apart case layout.behind x y i allowed here there known_i (at ∙ ap (stands_at case layout y) (sym one)), one)

-- the state in the slots is a state of the case, and has what they hold
pub IsStateOf-state_in : (case : FlowCase) (layout : Layout) (slots : List ℤ) → IsStateOf case (state_in case layout slots)
IsStateOf-state_in case layout slots = IsStateOf-state_by case (population_in case layout slots)

pub population-state_in : (case : FlowCase) (layout : Layout) (slots : List ℤ) (x i : ℕ) → x < cells case.torus → i < case.stencil.directions → population (state_in case layout slots) x i ≡ population_in case layout slots x i
population-state_in case layout slots x i here known = population-state_by case (population_in case layout slots) x i here known

pub stands_in-state_in : (case : FlowCase) (layout : Layout) (slots : List ℤ) → StandsIn case layout (state_in case layout slots) slots
stands_in-state_in case layout slots x i here known = sym (population-state_in case layout slots x i here known)

-- what is taken from there is the state
pub taken_from : (case : FlowCase) (layout : Layout) (slots : List ℤ) (before : ℕ → ℕ → ℤ) → ((x i : ℕ) → x < cells case.torus → i < case.stencil.directions → before x i ≡ population_in case layout slots x i) → IsTaken case (state_in case layout slots) before
taken_from case layout slots before read x i here known = read x i here known ∙ sym (population-state_in case layout slots x i here known)

-- a state that stands in the slots is the state in them
pub state_in-is : (case : FlowCase) (layout : Layout) (s : FlowState) (slots : List ℤ) → IsStateOf case s → StandsIn case layout s slots → state_in case layout slots ≡ s
state_in-is case layout s slots state stands = state_by-is case s (population_in case layout slots) state stands

-- a cell as it is read from the slots is sound where it is in the state
pub read_sound : (case : FlowCase) (layout : Layout) (slots : List ℤ) (x : ℕ) (f : ℕ → ℤ) → x < cells case.torus → ((i : ℕ) → i < case.stencil.directions → f i ≡ population_in case layout slots x i)
    → is_sound case x f ≡ is_sound case x (population (state_in case layout slots) x)
read_sound case layout slots x f here read =
    is_sound-agree case x f (population (state_in case layout slots) x) (record { same = λ i known. read i known ∙ sym (population-state_in case layout slots x i here known) })

-- where no population is too large each fits 32 bits
limit_least : (case : FlowCase) (x : ℕ) → size_limit case x ≤ 2 ^ 28 + 2 ^ 15
limit_least case x = by_cases (is_solid case x)
  where
    by_cases : (solid : Bool) → (if solid then 2 ^ 28 else 2 ^ 28 + 2 ^ 15) ≤ 2 ^ 28 + 2 ^ 15
    by_cases true = omega arith
    by_cases false = omega arith

pub small_fits : (case : FlowCase) (layout : Layout) (slots : List ℤ) → IsSmall case (state_in case layout slots) → (x i : ℕ) → x < cells case.torus → i < case.stencil.directions → FitsSigned w32 (population_in case layout slots x i)
small_fits case layout slots small x i here known =
    let within : unsigned_abs (population_in case layout slots x i) ≤ size_limit case x = rw (← population-state_in case layout slots x i here known) (small.within x i here known) in
    omega (arith, ints, within, limit_least case x)

-- no population is too large in a lattice that begins with a narrow state, nor where a step has been made from one that has no such
pub small_placed : (case : FlowCase) (layout : Layout) (s : FlowState) (slots : List ℤ) → IsCase case → IsStateOf case s → IsNarrow s → state_in case layout slots ≡ s → IsSmall case (state_in case layout slots)
small_placed case layout s slots allowed state narrow placed = subst (IsSmall case) (sym placed) (small-narrow case s allowed state narrow)

pub small_stepped : (case : FlowCase) (s : FlowState) (layout : Layout) (last : List ℤ) (answer : Option ℕ) → IsCase case → IsSmall case s → IsStep case s layout last answer → answer ≡ None → IsSmall case (state_in case layout last)
small_stepped case s layout last answer allowed small step none = subst (IsSmall case) (sym (step.next none)) (small-next case s allowed small (sym step.first ∙ none))

-- a step of the lattice is a step of what it stands for
pub stopped_at-step : (layout : ℕ → Layout) (l : Lattice) (now : Layout) (last : List ℤ) (answer : Option ℕ) → l.spent ≡ None → IsStep l.case (state_in l.case (layout l.time) l.slots) now last answer → stopped_at (standing_by layout l) ≡ answer
stopped_at-step layout l now last answer free step = rw free (sym step.first)

pub standing-step : (layout : ℕ → Layout) (l : Lattice) (last : List ℤ) → IsStep l.case (state_in l.case (layout l.time) l.slots) (layout (l.time + 1)) last None
    → standing_by layout (record l { time = l.time + 1; slots = last }) ≡ stepped (standing_by layout l)
standing-step layout l last step = ap (λ (s : FlowState). record (standing_by layout l) { time = l.time + 1; state = s }) (step.next refl)

-- a region of which the slots alone changed
pub laid_again : (case : FlowCase) (layout : Layout) (r new : Arrays) → new ≡ record r { slots = new.slots } → IsLaidOut case layout r → IsLaidOut case layout new
laid_again case layout r new same laid = record {
  space = ap (λ (a : Arrays). a.space) same ∙ laid.space;
  count = ap (λ (a : Arrays). a.count) same ∙ laid.count;
  margin = ap (λ (a : Arrays). a.margin) same ∙ laid.margin;
  base = laid.base;
}

-- two that are laid out alike differ in their slots alone
pub laid_alike : (case : FlowCase) (layout : Layout) (r new : Arrays) → IsLaidOut case layout r → IsLaidOut case layout new → new ≡ record r { slots = new.slots }
laid_alike case layout r new here there = λ i. record {
  space = (there.space ∙ sym here.space) i;
  count = (there.count ∙ sym here.count) i;
  margin = (there.margin ∙ sym here.margin) i;
  slots = new.slots;
}

pub region_again : (r new : Arrays) → new ≡ record r { slots = new.slots } → length new.slots ≡ length r.slots → IsRegion r → IsRegion new
region_again r new same size region =
    let space : new.space ≡ r.space = ap (λ (a : Arrays). a.space) same in
    let count : new.count ≡ r.count = ap (λ (a : Arrays). a.count) same in
    let margin : new.margin ≡ r.margin = ap (λ (a : Arrays). a.margin) same in
    record {
      space = rw space region.space;
      some = rw count region.some;
      few = rw count region.few;
      margin = rw (margin, space) region.margin;
      whole = rw (count, margin, space) (size ∙ region.whole);
    }

module _ (case : FlowCase) (layout : Layout) (r : Arrays) (allowed : IsCase case) (laid : IsLaidOut case layout r) (region : IsRegion r) where
  -- the margin is no more than the padded places
  pub margin_few : layout.margin ≤ padded case.torus
  margin_few = rw (← laid.margin, ← laid.space) region.margin

  -- the slot of a population is one of the region
  pub slot_at-slot_of : (x i : ℕ) → slot_at r.space r.margin (array_of case.stencil layout i) (place_of case layout x i) ≡ slot_of case layout x i
  slot_at-slot_of x i = rw (laid.margin, laid.space) refl

  pub slot_inside : (x i : ℕ) → x < cells case.torus → i < case.stencil.directions → slot_of case layout x i < length r.slots
  slot_inside x i here known =
      let size : length r.slots ≡ case.stencil.directions * (layout.margin + padded case.torus) = region.whole ∙ rw (laid.count, laid.margin, laid.space) refl in
      rw size (slot_known case layout allowed x i laid.base here known)
