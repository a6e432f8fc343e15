-- How the compressed grid goes from the slots of one time to those of the next.
use Rattle.std.proofs.Common.{◌≡◌, ℕ, ◌+◌, ◌*◌, ◌<◌, ◌≤◌, ◌/◌, ◌%◌, nat_eq, Bool, true, false, if◌then◌else◌, List, length, ℤ, unsigned_abs, slice_index, refl, sym, ap, subst, ◌∙◌, inl, inr, eq-eqb, ne_eqb, arith}
use Rattle.std.specs.Prelude.{Option, None}
use Rattle.std.proofs.lemmas.Bool.{cases_eq}
use Rattle.std.proofs.lemmas.Int.{ints}
use Rattle.std.proofs.lemmas.Nat.{mod-mul-add, mod_below}
use Rattle.std.proofs.Math.Nat.{mod-add-div}
use Rattle.lbm_space.specs.Stencil.{Stencil, velocity}
use Rattle.lbm_space.specs.Torus.{Torus, cells}
use Rattle.lbm_space.specs.Padded.{padded_index, reach}
use Rattle.lbm_space.specs.Cuttings.{IsCutting, slabs_of}
use Rattle.lbm_model.specs.Case.{FlowCase, IsCase}
use Rattle.lbm_model.specs.Flow.{is_sound, post}
use Rattle.lbm_model.specs.Small.{size_limit}
use Rattle.lbm_model.specs.declared.layout.Layout.{Layout}
use Rattle.lbm_model.specs.Layout.{grid_layout, state_in}
use Rattle.lbm_model.proofs.Neighbours.{source-target}
use Rattle.lbm_arrays.specs.Arrays.{Arrays, IsRegion, array_size, held}
use Rattle.lbm_arrays.specs.Pads.{place_slot}
use Rattle.lbm_arrays.specs.LentRanges.{AreInside}
use Rattle.lbm_arrays.specs.Steps.{step_shifts, place_behind}
use Rattle.lbm_arrays.proofs.Behind.{place_behind_below, stand-behind}
use Rattle.lbm_arrays.proofs.Moves.{length-shifts}
use Rattle.lbm_sweep.specs.Sweep.{IsCollided}
use Rattle.lbm_sweep.specs.Regions.{range_slot, HasSlot, InEachSlab}
use Rattle.lbm_walk.specs.First.{IsFirst}
use Rattle.lbm_sweep.specs.Steps.{IsTaken, IsSent, IsStep, IsWritten}
use Rattle.lbm_sweep.specs.Lattices.{IsKept, IsLaidOut}
use Rattle.lbm_sweep.proofs.Steps.{written_is_step}
use Rattle.lbm_sweep.proofs.Lattices.{population-state_in, small_stepped}
use Rattle.lbm_sweep.proofs.Cases.{whole_region, collided_in}
use Rattle.lbm_sweep.proofs.OwnPlaces.{slot_touched}
use Rattle.lbm_grid.specs.Strips.{AreRooms, AreSaved}
use Rattle.lbm_grid.specs.Near.{taken_near, IsNear}
use Rattle.lbm_grid.specs.Sweeps.{far, base_of, step_of, layout_before, layout_after, taken, sent_to, AreLoadedFor, AreReady}
use Rattle.lbm_grid.proofs.Seen.{has_room, inside_moved, near_ready, near_taken}

module _ (case : FlowCase) (allowed : IsCase case) (rises : Bool) where
  -- Loaded: the place behind a cell stands for the cell behind, where its population stands.
  pub loaded : (old new : List ℤ) → AreLoadedFor case rises old new → IsTaken case (state_in case (layout_before case rises) old) (taken case rises new)
  loaded old new pads x i here known =
      let p : ℕ = place_behind case.torus (velocity case.stencil i) x in
      pads i p known (place_behind_below case.torus allowed.space case.stencil allowed.set (sym allowed.dimension) i known x here)
      ∙ ap (λ (q : ℕ). held old (place_slot case.torus (far case) i (base_of rises (far case)) q)) (stand-behind case.torus allowed.space case.stencil allowed.set (sym allowed.dimension) i known x here)
      ∙ sym (population-state_in case (layout_before case rises) old x i here known)

-- where a cell writes: at its own place, once the lattice has moved
sent_is : (case : FlowCase) (rises : Bool) (x i : ℕ) → sent_to case rises x i ≡ place_slot case.torus (far case) i (layout_after case rises).base (padded_index case.torus x)
sent_is case true x i = omega (arith, ints)
sent_is case false x i = omega (arith, ints)

-- Stored: a cell is behind the one to which it sends, so it writes where that one's population stands.
pub stored : (case : FlowCase) → IsCase case → (rises : Bool) (last : List ℤ) → IsSent case (layout_after case rises) (sent_to case rises) (held last) last
stored case allowed rises last x i here known =
    ap (λ (y : ℕ). held last (place_slot case.torus (far case) i (layout_after case rises).base (padded_index case.torus y))) (source-target case x i allowed here known)
    ∙ ap (held last) (sym (sent_is case rises x i))

-- the shifts of a call are those of the case
pub moved_is : (case : FlowCase) (v : Stencil) (rises : Bool) (u : Torus) (most : ℕ) (moved : List ℤ) → case.stencil ≡ v → u ≡ case.torus → most ≡ reach u v → moved ≡ step_shifts u v (step_of rises) (base_of rises most)
    → moved ≡ step_shifts case.torus case.stencil (step_of rises) (base_of rises (far case))
moved_is case v rises u most moved set space is_most is_moved =
    is_moved ∙ ap (λ (n : ℕ). step_shifts u v (step_of rises) (base_of rises n)) is_most
    ∙ (λ i. step_shifts (space i) (sym set i) (step_of rises) (base_of rises (reach (space i) (sym set i))))

-- A sweep, in the words of its call: the region, the set, the space and the rule are those of the case.
module _ (case : FlowCase) (v : Stencil) (rises : Bool) (bounds : List ℕ) (t : Torus) (space : t ≡ case.torus) (begins : List ℕ) (width : ℕ) (kept : List ℤ) (region : Arrays)
    (valid : IsRegion region) (cutting : IsCutting bounds) (ready : AreReady case v rises bounds begins width kept region)
    (moved : List ℤ) (is_moved : moved ≡ step_shifts case.torus case.stencil (step_of rises) (base_of rises (far case))) where
  abbrev Words : Type 0
  Words = Torus × ℕ × List ℤ × Torus × Stencil

  said : (P : Words → Type 0) → P (case.torus, far case, step_shifts case.torus case.stencil (step_of rises) (base_of rises (far case)), case.torus, case.stencil) → P (region.space, region.margin, moved, t, v)
  said P p = subst P (λ i. (sym ready.laid.space i, sym ready.laid.margin i, sym is_moved i, sym space i, ready.set i)) p

  whole : length region.slots ≡ case.stencil.directions * array_size case.torus (far case)
  whole = whole_region case (layout_before case rises) region valid ready.laid

  rooms_in : AreRooms case.torus case.stencil bounds begins width (length kept)
  rooms_in = subst (λ (w : Stencil). AreRooms case.torus w bounds begins width (length kept)) (sym ready.set) ready.rooms

  saved_in : AreSaved case.torus case.stencil rises bounds begins width (far case) (base_of rises (far case)) (slabs_of bounds) region.slots kept
  saved_in = subst (λ (w : Stencil). AreSaved case.torus w rises bounds begins width (far case) (base_of rises (far case)) (slabs_of bounds) region.slots kept) (sym ready.set) ready.saved

  abbrev c : IsCase case
  c = ready.valid

  pub count_said : length moved ≡ region.count
  count_said = ap length is_moved ∙ length-shifts case.torus case.stencil (step_of rises) (base_of rises (far case)) ∙ sym ready.laid.count

  pub inside_said : AreInside region.space region.margin moved
  inside_said = said (λ (w : Words). AreInside w.0 w.1 w.2) (inside_moved case.torus c.space case.stencil c.set (sym c.dimension) rises)

  pub ready_said : InEachSlab region.space region.margin moved bounds region.slots (λ rows ranges cell. IsNear t v begins width (length kept) rows ranges)
  ready_said = said (λ (w : Words). InEachSlab w.0 w.1 w.2 bounds region.slots (λ rows ranges cell. IsNear w.3 w.4 begins width (length kept) rows ranges))
      (near_ready case.torus c.space case.stencil c.set (sym c.dimension) rises bounds begins width kept region.slots cutting ready.cutting rooms_in whole)

  pub taken_said : InEachSlab region.space region.margin moved bounds region.slots (λ rows ranges cell. (i : ℕ) → i < v.directions → taken_near t v rises begins width kept rows ranges cell i ≡ taken case rises region.slots cell i)
  taken_said = said (λ (w : Words). InEachSlab w.0 w.1 w.2 bounds region.slots (λ rows ranges cell. (i : ℕ) → i < w.4.directions → taken_near w.3 w.4 rises begins width kept rows ranges cell i ≡ taken case rises region.slots cell i))
      (near_taken case.torus c.space case.stencil c.set (sym c.dimension) rises bounds begins width kept region.slots cutting ready.cutting rooms_in whole saved_in)

  pub small_said : (rule : FlowCase) → rule ≡ case → InEachSlab region.space region.margin moved bounds region.slots (λ rows ranges cell. (i : ℕ) → i < v.directions → unsigned_abs (taken_near t v rises begins width kept rows ranges cell i) ≤ size_limit rule cell)
  small_said rule is j cell slab here i known =
      let here' = subst (λ (u : Torus). cell < cells u) ready.laid.space here.known in let known' = subst (λ (w : Stencil). i < w.directions) (sym ready.set) known in
      subst (λ (w : ℤ × FlowCase). unsigned_abs w.0 ≤ size_limit w.1 cell) (λ k. (sym (taken_said j cell slab here i known) k, sym is k)) (ready.small cell i here' known')

  -- what the collision says then
  module _ (rule : FlowCase) (is : rule ≡ case) (table : List ℕ) (same : (i : ℕ) → i < v.directions → slice_index table i ≡ i) (new : List ℤ) (answer : Option ℕ)
      (did : IsCollided (is_sound rule) (post rule) v.directions (taken case rises region.slots) (λ x i. range_slot region.space region.margin moved (slice_index table i) x) (HasSlot region.space region.margin moved v.directions) 0 (cells region.space) (held region.slots) (held new) answer) where
    pub collided : IsCollided (is_sound case) (post case) case.stencil.directions (taken case rises region.slots)
        (λ x i. range_slot case.torus (far case) (step_shifts case.torus case.stencil (step_of rises) (base_of rises (far case))) (slice_index table i) x)
        (HasSlot case.torus (far case) (step_shifts case.torus case.stencil (step_of rises) (base_of rises (far case))) case.stencil.directions) 0 (cells case.torus) (held region.slots) (held new) answer
    collided = collided_in case v ready.set (layout_before case rises) region rule moved (step_shifts case.torus case.stencil (step_of rises) (base_of rises (far case))) table table (taken case rises region.slots) (held region.slots) (held new) answer
        ready.laid is is_moved refl did

    pub written : answer ≡ None → IsWritten case (taken case rises region.slots) (sent_to case rises) (held new)
    written none x i here known =
        let known' = subst (λ (w : Stencil). i < w.directions) ready.set known in
        let slot = slot_touched case.torus c.space case.stencil c.set (sym c.dimension) (step_of rises) (base_of rises (far case)) (far case) (has_room case.torus c.space case.stencil c.set (sym c.dimension) rises) i x known here in
        ap (held new) (sym slot) ∙ ap (λ (k : ℕ). held new (range_slot case.torus (far case) (step_shifts case.torus case.stencil (step_of rises) (base_of rises (far case))) k x)) (sym (same i known'))
        ∙ (collided.swept none).written x i (omega arith) here known

-- The layouts take turns.
pub turns : (case : FlowCase) (time : ℕ) (rises : Bool) → nat_eq (time % 2) 0 ≡ rises → (grid_layout case.torus case.stencil time ≡ layout_before case rises) × (grid_layout case.torus case.stencil (time + 1) ≡ layout_after case rises)
turns case time true e = elim (cases_eq (time % 2) 0) [
  | inl even ↦ (
      let whole : time + 1 ≡ time / 2 * 2 + 1 = let all = mod-add-div time 2 in omega (arith, all, even) in
      let next : (time + 1) % 2 ≡ 1 = rw whole (mod-mul-add (time / 2) 2 1 (omega arith)) in
      (rw even refl, rw next refl))
  | inr odd ↦ (let h = ne_eqb (time % 2) 0 odd in absurd cc)
]
turns case time false e = elim (cases_eq (time % 2) 0) [
  | inl even ↦ (let h = eq-eqb (time % 2) 0 even in absurd cc)
  | inr odd ↦ (
      let below = mod_below time 2 (omega arith) in
      let one : time % 2 ≡ 1 = omega (arith, below, odd) in
      let whole : time + 1 ≡ (time / 2 + 1) * 2 + 0 = let all = mod-add-div time 2 in omega (arith, all, one) in
      let next : (time + 1) % 2 ≡ 0 = rw whole (mod-mul-add (time / 2 + 1) 2 0 (omega arith)) in
      (rw one refl, rw next refl))
]

-- A sweep makes a step.
pub made : (case : FlowCase) (time : ℕ) (rises : Bool) (old now new : List ℤ) (answer : Option ℕ) → nat_eq (time % 2) 0 ≡ rises → IsCase case → AreLoadedFor case rises old now
    → IsFirst (λ x. is_sound case x (taken case rises now x)) 0 (cells case.torus) answer
    → (answer ≡ None → IsWritten case (taken case rises now) (sent_to case rises) (held new))
    → IsStep case (state_in case (grid_layout case.torus case.stencil time) old) (grid_layout case.torus case.stencil (time + 1)) new answer
made case time rises old now new answer turn allowed loads first written =
    let layouts = turns case time rises turn in
    subst (λ (w : Layout × Layout). IsStep case (state_in case w.0 old) w.1 new answer) (λ i. (sym layouts.0 i, sym layouts.1 i))
    (written_is_step case (state_in case (layout_before case rises) old) (layout_after case rises) (taken case rises now) (sent_to case rises) (held new) new answer allowed
    (loaded case allowed rises old now loads) first written (λ none. stored case allowed rises new))

-- The room of a lattice is that of either time.
base_fits : (b : Bool) (n : ℕ) → (if b then n else 0) ≤ n
base_fits true n = omega arith
base_fits false n = omega arith

pub laid_at : (case : FlowCase) (time : ℕ) (region : Arrays) → region.space ≡ case.torus → region.count ≡ case.stencil.directions → region.margin ≡ far case → IsLaidOut case (grid_layout case.torus case.stencil time) region
laid_at case time region space count margin = record { space = space; count = count; margin = margin; base = base_fits (nat_eq (time % 2) 0) (far case) }

-- What the lattice keeps to from step to step.
pub kept-stepped : (v : Stencil) (case : FlowCase) (time : ℕ) (region region' : Arrays) (bounds : List ℕ) (spent : Option ℕ)
    → spent ≡ None → IsKept v (grid_layout case.torus case.stencil time) case spent region bounds
    → IsStep case (state_in case (grid_layout case.torus case.stencil time) region.slots) (grid_layout case.torus case.stencil (time + 1)) region'.slots None
    → region' ≡ record region { slots = region'.slots } → IsKept v (grid_layout case.torus case.stencil (time + 1)) case spent region' bounds
kept-stepped v case time region region' bounds spent free kept step same = record {
  set = kept.set;
  valid = kept.valid;
  laid = laid_at case (time + 1) region' (ap (λ (r : Arrays). r.space) same ∙ kept.laid.space) (ap (λ (r : Arrays). r.count) same ∙ kept.laid.count) (ap (λ (r : Arrays). r.margin) same ∙ kept.laid.margin);
  cutting = kept.cutting;
  small = λ _. small_stepped case (state_in case (grid_layout case.torus case.stencil time) region.slots) (grid_layout case.torus case.stencil (time + 1)) region'.slots None kept.valid (kept.small free) step refl;
}
