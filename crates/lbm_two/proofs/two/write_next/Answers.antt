use Rattle.std.proofs.Common.{◌≡◌, ℕ, ◌<◌, ◌≤◌, List, ℤ, length, slice_index, unsigned_abs, refl, sym, ap, subst, ◌∙◌, arith}
use Rattle.lbm_space.specs.Stencil.{Stencil}
use Rattle.lbm_space.specs.Torus.{Torus, cells}
use Rattle.lbm_model.specs.Case.{FlowCase, IsCase}
use Rattle.lbm_model.specs.Small.{size_limit}
use Rattle.lbm_model.specs.Layout.{two_layout, state_in}
use Rattle.lbm_arrays.specs.Arrays.{Arrays, held}
use Rattle.lbm_arrays.specs.Pads.{AreLoaded}
use Rattle.lbm_arrays.specs.LentRanges.{AreInside}
use Rattle.lbm_arrays.specs.declared.steps.Step.TheVariants.{InPlace}
use Rattle.lbm_arrays.specs.Steps.{step_shifts}
use Rattle.lbm_arrays.proofs.Moves.{length-shifts}
use Rattle.lbm_sweep.specs.Lattices.{IsLaidOut}
use Rattle.lbm_sweep.specs.Steps.{IsTaken}
use Rattle.lbm_sweep.proofs.Cases.{collided_in}
use Rattle.lbm_sweep.proofs.Steps.{sweep_is_step}
use Rattle.lbm_two.specs.Behind.{slot_behind}
use Rattle.lbm_two.proofs.Steps.{loaded, stored}
use Rattle.lbm_two.proofs.two.write_next.Goals as goal

-- The same in the case's own terms: the space, the set and the rule of the calls are those of the case.
module _ (case : FlowCase) (v : Stencil) (allowed : IsCase case) (set : case.stencil ≡ v) where
  directions : v.directions ≡ case.stencil.directions
  directions = ap (λ (w : Stencil). w.directions) (sym set)

  taken : (now : Arrays) (t : Torus) (new slots : List ℤ) → IsLaidOut case two_layout now → t ≡ case.torus → slots ≡ new → AreLoaded now.space v.directions now.margin 0 now.slots new
      → IsTaken case (state_in case two_layout now.slots) (λ x i. held slots (slot_behind t v x i))
  taken now t new slots laid space same pads x i here known =
      let pads' : AreLoaded case.torus case.stencil.directions 0 0 now.slots new = subst (λ (w : Torus × ℕ × ℕ). AreLoaded w.0 w.1 w.2 0 now.slots new) (λ j. (laid.space j, directions j, laid.margin j)) pads in
      (λ j. held (same j) (slot_behind (space j) (sym set j) x i)) ∙ loaded case allowed now.slots new pads' x i here known

pub collide-requires-clause-count : goal.collide-requires-clause-count
collide-requires-clause-count g c =
    let v = g.V.VelocitySet.stencil in
    ap length c.shifts-moved.ensures.table ∙ length-shifts c.space.result.now v InPlace 0
    ∙ ap (λ (w : Stencil). w.directions) (sym c.requires.set) ∙ sym c.requires.next.count

pub collide-requires-clause-inside : goal.collide-requires-clause-inside
collide-requires-clause-inside g c =
    let next = c.args.next.now in
    subst (λ (t : Torus). AreInside t next.margin c.shifts-moved.result.items) (c.space.ensures.value ∙ sym c.requires.next.space) (c.shifts-moved.ensures.inside next.margin (omega arith))

pub collide-requires-clause-small : goal.collide-requires-clause-small
collide-requires-clause-small g c k cell slab row i known =
    let case = c.args.case.now in let v = g.V.VelocitySet.stencil in
    let here : cell < cells case.torus = subst (λ (t : Torus). cell < cells t) c.requires.next.space row.known in
    let known' : i < case.stencil.directions = subst (λ (w : Stencil). i < w.directions) (sym c.requires.set) known in
    let is = taken case v c.space.ensures.valid c.requires.set c.args.now.now c.space.result.now c.load_all_pads.new.region.slots c.slots.result.now c.requires.now c.space.ensures.value c.slots.ensures.value c.load_all_pads.ensures.loaded cell i here known' in
    subst (λ (w : ℤ × FlowCase). unsigned_abs w.0 ≤ size_limit w.1 cell) (λ j. (sym is j, case)) (c.requires.small.within cell i here known')

pub returns-clause-step : goal.returns-clause-step
returns-clause-step g c =
    let case = c.args.case.now in let v = g.V.VelocitySet.stencil in let t = c.space.result.now in let slots = c.slots.result.now in let table = c.same_directions-writes.result.items in
    let before : ℕ → ℕ → ℤ = λ x i. held slots (slot_behind t v x i) in
    let moved : c.shifts-moved.result.items ≡ step_shifts case.torus case.stencil InPlace 0 = c.shifts-moved.ensures.table ∙ (λ j. step_shifts (c.space.ensures.value j) (sym c.requires.set j) InPlace 0) in
    let same : (i : ℕ) → i < case.stencil.directions → slice_index table i ≡ i = λ i known.
    c.same_directions-writes.ensures.same i (subst (λ (w : Stencil). i < w.directions) c.requires.set known) in
    sweep_is_step case (state_in case two_layout c.args.now.now.slots) two_layout before _ _ _ _ c.collide.new.region.slots c.collide.result c.space.ensures.valid
    (taken case v c.space.ensures.valid c.requires.set c.args.now.now t c.load_all_pads.new.region.slots slots c.requires.now c.space.ensures.value c.slots.ensures.value c.load_all_pads.ensures.loaded)
    (collided_in case v c.requires.set two_layout c.args.next.now case c.shifts-moved.result.items (step_shifts case.torus case.stencil InPlace 0) table table before (held c.args.next.now.slots) (held c.collide.new.region.slots) c.collide.result c.requires.next refl moved refl
    (c.collide.ensures.collided before (λ k cell slab row i known. refl)))
    (λ none. stored case c.space.ensures.valid table c.collide.new.region.slots same)
