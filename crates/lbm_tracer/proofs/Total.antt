-- Nothing of a tracer is lost.
use Rattle.std.proofs.Common.{◌≡◌, ℕ, zero, suc, ◌+◌, ℤ, pos, ◌+ℤ◌, ◌*ℤ◌, false, true, eqb, refl, ap, sym, inl, inr, ◌∙◌}
use Rattle.std.specs.Prelude.{if◌then◌else◌, Option, Some, None, ◌==◌}
use Rattle.std.proofs.lemmas.Bool.{cases_Bool}
use Rattle.lbm_space.specs.Sum.{sum_below}
use Rattle.lbm_space.specs.Stencil.{Stencil, opposite, weight}
use Rattle.lbm_space.specs.Torus.{Torus, cells}
use Rattle.lbm_space.proofs.Sums.{sum_below-same, sum_below-zero, sum_below-swap, sum_below-reindex, sum_below-one}
use Rattle.lbm_cell.specs.Moments.{density, momentum}
use Rattle.lbm_cell.specs.Collision.{RelaxationRates, reflection, floor_div}
use Rattle.lbm_cell.proofs.Conservation.{density-with_rest}
use Rattle.lbm_model.specs.State.{FlowState, population, mass}
use Rattle.lbm_model.specs.Case.{FlowCase, is_solid}
use Rattle.lbm_model.specs.Flow.{IsStateOf, next, out_of_limits}
use Rattle.lbm_model.proofs.Mass.{mass-by_cell, population-state_of, length-state_of}
use Rattle.lbm_tracer.specs.Collision.{relaxation_of, tracer_collision, first_amount}
use Rattle.lbm_tracer.specs.Tracing.{set_in, tracer_state_by, tracer_post, tracer_source, tracer_next, tracer_out_of_limits, tracer_run, unless_out, TracerRun, reached}
use Rattle.lbm_tracer.specs.Carried.{places_of}
use Rattle.lbm_tracer.specs.Laws.{TotalAtFirst, TotalOfStep, TotalOfRun}
use Rattle.lbm_tracer.proofs.Sets.{IsTracerSet, set_facts}
use Rattle.lbm_tracer.proofs.Neighbours.{source_known, target-source, source-target}

-- the sum of a state that is made of amounts
sum-state_by : (t : Torus) (f : ℕ → ℕ → ℤ) → mass (tracer_state_by t f) ≡ sum_below (cells t) (λ x. sum_below (set_in t).directions (λ k. f x k))
sum-state_by t f =
    let n = cells t in let q = (set_in t).directions in
    mass-by_cell (tracer_state_by t f) n (length-state_of q n f)
    ∙ sum_below-same n (λ x. sum_below q (λ k. population (tracer_state_by t f) x k)) (λ x. sum_below q (λ k. f x k))
    (λ x here. sum_below-same q (λ k. population (tracer_state_by t f) x k) (λ k. f x k) (λ k known. population-state_of q n f x k here known))

-- a cell keeps its amount
reflected : (v : Stencil) (g : ℕ → ℤ) → IsTracerSet v → sum_below v.directions (λ k. reflection v g k) ≡ sum_below v.directions g
reflected v g facts =
    sum_below-reindex v.directions (opposite v) (opposite v) g facts.opposite_exists facts.opposite_exists facts.opposite_twice facts.opposite_twice

kept : (case : FlowCase) (r : RelaxationRates) (s : FlowState) (x : ℕ) (g : ℕ → ℤ) → sum_below (set_in case.torus).directions (λ k. tracer_post case r s x g k) ≡ sum_below (set_in case.torus).directions g
kept case r s x g =
    let v = set_in case.torus in let facts = set_facts case.torus.dimension in
    let rho = density case.stencil (population s x) in let j = momentum case.stencil (population s x) in
    elim (is_solid case x) as (λ solid. sum_below v.directions (λ k. if solid then reflection v g k else tracer_collision v r rho j g k) ≡ sum_below v.directions g) [
      | true ↦ reflected v g facts
      | false ↦ density-with_rest v (density v g) (λ k. g k +ℤ relaxation_of v r rho j (density v g) (g k) k) facts.some
    ]

pub total-next : TotalOfStep
total-next case r s g allowed state =
    let t = case.torus in let v = set_in t in let n = cells t in let q = v.directions in
    let post : ℕ → ℕ → ℤ = λ x k. tracer_post case r s x (population g x) k in
    let made = sum-state_by t (λ x k. post (tracer_source t x k) k) in
    let by_direction = sum_below-swap n q (λ x k. post (tracer_source t x k) k) in
    let arrived : sum_below q (λ k. sum_below n (λ x. post (tracer_source t x k) k)) ≡ sum_below q (λ k. sum_below n (λ x. post x k)) =
    sum_below-same q (λ k. sum_below n (λ x. post (tracer_source t x k) k)) (λ k. sum_below n (λ x. post x k)) (λ k known.
    sum_below-reindex n (λ x. tracer_source t x k) (λ x. tracer_source t x (opposite v k)) (λ x. post x k)
    (λ x here. source_known t allowed.space x k here known) (λ x here. source_known t allowed.space x (opposite v k) here ((set_facts t.dimension).opposite_exists k known))
    (λ x here. target-source t allowed.space x k here known) (λ x here. source-target t allowed.space x k here known)) in
    let by_cell = sum_below-swap q n (λ k x. post x k) in
    let same : sum_below n (λ x. sum_below q (λ k. post x k)) ≡ sum_below n (λ x. sum_below q (λ k. population g x k)) =
    sum_below-same n (λ x. sum_below q (λ k. post x k)) (λ x. sum_below q (λ k. population g x k)) (λ x _. kept case r s x (population g x)) in
    let old : mass g ≡ sum_below n (λ x. sum_below q (λ k. population g x k)) =
    mass-by_cell g n state.numbers ∙ ap (λ (k : ℕ). sum_below n (λ x. sum_below k (λ j. population g x j))) state.directions in
    made ∙ by_direction ∙ arrived ∙ by_cell ∙ same ∙ sym old

pub total-first : TotalAtFirst
total-first case amount cell allowed here =
    let t = case.torus in let v = set_in t in let n = cells t in let q = v.directions in let facts = set_facts t.dimension in
    let first : sum_below q (first_amount v (pos amount)) ≡ pos amount = density-with_rest v (pos amount) (λ k. floor_div (weight v k *ℤ pos amount) v.denominator) facts.some in
    sum-state_by t (λ x k. if x == cell then first_amount v (pos amount) k else pos 0)
    ∙ sum_below-same n (λ x. sum_below q (λ k. if x == cell then first_amount v (pos amount) k else pos 0)) (λ x. if eqb x cell then pos amount else pos 0) (λ x _. elim (cases_Bool (eqb x cell)) [
      | inl on ↦ rw on first
      | inr off ↦ rw off (sum_below-zero q)
    ])
    ∙ sum_below-one n cell (λ _. pos amount) here

-- the next state has the sizes of a state
sized : (case : FlowCase) (r : RelaxationRates) (s g : FlowState) → IsStateOf (places_of case.torus) (tracer_next case r s g)
sized case r s g = record {
  directions = refl;
  numbers = length-state_of (set_in case.torus).directions (cells case.torus) (λ x k. tracer_post case r s (tracer_source case.torus x k) (population g (tracer_source case.torus x k)) k);
}

goes_on : (time : ℕ) (flow tracer : Option ℕ) (rest : TracerRun) (end last : FlowState) → unless_out time flow tracer rest ≡ reached end last → rest ≡ reached end last
goes_on time (Some x) tracer rest end last e = absurd cc
goes_on time None (Some x) rest end last e = absurd cc
goes_on time None None rest end last e = e

pub total-run : TotalOfRun
total-run case r s g end last time zero allowed state e =
    let same : g ≡ last = (let h : reached s g ≡ reached end last = goes_on time (out_of_limits case s) (tracer_out_of_limits case g) (reached s g) end last e in cc) in
    ap mass (sym same)
total-run case r s g end last time (suc steps) allowed state e =
    let h = goes_on time (out_of_limits case s) (tracer_out_of_limits case g) (tracer_run case r (next case s) (tracer_next case r s g) (time + 1) steps) end last e in
    total-run case r (next case s) (tracer_next case r s g) end last (time + 1) steps allowed (sized case r s g) h ∙ total-next case r s g allowed state
