-- What a cell sends, and whether it is in limits, depends on its own amounts alone.
use Rattle.std.proofs.Common.{◌≡◌, ℕ, zero, suc, ◌<◌, ◌≤◌, ℤ, pos, ◌+ℤ◌, Bool, true, false, List, [], ◌∷◌, refl, sym, ap, ◌∙◌, arith, lit<}
use Rattle.std.specs.Prelude.{IsTrue, ◌&&◌, ◌||◌, int_le, if◌then◌else◌}
use Rattle.lbm_space.specs.Sum.{all_below}
use Rattle.lbm_space.specs.Stencil.{Stencil, part, opposite, IsVelocitySet}
use Rattle.lbm_space.proofs.Sums.{sum_below-same}
use Rattle.lbm_cell.specs.Moments.{density, momentum, in_limits}
use Rattle.lbm_cell.specs.Collision.{RelaxationRates, reflection, with_rest}
use Rattle.lbm_cell.specs.declared.populations.Moment.{Moment}
use Rattle.lbm_cell.proofs.Agreement.{Agree, density-agree, momentum-agree}
use Rattle.lbm_cell.proofs.Conservation.{with_rest-same}
use Rattle.lbm_cell.proofs.Limits.{InLimits-from_test, momentum_at_most}
use Rattle.lbm_model.specs.State.{FlowState, population}
use Rattle.lbm_model.specs.Case.{FlowCase, is_solid}
use Rattle.lbm_tracer.specs.Collision.{relaxation_of, tracer_collision, in_tracer_limits, momentum_of, IsMomentOf, IsFlowMoment}
use Rattle.lbm_tracer.specs.Tracing.{set_in, tracer_post, is_tracer_sound}
use Rattle.lbm_tracer.proofs.Sets.{set_facts}

module _ (v : Stencil) (f g : ℕ → ℤ) (same : (k : ℕ) → k < v.directions → f k ≡ g k) where
  density-same : density v f ≡ density v g
  density-same = sum_below-same v.directions f g same

  pub collision-same : (r : RelaxationRates) (rho : ℤ) (j : List ℤ) (k : ℕ) → k < v.directions → tracer_collision v r rho j f k ≡ tracer_collision v r rho j g k
  collision-same r rho j k known =
      let moved : ℤ → (ℕ → ℤ) → ℕ → ℤ = λ total h i. h i +ℤ relaxation_of v r rho j total (h i) i in
      ap (λ total. with_rest v total (moved total f) k) density-same
      ∙ with_rest-same v (density v g) (moved (density v g) f) (moved (density v g) g) (λ i above below. ap (λ z. z +ℤ relaxation_of v r rho j (density v g) z i) (same i below)) k known

  all_below-same : (n : ℕ) → n ≤ v.directions → all_below n (λ k. int_le (pos 0) (f k)) ≡ all_below n (λ k. int_le (pos 0) (g k))
  all_below-same zero few = refl
  all_below-same (suc n) few = ap (λ (b : Bool). b && int_le (pos 0) (f n)) (all_below-same n (omega arith)) ∙ ap (λ (z : ℤ). all_below n (λ k. int_le (pos 0) (g k)) && int_le (pos 0) z) (same n (omega arith))

  pub limits-same : in_tracer_limits v f ≡ in_tracer_limits v g
  limits-same =
      ap (λ (b : Bool). b && int_le (density v f) (pos 16777216)) (all_below-same v.directions (omega arith))
      ∙ ap (λ (total : ℤ). all_below v.directions (λ k. int_le (pos 0) (g k)) && int_le total (pos 16777216)) density-same

module _ (case : FlowCase) (x : ℕ) (f g : ℕ → ℤ) (same : (k : ℕ) → k < (set_in case.torus).directions → f k ≡ g k) where
  pub post-same : (r : RelaxationRates) (s : FlowState) (k : ℕ) → k < (set_in case.torus).directions → tracer_post case r s x f k ≡ tracer_post case r s x g k
  post-same r s k known =
      let v = set_in case.torus in
      let rho = density case.stencil (population s x) in let j = momentum case.stencil (population s x) in
      elim (is_solid case x) as (λ solid. (if solid then reflection v f k else tracer_collision v r rho j f k) ≡ (if solid then reflection v g k else tracer_collision v r rho j g k)) [
        | true ↦ same (opposite v k) ((set_facts case.torus.dimension).opposite_exists k known)
        | false ↦ collision-same v f g same r rho j k known
      ]

  pub sound-same : is_tracer_sound case x f ≡ is_tracer_sound case x g
  sound-same = ap (λ b. is_solid case x || b) (limits-same (set_in case.torus) f g same)

-- the flow's density and momentum at a cell in limits
pub flow_moment : (v : Stencil) (f : ℕ → ℤ) (flow : Moment) → IsVelocitySet v → IsTrue (in_limits v f) → IsMomentOf v f flow → IsFlowMoment flow
flow_moment v f flow laws test is =
    let limits = InLimits-from_test v f test in record {
      not_thin = rw is.rho limits.not_thin;
      not_dense = rw is.rho limits.not_dense;
      x_small = rw is.x (momentum_at_most v f laws limits 0 (lit< tt));
      y_small = rw is.y (momentum_at_most v f laws limits 1 (lit< tt));
      z_small = rw is.z (momentum_at_most v f laws limits 2 (lit< tt));
    }

pub momentum_is : (v : Stencil) (f : ℕ → ℤ) (flow : Moment) → IsMomentOf v f flow → momentum_of flow ≡ momentum v f
momentum_is v f flow is = λ i. is.x i ∷ is.y i ∷ is.z i ∷ []

-- where a cell is not solid, the two tests of limits are those of its numbers
pub unless_solid : (solid limits : Bool) → IsTrue (solid || limits) → solid ≡ false → IsTrue limits
unless_solid true limits passed fluid = absurd cc
unless_solid false limits passed fluid = passed

-- what a cell sends, by whether it is solid
module _ (case : FlowCase) (r : RelaxationRates) (s : FlowState) (x : ℕ) (g : ℕ → ℤ) (k : ℕ) where
  pub post-solid : is_solid case x ≡ true → tracer_post case r s x g k ≡ reflection (set_in case.torus) g k
  post-solid solid = rw solid refl

  pub post-fluid : (flow : Moment) → is_solid case x ≡ false → IsMomentOf case.stencil (population s x) flow → tracer_post case r s x g k ≡ tracer_collision (set_in case.torus) r flow.rho (momentum_of flow) g k
  post-fluid flow fluid is =
      rw fluid (λ i. tracer_collision (set_in case.torus) r (sym is.rho i) (sym (momentum_is case.stencil (population s x) flow is) i) g k)

-- moments of equal populations
pub moment-same : (v : Stencil) (f g : ℕ → ℤ) (flow : Moment) → ((i : ℕ) → i < v.directions → f i ≡ g i) → IsMomentOf v f flow → IsMomentOf v g flow
moment-same v f g flow same is =
    let agree : Agree v f g = record { same = same } in
    let momenta = momentum-agree v f g agree in record {
      rho = is.rho ∙ density-agree v f g agree;
      x = is.x ∙ ap (λ (j : List ℤ). part j 0) momenta;
      y = is.y ∙ ap (λ (j : List ℤ). part j 1) momenta;
      z = is.z ∙ ap (λ (j : List ℤ). part j 2) momenta;
    }
