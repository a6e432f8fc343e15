-- What a cell makes of its amounts.
use Rattle.std.proofs.Common.{◌≡◌, ℕ, ◌<◌, ◌≤◌, List, ℤ, Bool, true, false, unsigned_abs, refl, sym, ◌∙◌}
use Rattle.std.specs.Prelude.{IsTrue, Ok, Err}
use Rattle.lbm_space.specs.Stencil.{opposite, IsVelocitySet}
use Rattle.lbm_cell.specs.Moments.{populations, in_limits}
use Rattle.lbm_cell.specs.Collision.{RelaxationRates, reflection}
use Rattle.lbm_cell.specs.declared.populations.Moment.{Moment}
use Rattle.lbm_model.specs.State.{FlowState, population}
use Rattle.lbm_model.specs.Case.{FlowCase, is_solid}
use Rattle.lbm_tracer.specs.Limits.{amount_bound}
use Rattle.lbm_tracer.specs.Collision.{IsFlowMoment, IsMomentOf, momentum_of, tracer_collision, in_tracer_limits}
use Rattle.lbm_tracer.specs.Tracing.{set_in}
use Rattle.lbm_tracer.specs.Sending.{Makes}
use Rattle.lbm_tracer.specs.declared.step.Unsent.TheVariants as ends
use Rattle.lbm_tracer.proofs.Sets.{set_facts}
use Rattle.lbm_tracer.proofs.Agreement.{post-solid, post-fluid, flow_moment}

module _ (case : FlowCase) (r : RelaxationRates) (flow : Moment) (x : ℕ) (a : ℕ → ℤ) where
  pub makes-turned : (p : List ℤ) → is_solid case x ≡ true → ((k : ℕ) → k < (set_in case.torus).directions → unsigned_abs (a k) ≤ amount_bound)
      → ((k : ℕ) → k < (set_in case.torus).directions → populations p k ≡ reflection (set_in case.torus) a k) → Makes case r flow x a (Ok p)
  makes-turned p solid few turned = (
    rw solid refl,
    λ s k is known. turned k known ∙ sym (post-solid case r s x a k solid),
    λ k known. rw (turned k known) (few (opposite (set_in case.torus) k) ((set_facts case.torus.dimension).opposite_exists k known)),
  )

  pub makes-collided : (p : List ℤ) → is_solid case x ≡ false → IsTrue (in_tracer_limits (set_in case.torus) a)
      → ((k : ℕ) → k < (set_in case.torus).directions → populations p k ≡ tracer_collision (set_in case.torus) r flow.rho (momentum_of flow) a k)
      → ((k : ℕ) → k < (set_in case.torus).directions → unsigned_abs (populations p k) ≤ amount_bound) → Makes case r flow x a (Ok p)
  makes-collided p fluid limits collided small = (
    rw fluid limits,
    λ s k is known. collided k known ∙ sym (post-fluid case r s x a k flow fluid is),
    small,
  )

  pub tracer-out : is_solid case x ≡ false → in_tracer_limits (set_in case.torus) a ≡ false → Makes case r flow x a (Err (ends.TracerOut x))
  tracer-out fluid out = ((λ i. x), rw fluid out)

  -- a cell whose flow is in limits has such a moment
  not_in_limits : (s : FlowState) → IsVelocitySet case.stencil → (IsFlowMoment flow → ⊥) → IsMomentOf case.stencil (population s x) flow → (limits : Bool) → in_limits case.stencil (population s x) ≡ limits → limits ≡ false
  not_in_limits s laws out is true passes = absurd (out (flow_moment case.stencil (population s x) flow laws passes is))
  not_in_limits s laws out is false fails = refl

  pub flow-out : is_solid case x ≡ false → IsVelocitySet case.stencil → (IsFlowMoment flow → ⊥) → Makes case r flow x a (Err ends.FlowOut)
  flow-out fluid laws out s is = rw fluid (not_in_limits s laws out is (in_limits case.stencil (population s x)) refl)
