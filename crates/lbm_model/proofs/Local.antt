-- What a cell of a case does depends on its own populations alone.
use Rattle.std.proofs.Common.{◌≡◌, ℕ, ◌<◌, ℤ, ◌+ℤ◌, Bool, ap, sym, ◌∙◌, inl, inr}
use Rattle.std.specs.Prelude.{◌||◌}
use Rattle.std.proofs.lemmas.Bool.{cases_Bool}
use Rattle.lbm_space.specs.Stencil.{opposite, IsVelocitySet}
use Rattle.lbm_cell.proofs.Agreement.{Agree, in_limits-agree, collision-agree}
use Rattle.lbm_model.specs.Case.{FlowCase, is_solid, gain}
use Rattle.lbm_model.specs.Flow.{is_sound, post}
use Rattle.lbm_model.proofs.SmallStates.{post-solid, post-fluid}

-- whether a cell is sound, and what it sends
pub is_sound-agree : (case : FlowCase) (x : ℕ) (f g : ℕ → ℤ) → Agree case.stencil f g → is_sound case x f ≡ is_sound case x g
is_sound-agree case x f g agree = ap (λ (b : Bool). is_solid case x || b) (in_limits-agree case.stencil f g agree)

pub post-agree : (case : FlowCase) (x i : ℕ) (f g : ℕ → ℤ) → IsVelocitySet case.stencil → Agree case.stencil f g → i < case.stencil.directions → post case x f i ≡ post case x g i
post-agree case x i f g laws agree known = elim (cases_Bool (is_solid case x)) [
  | inl solid ↦ post-solid case x f i solid ∙ ap (λ (z : ℤ). z +ℤ gain case x i) (agree.same (opposite case.stencil i) (laws.opposite_exists i known)) ∙ sym (post-solid case x g i solid)
  | inr fluid ↦ post-fluid case x f i fluid ∙ collision-agree case.stencil case.rates case.force f g i laws agree known ∙ sym (post-fluid case x g i fluid)
]
