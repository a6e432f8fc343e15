-- The step of a pattern.
use Rattle.std.proofs.Common.{◌≡◌, ℕ, ◌<◌, ℤ, Bool, List, refl, sym, ap, ◌∙◌, arith}
use Rattle.std.specs.Prelude.{Option, Some, None}
use Rattle.lbm_space.specs.Torus.{cells}
use Rattle.lbm_model.specs.State.{FlowState, population}
use Rattle.lbm_model.specs.declared.layout.Layout.{Layout}
use Rattle.lbm_model.specs.Case.{FlowCase, IsCase, source}
use Rattle.lbm_model.specs.Flow.{is_sound, post}
use Rattle.lbm_cell.specs.Least.{least_failing}
use Rattle.lbm_model.specs.Layout.{population_in}
use Rattle.lbm_cell.proofs.Least.{least_failing-all, least_failing-at}
use Rattle.lbm_cell.proofs.Agreement.{Agree}
use Rattle.lbm_model.proofs.Local.{is_sound-agree, post-agree}
use Rattle.lbm_model.proofs.Neighbours.{source_known, target-source}
use Rattle.lbm_model.proofs.States.{state_by-same}
use Rattle.lbm_walk.specs.First.{IsFirst}
use Rattle.lbm_sweep.specs.Sweep.{IsCollided}
use Rattle.lbm_sweep.specs.Steps.{IsTaken, IsWritten, IsSent, IsStep, SweepIsStep}

-- the first of all numbers that fails a test is the least that fails another one that agrees
pub first-least : (n : ℕ) (test other : ℕ → Bool) (answer : Option ℕ) → ((k : ℕ) → k < n → test k ≡ other k) → IsFirst test 0 n answer → answer ≡ least_failing n other
first-least n test other None same first = sym (least_failing-all n other (λ k below. sym (same k below) ∙ first.passed k (omega arith) below))
first-least n test other (Some k) same first =
    let found = first.failed k refl in
    let known : k < n = found.1 in
    sym (least_failing-at n other k (record { known = known; failed = sym (same k known) ∙ found.2; passed = λ j below. sym (same j (omega arith)) ∙ first.passed j (omega arith) below }))

-- a sweep that takes a state and sends on what its cells make of it is a step
pub swept_is_step : SweepIsStep
swept_is_step case s before sent after answer allowed taken first made read =
    let alike : (x : ℕ) → x < cells case.torus → Agree case.stencil (before x) (population s x) = λ x here. record { same = λ i known. taken x i here known } in
    record {
      first = first-least (cells case.torus) (λ x. is_sound case x (before x)) (λ x. is_sound case x (population s x)) answer (λ x here. is_sound-agree case x (before x) (population s x) (alike x here)) first;
      next = λ none. state_by-same case after (λ x i. post case (source case x i) (population s (source case x i)) i) (λ x i here known.
          let y = source case x i in
          let there : y < cells case.torus = source_known case x i allowed here known in
          ap (λ (z : ℕ). after z i) (sym (target-source case x i allowed here known))
          ∙ read none y i there known
          ∙ made none y i there known
          ∙ post-agree case y i (before y) (population s y) allowed.set (alike y there) known);
    }

-- the same in the slots of a region
pub written_is_step : (case : FlowCase) (s : FlowState) (layout : Layout) (before : ℕ → ℕ → ℤ) (writes : ℕ → ℕ → ℕ) (new : ℕ → ℤ) (last : List ℤ) (answer : Option ℕ)
    → IsCase case
    → IsTaken case s before
    → IsFirst (λ x. is_sound case x (before x)) 0 (cells case.torus) answer
    → (answer ≡ None → IsWritten case before writes new)
    → (answer ≡ None → IsSent case layout writes new last)
    → IsStep case s layout last answer
written_is_step case s layout before writes new last answer = swept_is_step case s before (λ x i. new (writes x i)) (population_in case layout last) answer

-- the same of the cells of a collision, whatever slots they touch
pub sweep_is_step : (case : FlowCase) (s : FlowState) (layout : Layout) (before : ℕ → ℕ → ℤ) (writes : ℕ → ℕ → ℕ) (touches : ℕ → ℕ → Type 0) (old new : ℕ → ℤ) (last : List ℤ) (answer : Option ℕ)
    → IsCase case
    → IsTaken case s before
    → IsCollided (is_sound case) (post case) case.stencil.directions before writes touches 0 (cells case.torus) old new answer
    → (answer ≡ None → IsSent case layout writes new last)
    → IsStep case s layout last answer
sweep_is_step case s layout before writes touches old new last answer allowed taken collided sent =
    written_is_step case s layout before writes new last answer allowed taken collided.first (λ none x i here known. (collided.swept none).written x i (omega arith) here known) sent
