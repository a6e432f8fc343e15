-- The step of a pattern: what the sweep of its slots makes of a state.
--     before, sent, after    population i of a cell as it is taken, as it is sent, and as it is read after the sweep: cell, then direction
use Rattle.std.specs.Prelude.{◌≡◌, ℕ, ◌<◌, List, ℤ, Option, None}
use Rattle.lbm_space.specs.Torus.{cells}
use Rattle.lbm_model.specs.declared.layout.Layout.{Layout}
use Rattle.lbm_model.specs.State.{FlowState, population}
use Rattle.lbm_model.specs.Case.{FlowCase, IsCase, target}
use Rattle.lbm_model.specs.Flow.{state_by, is_sound, post, next, out_of_limits}
use Rattle.lbm_model.specs.Layout.{population_in}
use Rattle.lbm_walk.specs.First.{IsFirst}

-- what cells take is the state
abbrev pub IsTaken : FlowCase → FlowState → (before : ℕ → ℕ → ℤ) → Type 0
IsTaken case s before = (x i : ℕ) → x < cells case.torus → i < case.stencil.directions → before x i ≡ population s x i

-- each cell sends what it makes of them
abbrev pub AreMade : FlowCase → (before sent : ℕ → ℕ → ℤ) → Type 0
AreMade case before sent = (x i : ℕ) → x < cells case.torus → i < case.stencil.directions → sent x i ≡ post case x (before x) i

-- what they send is what is read of the cells to which it goes
abbrev pub AreRead : FlowCase → (sent after : ℕ → ℕ → ℤ) → Type 0
AreRead case sent after = (x i : ℕ) → x < cells case.torus → i < case.stencil.directions → after (target case x i) i ≡ sent x i

-- the least cell out of limits is answered; where there is none, what is read of the cells is the next state
pub record IsStepTo (case : FlowCase) (s : FlowState) (after : ℕ → ℕ → ℤ) (answer : Option ℕ) : Type 0 where
  pub first : answer ≡ out_of_limits case s
  pub next : answer ≡ None → state_by case after ≡ next case s

-- so a sweep that takes a state, and sends on what its cells make of it, is a step, wherever its cells keep what they send
abbrev pub SweepIsStep : Type 0
SweepIsStep = (case : FlowCase) (s : FlowState) (before sent after : ℕ → ℕ → ℤ) (answer : Option ℕ)
    → IsCase case
    → IsTaken case s before
    → IsFirst (λ x. is_sound case x (before x)) 0 (cells case.torus) answer
    → (answer ≡ None → AreMade case before sent)
    → (answer ≡ None → AreRead case sent after)
    → IsStepTo case s after answer

-- ---- the slots of a region, which are read by a layout

-- each cell has written what it makes of what it has taken
abbrev pub IsWritten : FlowCase → (before : ℕ → ℕ → ℤ) → (writes : ℕ → ℕ → ℕ) → (new : ℕ → ℤ) → Type 0
IsWritten case before writes new = AreMade case before (λ x i. new (writes x i))

-- that stands in the slots of the cells to which it goes
abbrev pub IsSent : FlowCase → Layout → (writes : ℕ → ℕ → ℕ) → (new : ℕ → ℤ) → (last : List ℤ) → Type 0
IsSent case layout writes new last = AreRead case (λ x i. new (writes x i)) (population_in case layout last)

abbrev pub IsStep : FlowCase → FlowState → Layout → List ℤ → Option ℕ → Type 0
IsStep case s layout last answer = IsStepTo case s (population_in case layout last) answer
