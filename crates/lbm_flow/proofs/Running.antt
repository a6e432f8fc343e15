-- Runs of a pattern, step by step.
use Rattle.std.proofs.Common.{◌≡◌, ◌∙◌, ℕ, zero, suc, ◌+◌, ◌-◌, ◌<◌, ◌≤◌, Bool, Option, Some, None, Ok, Err, IsNone, below_more, refl, sym, ap, subst, arith}
use Rattle.lbm_model.specs.Case.{FlowCase}
use Rattle.lbm_model.specs.State.{FlowState}
use Rattle.lbm_model.specs.Flow.{next, out_of_limits, run, reached, range}
use Rattle.lbm_model.specs.Standing.{Standing, stopped_at, stepped, StepGives}
use Rattle.lbm_model.specs.declared.pattern.StepEnd.{StepEnd}
use Rattle.lbm_model.specs.declared.pattern.StepEnd.TheVariants as step_ends
use Rattle.lbm_flow.specs.declared.run.RunEnd.TheVariants.{Range}
use Rattle.lbm_flow.specs.Running.{Went, RunGives, after, ended}
use Rattle.lbm_answer.proofs.Runs.{run-range, run-step, run-end}

-- after n steps from states in limits a run goes on from the state that they make
pub run-after : (case : FlowCase) (s : FlowState) (time n more : ℕ) → ((k : ℕ) → k < n → out_of_limits case (after case s k) ≡ None)
    → run case s time (n + more) ≡ run case (after case s n) (time + n) more
run-after case s time zero more sound =
    let none : 0 + more ≡ more = omega arith in
    let at : time ≡ time + 0 = omega arith in
    ap (run case s time) none ∙ ap (λ t. run case s t more) at
run-after case s time (suc n) more sound =
    let count : suc n + more ≡ n + suc more = omega arith in
    let at : time + n + 1 ≡ time + suc n = omega arith in
    ap (run case s time) count ∙ run-after case s time n (suc more) (λ k below. sound k (omega arith))
    ∙ run-step case (after case s n) (time + n) more (sound n (omega arith)) ∙ ap (λ t. run case (after case s (suc n)) t more) at

none_of : {A : Type 0} (o : Option A) → IsNone o → o ≡ None
none_of None none = refl
none_of (Some x) none = absurd cc

pub Went-none : (old : Standing) → IsNone old.spent → Went old 0 old
Went-none old unspent = record {
  case = refl;
  time = omega arith;
  unspent = none_of old.spent unspent;
  state = refl;
  sound = λ k below. absurd (omega arith);
}

-- where the next step ends, by the state after the steps so far
pub Went-stops : (old now : Standing) (n : ℕ) (end : Option ℕ) → Went old n now → stopped_at now ≡ end → out_of_limits old.case (after old.case old.state n) ≡ end
Went-stops old now n end went stops = ap (λ c. out_of_limits c (after old.case old.state n)) (sym went.case) ∙ ap (out_of_limits now.case) (sym went.state) ∙ (rw went.unspent at stops)

pub Went-more : (old now new : Standing) (n : ℕ) → Went old n now → stopped_at now ≡ None → new ≡ stepped now → Went old (n + 1) new
Went-more old now new n went sound is =
    let same : stepped now ≡ new = sym is in
    let one : suc n ≡ n + 1 = omega arith in
    let stepped_now : Went old (n + 1) (stepped now) = record {
      case = went.case;
      time = ap (λ t. t + 1) went.time ∙ omega arith;
      unspent = went.unspent;
      state = ap (λ c. next c now.state) went.case ∙ ap (next old.case) went.state ∙ ap (after old.case old.state) one;
      sound = below_more _ _ went.sound (Went-stops old now n None went sound);
    } in
    subst (Went old (n + 1)) same stepped_now

-- how a run ends where the pattern has gone so far
pub Went-range : (old now : Standing) (n more cell : ℕ) → Went old n now → stopped_at now ≡ Some cell → run old.case old.state old.time (n + more) ≡ range (old.time + n) cell
Went-range old now n more cell went stops =
    run-after old.case old.state old.time n more went.sound
    ∙ run-range old.case (after old.case old.state n) (old.time + n) more cell (Went-stops old now n (Some cell) went stops)

pub Went-end : (old now : Standing) (n : ℕ) → Went old n now → stopped_at now ≡ None → run old.case old.state old.time n ≡ reached now.state
Went-end old now n went sound =
    ap (run old.case old.state old.time) (omega arith) ∙ run-after old.case old.state old.time n 0 went.sound
    ∙ run-end old.case (after old.case old.state n) (old.time + n) (Went-stops old now n None went sound) ∙ ap (λ s. reached s) (sym went.state)

-- the pattern is not spent, so a step ends at a cell of its state
pub stopped-unspent : (now : Standing) (end : Option ℕ) → now.spent ≡ None → out_of_limits now.case now.state ≡ end → stopped_at now ≡ end
stopped-unspent now end unspent is = rw unspent is

-- a step that was not made ends the run
pub Went-ends : (wants : Bool) (old now new : Standing) (steps step : ℕ) (end : StepEnd) → old.time ≤ step → step < steps
    → Went old (step - old.time) now → StepGives wants now new (Err end) → RunGives wants old new steps (Err (ended step end))
Went-ends wants old now new steps step (step_ends.Range cell) ahead below went gives = (
  ap (run old.case old.state old.time) (omega arith) ∙ Went-range old now (step - old.time) (steps - step) cell went gives.0 ∙ ap (λ t. range t cell) (omega arith),
  λ early. record { case = gives.1.case ∙ went.case; time = gives.1.time ∙ went.time ∙ omega arith; spent = gives.1.spent },
  λ last. absurd (omega arith),
)
Went-ends wants old now new steps step step_ends.Memory ahead below went gives = (gives.0, step - old.time, subst (Went old (step - old.time)) (sym gives.1) went)

-- the last state is out of limits, or in limits
pub Went-last : (wants : Bool) (old now : Standing) (steps cell : ℕ) → old.time ≤ steps → Went old (steps - old.time) now
    → out_of_limits now.case now.state ≡ Some cell → RunGives wants old now steps (Err (Range steps cell))
Went-last wants old now steps cell ahead went unsound = (
  ap (run old.case old.state old.time) (omega arith) ∙ Went-range old now (steps - old.time) 0 cell went (stopped-unspent now (Some cell) went.unspent unsound)
      ∙ ap (λ t. range t cell) (omega arith),
  λ early. absurd (omega arith),
  λ last. went,
)

pub Went-whole : (wants : Bool) (old now : Standing) (steps : ℕ) → Went old (steps - old.time) now
    → out_of_limits now.case now.state ≡ None → RunGives wants old now steps (Ok tt)
Went-whole wants old now steps went sound = (Went-end old now (steps - old.time) went (stopped-unspent now None went.unspent sound), went)
