-- Runs of a flow with its tracer, step by step.
use Rattle.std.proofs.Common.{◌≡◌, ◌∙◌, ℕ, zero, suc, ◌+◌, ◌-◌, ◌<◌, ◌≤◌, Bool, true, Option, Some, None, Result, Ok, Err, below_more, refl, sym, ap, subst, arith}
use Rattle.lbm_cell.specs.Collision.{RelaxationRates}
use Rattle.lbm_model.specs.Case.{FlowCase}
use Rattle.lbm_model.specs.State.{FlowState}
use Rattle.lbm_model.specs.Flow.{next, out_of_limits}
use Rattle.lbm_model.specs.Standing.{Standing, stopped_at, stepped, StepGives}
use Rattle.lbm_model.specs.declared.pattern.StepEnd.{StepEnd}
use Rattle.lbm_model.specs.declared.pattern.StepEnd.TheVariants as step_ends
use Rattle.lbm_tracer.specs.Tracing.{TracerRun, tracer_next, tracer_out_of_limits, tracer_run, reached, range, tracer_range}
use Rattle.lbm_tracer.specs.Carried.{Carried}
use Rattle.lbm_tracer.specs.Running.{flow_after, tracer_after, FlowWent, TracerWent, TracerGives, Follows, IsLastTest, ended_by, tracer_run_from}
use Rattle.lbm_tracer.specs.declared.run.TraceEnd.{TraceEnd}
use Rattle.lbm_tracer.specs.declared.run.TraceEnd.TheVariants.{Range, TracerRange, Memory}

module _ (case : FlowCase) (r : RelaxationRates) where
  -- where both are in limits a run goes on, and else it ends
  run-range : (s g : FlowState) (time n x : ℕ) → out_of_limits case s ≡ Some x → tracer_run case r s g time n ≡ range time x
  run-range s g time zero x out = rw out refl
  run-range s g time (suc n) x out = rw out refl

  run-tracer_range : (s g : FlowState) (time n x : ℕ) → out_of_limits case s ≡ None → tracer_out_of_limits case g ≡ Some x → tracer_run case r s g time n ≡ tracer_range time x
  run-tracer_range s g time zero x sound out = rw (sound, out) refl
  run-tracer_range s g time (suc n) x sound out = rw (sound, out) refl

  run-end : (s g : FlowState) (time : ℕ) → out_of_limits case s ≡ None → tracer_out_of_limits case g ≡ None → tracer_run case r s g time 0 ≡ reached s g
  run-end s g time sound few = rw (sound, few) refl

  run-step : (s g : FlowState) (time n : ℕ) → out_of_limits case s ≡ None → tracer_out_of_limits case g ≡ None
      → tracer_run case r s g time (suc n) ≡ tracer_run case r (next case s) (tracer_next case r s g) (time + 1) n
  run-step s g time n sound few = rw (sound, few) refl

  -- after n steps from states in limits it goes on from the states that they make
  run-after : (s g : FlowState) (time n more : ℕ) → ((k : ℕ) → k < n → out_of_limits case (flow_after case s k) ≡ None) → ((k : ℕ) → k < n → tracer_out_of_limits case (tracer_after case r s g k) ≡ None)
      → tracer_run case r s g time (n + more) ≡ tracer_run case r (flow_after case s n) (tracer_after case r s g n) (time + n) more
  run-after s g time zero more sound few =
      let none : 0 + more ≡ more = omega arith in let at : time ≡ time + 0 = omega arith in
      ap (tracer_run case r s g time) none ∙ ap (λ t. tracer_run case r s g t more) at
  run-after s g time (suc n) more sound few =
      let count : suc n + more ≡ n + suc more = omega arith in let at : time + n + 1 ≡ time + suc n = omega arith in
      ap (tracer_run case r s g time) count ∙ run-after s g time n (suc more) (λ k below. sound k (omega arith)) (λ k below. few k (omega arith))
      ∙ run-step (flow_after case s n) (tracer_after case r s g n) (time + n) more (sound n (omega arith)) (few n (omega arith))
      ∙ ap (λ t. tracer_run case r (flow_after case s (suc n)) (tracer_after case r s g (suc n)) t more) at

-- both have made n steps
pub record BothWent (flow : Standing) (old : Carried) (n : ℕ) (flow_new : Standing) (new : Carried) : Type 0 where
  pub flow_went : FlowWent flow n flow_new
  pub tracer_went : TracerWent flow old n new

module _ (flow : Standing) (old : Carried) (n : ℕ) (flow_now : Standing) (now : Carried) (went : BothWent flow old n flow_now now) where
  -- what is out of limits now is so after n steps
  pub flow_out : (end : Option ℕ) → out_of_limits flow_now.case flow_now.state ≡ end → out_of_limits flow.case (flow_after flow.case flow.state n) ≡ end
  flow_out end is = ap (λ c. out_of_limits c (flow_after flow.case flow.state n)) (sym went.flow_went.case) ∙ ap (out_of_limits flow_now.case) (sym went.flow_went.state) ∙ is

  pub tracer_out : (end : Option ℕ) → tracer_out_of_limits flow_now.case now.state ≡ end → tracer_out_of_limits flow.case (tracer_after flow.case old.rates flow.state old.state n) ≡ end
  tracer_out end is = ap (λ c. tracer_out_of_limits c (tracer_after flow.case old.rates flow.state old.state n)) (sym went.flow_went.case) ∙ ap (tracer_out_of_limits flow_now.case) (sym went.tracer_went.state) ∙ is

  -- one step more of both
  pub went-more : (flow_new : Standing) (new : Carried) → out_of_limits flow_now.case flow_now.state ≡ None → tracer_out_of_limits flow_now.case now.state ≡ None
      → flow_new ≡ stepped flow_now → new ≡ record now { time = now.time + 1; state = tracer_next flow_now.case now.rates flow_now.state now.state } → BothWent flow old (n + 1) flow_new new
  went-more flow_new new sound few flow_is is =
      let f = went.flow_went in let t = went.tracer_went in
      let one : suc n ≡ n + 1 = omega arith in
      subst (λ b. BothWent flow old (n + 1) b new) (sym flow_is) (subst (λ b. BothWent flow old (n + 1) (stepped flow_now) b) (sym is) (record {
        flow_went = record {
          case = f.case;
          time = ap (λ k. k + 1) f.time ∙ omega arith;
          unspent = f.unspent;
          state = ap (λ c. next c flow_now.state) f.case ∙ ap (next flow.case) f.state ∙ ap (flow_after flow.case flow.state) one;
          sound = below_more _ _ f.sound (flow_out None sound);
        };
        tracer_went = record {
          torus = t.torus;
          rates = t.rates;
          time = ap (λ k. k + 1) t.time ∙ omega arith;
          unspent = t.unspent;
          state = ap (λ c. tracer_next c now.rates flow_now.state now.state) f.case ∙ ap (λ r. tracer_next flow.case r flow_now.state now.state) t.rates
              ∙ ap (λ s. tracer_next flow.case old.rates s now.state) f.state ∙ ap (tracer_next flow.case old.rates (flow_after flow.case flow.state n)) t.state
              ∙ ap (tracer_after flow.case old.rates flow.state old.state) one;
          sound = below_more _ _ t.sound (tracer_out None few);
        };
      }))

  -- how the run ends where both have gone so far
  pub went-range : (more x : ℕ) → out_of_limits flow_now.case flow_now.state ≡ Some x → tracer_run flow.case old.rates flow.state old.state flow.time (n + more) ≡ range (flow.time + n) x
  went-range more x out =
      run-after flow.case old.rates flow.state old.state flow.time n more went.flow_went.sound went.tracer_went.sound
      ∙ run-range flow.case old.rates (flow_after flow.case flow.state n) (tracer_after flow.case old.rates flow.state old.state n) (flow.time + n) more x (flow_out (Some x) out)

  pub went-tracer_range : (more x : ℕ) → out_of_limits flow_now.case flow_now.state ≡ None → tracer_out_of_limits flow_now.case now.state ≡ Some x
      → tracer_run flow.case old.rates flow.state old.state flow.time (n + more) ≡ tracer_range (flow.time + n) x
  went-tracer_range more x sound out =
      run-after flow.case old.rates flow.state old.state flow.time n more went.flow_went.sound went.tracer_went.sound
      ∙ run-tracer_range flow.case old.rates (flow_after flow.case flow.state n) (tracer_after flow.case old.rates flow.state old.state n) (flow.time + n) more x (flow_out None sound) (tracer_out (Some x) out)

  pub went-end : out_of_limits flow_now.case flow_now.state ≡ None → tracer_out_of_limits flow_now.case now.state ≡ None → tracer_run flow.case old.rates flow.state old.state flow.time n ≡ reached flow_now.state now.state
  went-end sound few =
      ap (tracer_run flow.case old.rates flow.state old.state flow.time) (omega arith)
      ∙ run-after flow.case old.rates flow.state old.state flow.time n 0 went.flow_went.sound went.tracer_went.sound
      ∙ run-end flow.case old.rates (flow_after flow.case flow.state n) (tracer_after flow.case old.rates flow.state old.state n) (flow.time + n) (flow_out None sound) (tracer_out None few)
      ∙ ap (λ s. reached s (tracer_after flow.case old.rates flow.state old.state n)) (sym went.flow_went.state) ∙ ap (reached flow_now.state) (sym went.tracer_went.state)

-- where a step is asked of a pattern that is not spent, its own cell out of limits ends it
stopped-unspent : (now : Standing) (end : Option ℕ) → now.spent ≡ None → stopped_at now ≡ end → out_of_limits now.case now.state ≡ end
stopped-unspent now end unspent stops = rw unspent at stops

-- The run up to `steps` from a flow and its tracer, which both have gone to `step`.
module _ (wants : Bool) (flow : Standing) (old : Carried) (steps step : ℕ) (flow_now : Standing) (now : Carried)
    (ahead : flow.time ≤ step) (within : step ≤ steps) (went : BothWent flow old (step - flow.time) flow_now now) where
  -- its end, where it ends here
  run-here : (end : ℕ → TracerRun) → tracer_run flow.case old.rates flow.state old.state flow.time (step - flow.time + (steps - step)) ≡ end (flow.time + (step - flow.time)) → tracer_run_from flow old steps ≡ end step
  run-here end is = ap (tracer_run flow.case old.rates flow.state old.state flow.time) (omega arith) ∙ is ∙ ap end (omega arith)

  range-here : (x : ℕ) → out_of_limits flow_now.case flow_now.state ≡ Some x → tracer_run_from flow old steps ≡ range step x
  range-here x out = run-here (λ t. range t x) (went-range flow old (step - flow.time) flow_now now went (steps - step) x out)

  tracer_range-here : (x : ℕ) → out_of_limits flow_now.case flow_now.state ≡ None → tracer_out_of_limits flow_now.case now.state ≡ Some x → tracer_run_from flow old steps ≡ tracer_range step x
  tracer_range-here x sound out = run-here (λ t. tracer_range t x) (went-tracer_range flow old (step - flow.time) flow_now now went (steps - step) x sound out)

  -- the flow is in limits where the tracer's part of a step has an answer
  flow_sound : (end : Option ℕ) (answer : Option ℕ) (x : ℕ) → ((y : ℕ) → end ≡ Some y → answer ≡ None) → answer ≡ Some x → end ≡ None
  flow_sound None answer x none is = refl
  flow_sound (Some y) answer x none is = (let h : None ≡ Some x = sym (none y refl) ∙ is in absurd cc)

  -- the tracer is out of limits
  pub ends-tracer : (followed new : Carried) (x : ℕ) → Follows flow_now now followed (Some x) → new.spent ≡ true → TracerGives wants flow flow_now old new steps (Err (TracerRange step x))
  ends-tracer followed new x follows spent =
      let sound = flow_sound (out_of_limits flow_now.case flow_now.state) (Some x) x follows.flow_out refl in
      (tracer_range-here x sound (sym (follows.out sound)), spent, went.flow_went)

  -- the flow makes no step
  pub ends-flow : (flow_new : Standing) (new : Carried) (end : StepEnd) → step < steps → StepGives wants flow_now flow_new (Err end) → new.spent ≡ true → TracerGives wants flow flow_new old new steps (Err (ended_by step end))
  ends-flow flow_new new (step_ends.Range x) below gives spent =
      let out = stopped-unspent flow_now (Some x) went.flow_went.unspent gives.0 in (
        range-here x out,
        spent,
        λ early. record { case = gives.1.case ∙ went.flow_went.case; time = gives.1.time ∙ went.flow_went.time ∙ omega arith; spent = gives.1.spent },
        λ last. absurd (omega arith),
      )
  ends-flow flow_new new step_ends.Memory below gives spent = (gives.0, spent, step - flow.time, subst (FlowWent flow (step - flow.time)) (sym gives.1) went.flow_went)

  -- both make a step
  pub goes-on : (flow_new : Standing) (new : Carried) → Follows flow_now now new None → StepGives wants flow_now flow_new (Ok tt) → BothWent flow old (step + 1 - flow.time) flow_new new
  goes-on flow_new new follows gives =
      let sound = stopped-unspent flow_now None went.flow_went.unspent gives.0 in
      subst (λ n. BothWent flow old n flow_new new) (omega arith)
      (went-more flow old (step - flow.time) flow_now now went flow_new new sound (sym (follows.out sound)) gives.1 (follows.next sound refl))

-- the last states are tested
module _ (wants : Bool) (flow : Standing) (old : Carried) (steps : ℕ) (flow_now : Standing) (now : Carried)
    (ahead : flow.time ≤ steps) (went : BothWent flow old (steps - flow.time) flow_now now) where
  pub ends-last : (new : Carried) (answer : Result (Unit {0}) TraceEnd) → IsLastTest flow_now now new steps answer → TracerGives wants flow flow_now old new steps answer
  ends-last new (Ok done) test =
      let same : new ≡ now = test.2 in (
        went-end flow old (steps - flow.time) flow_now now went test.0 test.1 ∙ ap (λ (c : Carried). reached flow_now.state c.state) (sym same),
        went.flow_went,
        subst (TracerWent flow old (steps - flow.time)) (sym same) went.tracer_went,
      )
  ends-last new (Err (Range at cell)) test =
      let whole = range-here wants flow old steps steps flow_now now ahead (omega arith) went cell test.1 in
      subst (λ t. TracerGives wants flow flow_now old new steps (Err (Range t cell))) (sym test.0) (whole, test.2, λ early. absurd (omega arith), λ last. went.flow_went)
  ends-last new (Err (TracerRange at cell)) test =
      let whole = tracer_range-here wants flow old steps steps flow_now now ahead (omega arith) went cell test.1 test.2 in
      subst (λ t. TracerGives wants flow flow_now old new steps (Err (TracerRange t cell))) (sym test.0) (whole, test.3, went.flow_went)
  ends-last new (Err Memory) test = absurd test
