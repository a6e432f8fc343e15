-- How a flow runs with its tracer.
--     s, g    the state of the flow and that of the tracer
use Rattle.std.specs.Prelude.{◌≡◌, ℕ, zero, suc, ◌+◌, ◌-◌, ◌<◌, Bool, IsTrue, true, false, Option, Some, None, Result, Ok, Err}
use Rattle.lbm_cell.specs.Collision.{RelaxationRates}
use Rattle.lbm_model.specs.Case.{FlowCase}
use Rattle.lbm_model.specs.State.{FlowState}
use Rattle.lbm_model.specs.Flow.{next, out_of_limits}
use Rattle.lbm_model.specs.Standing.{Standing}
use Rattle.lbm_model.specs.declared.pattern.StepEnd.{StepEnd}
use Rattle.lbm_model.specs.declared.pattern.StepEnd.TheVariants as step_ends
use Rattle.lbm_tracer.specs.Tracing.{TracerRun, tracer_next, tracer_out_of_limits, tracer_run, reached, range, tracer_range}
use Rattle.lbm_tracer.specs.Carried.{Carried}
use Rattle.lbm_tracer.specs.declared.run.TraceEnd.{TraceEnd}
use Rattle.lbm_tracer.specs.declared.run.TraceEnd.TheVariants.{Range, TracerRange, Memory}

-- what n steps make of the flow, and of its tracer
abbrev pub flow_after : FlowCase → FlowState → ℕ → FlowState
flow_after case s zero = s
flow_after case s (suc n) = next case (flow_after case s n)

abbrev pub tracer_after : FlowCase → RelaxationRates → FlowState → FlowState → ℕ → FlowState
tracer_after case r s g zero = g
tracer_after case r s g (suc n) = tracer_next case r (flow_after case s n) (tracer_after case r s g n)

-- the pattern has made n steps, each from a state in limits
pub record FlowWent (old : Standing) (n : ℕ) (new : Standing) : Type 0 where
  pub case : new.case ≡ old.case
  pub time : new.time ≡ old.time + n
  pub unspent : new.spent ≡ None
  pub state : new.state ≡ flow_after old.case old.state n
  pub sound : (k : ℕ) → k < n → out_of_limits old.case (flow_after old.case old.state k) ≡ None

-- the tracer has made n steps in that flow, each from a state in limits
pub record TracerWent (flow : Standing) (old : Carried) (n : ℕ) (new : Carried) : Type 0 where
  pub torus : new.torus ≡ old.torus
  pub rates : new.rates ≡ old.rates
  pub time : new.time ≡ old.time + n
  pub unspent : new.spent ≡ false
  pub state : new.state ≡ tracer_after flow.case old.rates flow.state old.state n
  pub sound : (k : ℕ) → k < n → tracer_out_of_limits flow.case (tracer_after flow.case old.rates flow.state old.state k) ≡ None

-- the pattern is spent by this cell at this step
pub record FlowIsSpent (old : Standing) (step cell : ℕ) (new : Standing) : Type 0 where
  pub case : new.case ≡ old.case
  pub time : new.time ≡ step
  pub spent : new.spent ≡ Some cell

-- the run of the definition from here up to a step
abbrev pub tracer_run_from : Standing → Carried → ℕ → TracerRun
tracer_run_from flow old steps = tracer_run flow.case old.rates flow.state old.state flow.time (steps - flow.time)

-- what a run up to a step answers, and what the pattern and the tracer stand for then; memory may be wanted only where that is said
-- of the pattern
abbrev pub TracerGives : Bool → (flow flow_new : Standing) → (old new : Carried) → ℕ → Result (Unit {0}) TraceEnd → Type 0
TracerGives wants flow flow_new old new steps (Ok done) =
    (tracer_run_from flow old steps ≡ reached flow_new.state new.state)
    × FlowWent flow (steps - flow.time) flow_new × TracerWent flow old (steps - flow.time) new
TracerGives wants flow flow_new old new steps (Err (Range step cell)) =
    (tracer_run_from flow old steps ≡ range step cell) × (new.spent ≡ true)
    × (step < steps → FlowIsSpent flow step cell flow_new) × (step ≡ steps → FlowWent flow (steps - flow.time) flow_new)
TracerGives wants flow flow_new old new steps (Err (TracerRange step cell)) =
    (tracer_run_from flow old steps ≡ tracer_range step cell) × (new.spent ≡ true) × FlowWent flow (step - flow.time) flow_new
TracerGives wants flow flow_new old new steps (Err Memory) =
    IsTrue wants × (new.spent ≡ true) × (n : ℕ) × FlowWent flow n flow_new

-- how a step of the flow that was not made ends a run at its time
abbrev pub ended_by : ℕ → StepEnd → TraceEnd
ended_by step (step_ends.Range cell) = Range step cell
ended_by step step_ends.Memory = Memory

-- one step of a tracer by the state of its flow
abbrev pub stepped_by : Standing → Carried → Carried
stepped_by flow old = record old { time = old.time + 1; state = tracer_next flow.case old.rates flow.state old.state }

-- the tracer's part of a step: where the flow is in limits, its own least cell out of limits is the answer, and where there is none it steps
pub record Follows (flow : Standing) (old new : Carried) (answer : Option ℕ) : Type 0 where
  pub flow_out : (x : ℕ) → out_of_limits flow.case flow.state ≡ Some x → answer ≡ None
  pub out : out_of_limits flow.case flow.state ≡ None → answer ≡ tracer_out_of_limits flow.case old.state
  pub next : out_of_limits flow.case flow.state ≡ None → answer ≡ None → new ≡ stepped_by flow old

-- the test of the last states: a tracer that it does not pass is spent
abbrev pub IsLastTest : Standing → (old new : Carried) → ℕ → Result (Unit {0}) TraceEnd → Type 0
IsLastTest flow old new step (Ok done) = (out_of_limits flow.case flow.state ≡ None) × (tracer_out_of_limits flow.case old.state ≡ None) × (new ≡ old)
IsLastTest flow old new step (Err (Range at cell)) = (at ≡ step) × (out_of_limits flow.case flow.state ≡ Some cell) × (new.spent ≡ true)
IsLastTest flow old new step (Err (TracerRange at cell)) =
    (at ≡ step) × (out_of_limits flow.case flow.state ≡ None) × (tracer_out_of_limits flow.case old.state ≡ Some cell) × (new.spent ≡ true)
IsLastTest flow old new step (Err Memory) = ⊥
