-- A run with a tracer, and the run of its flow alone.
use Rattle.std.proofs.Common.{◌≡◌, ◌∙◌, ℕ, zero, suc, ◌+◌, Option, Some, None, refl, ap, subst}
use Rattle.lbm_cell.specs.Collision.{RelaxationRates}
use Rattle.lbm_model.specs.State.{FlowState}
use Rattle.lbm_model.specs.Case.{FlowCase}
use Rattle.lbm_model.specs.Flow.{next, out_of_limits, reached, run as flow_run}
use Rattle.lbm_tracer.specs.Tracing.{TracerRun, reached as both_reached, unless_out, tracer_next, tracer_out_of_limits, tracer_run}
use Rattle.lbm_answer.proofs.Runs.{run-step, run-end}

-- where both reach a state, both are in limits and the run goes on
both_sound : (time : ℕ) (flow tracer : Option ℕ) (rest : TracerRun) (end last : FlowState) → unless_out time flow tracer rest ≡ both_reached end last
    → (flow ≡ None) × (tracer ≡ None) × (rest ≡ both_reached end last)
both_sound time (Some x) tracer rest end last e = absurd cc
both_sound time None (Some x) rest end last e = absurd cc
both_sound time None None rest end last e = (refl, refl, e)

same_flow : (s g end last : FlowState) → both_reached s g ≡ both_reached end last → s ≡ end
same_flow s g end last e = cc

-- the flow runs as it does alone
pub flow-reached : (case : FlowCase) (r : RelaxationRates) (s g end last : FlowState) (time steps : ℕ) → tracer_run case r s g time steps ≡ both_reached end last
    → flow_run case s time steps ≡ reached end
flow-reached case r s g end last time zero e =
    let h = both_sound time (out_of_limits case s) (tracer_out_of_limits case g) (both_reached s g) end last e in
    run-end case s time h.0 ∙ ap reached (same_flow s g end last h.2)
flow-reached case r s g end last time (suc steps) e =
    let h = both_sound time (out_of_limits case s) (tracer_out_of_limits case g) (tracer_run case r (next case s) (tracer_next case r s g) (time + 1) steps) end last e in
    run-step case s time steps h.0 ∙ flow-reached case r (next case s) (tracer_next case r s g) end last (time + 1) steps h.2

same_tracer : (s g end last : FlowState) → both_reached s g ≡ both_reached end last → g ≡ last
same_tracer s g end last e = cc

-- the state that the tracer has reached is in limits
pub tracer-sound : (case : FlowCase) (r : RelaxationRates) (s g end last : FlowState) (time steps : ℕ) → tracer_run case r s g time steps ≡ both_reached end last
    → tracer_out_of_limits case last ≡ None
tracer-sound case r s g end last time zero e =
    let h = both_sound time (out_of_limits case s) (tracer_out_of_limits case g) (both_reached s g) end last e in
    subst (λ (z : FlowState). tracer_out_of_limits case z ≡ None) (same_tracer s g end last h.2) h.1
tracer-sound case r s g end last time (suc steps) e =
    let h = both_sound time (out_of_limits case s) (tracer_out_of_limits case g) (tracer_run case r (next case s) (tracer_next case r s g) (time + 1) steps) end last e in
    tracer-sound case r (next case s) (tracer_next case r s g) end last (time + 1) steps h.2
