-- How a run with a tracer ends, by where the pattern and the tracer begin.
use Rattle.std.proofs.Common.{◌≡◌, ◌∙◌, ℕ, zero, suc, ◌-◌, ◌<◌, Bool, true, length, get_or, None, Ok, Err, inl, inr, ap, sym, subst, arith}
use Rattle.std.specs.Prelude.{All}
use Rattle.std.proofs.lemmas.Bool.{cases_Bool}
use Rattle.std.proofs.lemmas.Int.{ints}
use Rattle.std.proofs.lemmas.List.FromFn.{length-map-range_with_len, get_or-map-range_with_len}
use Rattle.lbm_cell.proofs.Bounds.{one_at_most}
use Rattle.lbm_cell.proofs.Least.{least_failing-none}
use Rattle.lbm_space.specs.Torus.{cells}
use Rattle.lbm_model.specs.Case.{FlowCase, IsCase, is_solid}
use Rattle.lbm_model.specs.State.{FlowState, mass, population}
use Rattle.lbm_model.specs.Flow.{IsStateOf, first, run as flow_run}
use Rattle.lbm_model.specs.Standing.{Standing}
use Rattle.lbm_model.proofs.Mass.{IsStateOf-next}
use Rattle.lbm_tracer.specs.declared.run.TraceEnd.{TraceEnd}
use Rattle.lbm_tracer.specs.declared.run.TraceEnd.TheVariants.{Range, TracerRange, Memory}
use Rattle.lbm_tracer.specs.Tracing.{reached, set_in, is_tracer_sound, tracer_first, tracer_out_of_limits, tracer_run}
use Rattle.lbm_tracer.specs.Collision.{in_tracer_limits}
use Rattle.lbm_tracer.specs.Carried.{Carried}
use Rattle.lbm_tracer.proofs.Limits.{InTracerLimits-from_test}
use Rattle.lbm_tracer.proofs.Sets.{set_facts}
use Rattle.lbm_tracer.specs.Running.{TracerGives, flow_after, tracer_run_from}
use Rattle.lbm_words.specs.Request.{Tracer}
use Rattle.lbm_answer.specs.declared.tracer.Traced.{Traced}
use Rattle.lbm_answer.specs.Reports.{printed_moments, printed_amount, printed_amounts, run_report}
use Rattle.lbm_answer.specs.Outcome.{traced_run}
use Rattle.lbm_answer.specs.Jobs.{LeavesOf}
use Rattle.lbm_answer.specs.Tracers.{FinishesTraced, IsAmount, IsTraced, LeavesTraced, first_beginning, flow_at_first, tracer_at_first, trace_end}
use Rattle.lbm_answer.proofs.PrintedFits.{left_is}
use Rattle.lbm_answer.proofs.Stepped.{first_is_state}
use Rattle.lbm_answer.proofs.TracerRuns.{flow-reached, tracer-sound}

module _ (r : Tracer) (case : FlowCase) (flow flow_new : Standing) (old new : Carried) (wants : Bool)
    (flow_begins : flow ≡ flow_at_first case) (begins : old ≡ tracer_at_first r case) where
  -- their run is that of the request
  same_run : tracer_run_from flow old r.steps ≡ traced_run r case
  same_run =
      let all : r.steps - 0 ≡ r.steps = omega arith in
      ap (λ (f : Standing). tracer_run_from f old r.steps) flow_begins ∙ ap (λ (g : Carried). tracer_run_from (flow_at_first case) g r.steps) begins
      ∙ ap (tracer_run case r.rates (first case) (tracer_first case.torus r.amount r.cell) 0) all

  -- one that has ended early
  pub traced-early : (end : TraceEnd) → TracerGives wants flow flow_new old new r.steps (Err end) → FinishesTraced r case (Err (trace_end end))
  traced-early (Range step cell) gives = sym same_run ∙ gives.0
  traced-early (TracerRange step cell) gives = sym same_run ∙ gives.0
  traced-early Memory gives = tt

  is_state-after : (n : ℕ) → IsStateOf case (flow_after case (first case) n)
  is_state-after zero = first_is_state case
  is_state-after (suc n) = IsStateOf-next case (flow_after case (first case) n)

  -- the last states that they reach are those of the request, and that of the flow is one of its case
  pub traced-reached : TracerGives wants flow flow_new old new r.steps (Ok tt) → traced_run r case ≡ reached flow_new.state new.state
  traced-reached gives = sym same_run ∙ gives.0

  pub traced-state : TracerGives wants flow flow_new old new r.steps (Ok tt) → IsStateOf case flow_new.state
  traced-state gives =
      let is : flow_new.state ≡ flow_after case (first case) (r.steps - 0) =
      gives.1.state ∙ ap (λ (f : Standing). flow_after f.case f.state (r.steps - f.time)) flow_begins in
      subst (IsStateOf case) (sym is) (is_state-after (r.steps - 0))

-- what such states leave
pub traced-leaves : (r : Tracer) (case : FlowCase) (s g : FlowState) (left : Traced) → traced_run r case ≡ reached s g → IsStateOf case s → LeavesOf case r.steps s left.flow
    → left.amounts.items ≡ printed_amounts case g → left.total ≡ mass g → LeavesTraced r case left
traced-leaves r case s g left reaches state leaves amounts total =
    let ends : traced_run r case ≡ reached left.flow.state g = reaches ∙ ap (λ (s : FlowState). reached s g) (sym leaves.state) in
    let none : r.steps - 0 ≡ r.steps = omega arith in
    record {
      flow = record {
        ends = ap (flow_run case (first case) 0) none
            ∙ flow-reached case r.rates (first case) (tracer_first case.torus r.amount r.cell) left.flow.state g 0 r.steps ends;
        state = subst (IsStateOf case) (sym leaves.state) state;
        space = leaves.space;
        moments = leaves.moments ∙ ap (printed_moments case) (sym leaves.state);
        report = leaves.report ∙ ap (run_report case r.steps) (sym leaves.state);
      };
      tracer = g;
      ends = ends;
      amounts = amounts;
      total = total;
    }

-- ---- what is left can be saved

length-printed_amounts : (case : FlowCase) (g : FlowState) → length (printed_amounts case g) ≡ cells case.torus
length-printed_amounts case g = length-map-range_with_len (printed_amount case g) 0 (cells case.torus)

printed_amount-is : (case : FlowCase) (g : FlowState) (x : ℕ) → tracer_out_of_limits case g ≡ None → x < cells case.torus → IsAmount (printed_amount case g x)
printed_amount-is case g x limits known =
    let v = set_in case.torus in
    let sound : is_tracer_sound case x (population g x) ≡ true = least_failing-none (cells case.torus) (λ y. is_tracer_sound case y (population g y)) limits x known in
    elim (cases_Bool (is_solid case x)) [
      | inl solid ↦ rw solid (record { not_negative = omega (arith, ints); few = omega (arith, ints) })
      | inr fluid ↦ (
          let inside : in_tracer_limits v (population g x) ≡ true = rw fluid at sound in
          let within = InTracerLimits-from_test v (population g x) inside in
          let whole = one_at_most v.directions (population g x) within.not_negative 0 (set_facts case.torus.dimension).some in
          rw fluid (record { not_negative = whole.0; few = within.few }))
    ]

printed_amounts-are : (case : FlowCase) (g : FlowState) → tracer_out_of_limits case g ≡ None → All IsAmount (printed_amounts case g)
printed_amounts-are case g limits = λ x d below.
    let known : x < cells case.torus = rw (← length-printed_amounts case g) below in
    let at : get_or (printed_amounts case g) x d ≡ printed_amount case g x =
    get_or-map-range_with_len (printed_amount case g) 0 (cells case.torus) x x d known (omega arith) in
    rw at (printed_amount-is case g x limits known)

pub traced_is : (r : Tracer) (case : FlowCase) (left : Traced) → IsCase case → LeavesTraced r case left → IsTraced left
traced_is r case left valid leaves = record {
  flow = left_is case r.steps (first_beginning case) left.flow valid leaves.flow;
  amounts = rw (leaves.amounts, leaves.flow.space) (length-printed_amounts case leaves.tracer);
  few = rw leaves.amounts
      (printed_amounts-are case leaves.tracer
      (tracer-sound case r.rates (first case) (tracer_first case.torus r.amount r.cell) left.flow.state leaves.tracer 0 r.steps leaves.ends));
}
