-- Runs of a pattern with a tracer, from the first states.
use Rattle.std.proofs.Common.{◌≡◌, ◌∙◌, Bool, None, Result, Ok, Err, refl, ap, sym, subst}
use Rattle.lbm_model.specs.Case.{FlowCase}
use Rattle.lbm_model.specs.State.{FlowState, mass}
use Rattle.lbm_model.specs.Flow.{IsStateOf, first}
use Rattle.lbm_model.specs.Standing.{Standing}
use Rattle.lbm_tracer.specs.Tracing.{reached}
use Rattle.lbm_tracer.specs.Carried.{Carried}
use Rattle.lbm_tracer.specs.Running.{TracerGives}
use Rattle.lbm_words.specs.Request.{Tracer}
use Rattle.lbm_answer.specs.declared.answer.End.{End}
use Rattle.lbm_answer.specs.declared.tracer.Traced.{Traced}
use Rattle.lbm_answer.specs.Reports.{printed_amounts}
use Rattle.lbm_answer.specs.Tracers.{FinishesTraced, flow_at_first, tracer_at_first}
use Rattle.lbm_answer.proofs.TracerEnds.{traced-leaves, traced-reached, traced-state}
use Rattle.lbm_flow.specs.declared.tracer_finish.LastStates.{LastStates}
use Rattle.lbm_flow.specs.Carrying.{AreReached, IsLeftOf, LeavesBoth}

-- ---- where they begin

-- a pattern that has been started with the first state
pub begins-first : (now : Standing) (case : FlowCase) (s : FlowState) → now ≡ record { case = case; time = 0; spent = None; state = s } → s ≡ first case → now ≡ flow_at_first case
begins-first now case s stands is =
    let at : FlowState → Standing = λ s. record { case = case; time = 0; spent = None; state = s } in
    stands ∙ ap at is

module _ (r : Tracer) (case : FlowCase) (now : Standing) (begins : now ≡ flow_at_first case) where
  -- the same by the case that it has
  pub begins-own : now ≡ flow_at_first now.case
  begins-own = subst (λ (n : Standing). n ≡ flow_at_first n.case) (sym begins) refl

  pub tracer-own : (t : Carried) → t ≡ tracer_at_first r case → t ≡ tracer_at_first r now.case
  tracer-own t is = is ∙ ap (λ (n : Standing). tracer_at_first r n.case) (sym begins)

  -- ---- how they end

  -- a run that has ended early
  pub early-own : (end : End) → FinishesTraced r now.case (Err end) → FinishesTraced r case (Err end)
  early-own end finishes = subst (λ (n : Standing). FinishesTraced r n.case (Err end)) begins finishes

  -- what is left of the last states
  pub left-own : (same : FlowCase) (last : LastStates) (end : Result Traced End) → same ≡ now.case → AreReached r now.case last → IsLeftOf same r.steps last end
      → FinishesTraced r case end
  left-own same last (Ok left) same_is are_reached leaves =
      let are : AreReached r case last = subst (λ (n : Standing). AreReached r n.case last) begins are_reached in
      let case_is : same ≡ case = same_is ∙ ap (λ (n : Standing). n.case) begins in
      let left_of : LeavesBoth case r.steps last left = subst (λ (c : FlowCase). LeavesBoth c r.steps last left) case_is leaves in
      traced-leaves r case last.state are.tracer left are.ends are.state left_of.flow (left_of.amounts ∙ are.amounts) (left_of.total ∙ are.total)
  left-own same last (Err end) same_is are_reached memory = subst (λ (e : End). FinishesTraced r case (Err e)) (sym memory) tt

-- ---- the last states

pub are-reached : (r : Tracer) (case : FlowCase) (flow flow_new : Standing) (old new : Carried) (wants : Bool) → flow ≡ flow_at_first case → old ≡ tracer_at_first r case
    → TracerGives wants flow flow_new old new r.steps (Ok tt) → (last : LastStates) → last.state ≡ flow_new.state → last.amounts.items ≡ printed_amounts case new.state
    → last.total ≡ mass new.state → AreReached r case last
are-reached r case flow flow_new old new wants flow_begins begins gives last state amounts total = record {
  state = subst (IsStateOf case) (sym state) (traced-state r case flow flow_new old new wants flow_begins begins gives);
  tracer = new.state;
  ends = traced-reached r case flow flow_new old new wants flow_begins begins gives ∙ ap (λ (s : FlowState). reached s new.state) (sym state);
  amounts = amounts;
  total = total;
}
