-- What a step of a tracer comes to.
use Rattle.std.proofs.Common.{◌≡◌, ℕ, ◌+◌, Option, Some, None, false, List, ℤ, refl, sym, subst, ◌∙◌}
use Rattle.std.specs.Prelude.{Ok, Err}
use Rattle.lbm_space.specs.Torus.{Torus, IsSpace, cells}
use Rattle.lbm_cell.specs.Collision.{RelaxationRates}
use Rattle.lbm_model.specs.Standing.{Standing}
use Rattle.lbm_tracer.specs.Carried.{Carried, carried}
use Rattle.lbm_tracer.specs.Running.{Follows}
use Rattle.lbm_tracer.specs.Sending.{Goes, AnswersOut}
use Rattle.lbm_tracer.specs.declared.step.Unsent.{Unsent}
use Rattle.lbm_tracer.specs.declared.step.Unsent.TheVariants as ends
use Rattle.lbm_tracer.proofs.Sending.{all-passed, all-sent, tracer-stopped, flow-stopped}

module _ (flow : Standing) (r : RelaxationRates) (time : ℕ) (old now : List ℤ) where
  abbrev t : Torus
  t = flow.case.torus

  abbrev before : Carried
  before = carried (record { torus = t; rates = r; time = time; spent = false; slots = old })

  -- all cells have sent
  pub follows-on : IsSpace t → Goes flow.case r flow.state time old now (cells t) (Ok tt) → Follows flow before (carried (record { torus = t; rates = r; time = time + 1; spent = false; slots = now })) None
  follows-on space have = record {
    flow_out = λ x out. refl;
    out = λ sound. sym (all-passed flow.case r flow.state time old now have);
    next = λ sound none i. record { torus = t; rates = r; time = time + 1; spent = false; state = all-sent flow.case r flow.state time old now space have i };
  }

  -- a cell is out of limits
  pub follows-out : (end : Unsent) (answer : Option ℕ) (new : Carried) → Goes flow.case r flow.state time old now (cells t) (Err end) → AnswersOut flow end answer → Follows flow before new answer
  follows-out (ends.TracerOut x) answer new goes answers = record {
    flow_out = λ y out. answers.1 y out;
    out = λ sound. answers.0 sound ∙ sym (tracer-stopped flow.case r flow.state time old now x goes);
    next = λ sound none. (let h : None ≡ Some x = sym none ∙ answers.0 sound in absurd cc);
  }
  follows-out ends.FlowOut answer new goes answers = record {
    flow_out = λ y out. answers;
    out = λ sound. absurd (flow-stopped flow.case r flow.state time old now goes sound);
    next = λ sound none. absurd (flow-stopped flow.case r flow.state time old now goes sound);
  }

-- the same in a box that is that of the flow
module _ (flow : Standing) (r : RelaxationRates) (time : ℕ) (old now : List ℤ) (t : Torus) (of_case : flow.case.torus ≡ t) where
  pub goes-on : IsSpace t → Goes flow.case r flow.state time old now (cells t) (Ok tt)
      → Follows flow (carried (record { torus = t; rates = r; time = time; spent = false; slots = old })) (carried (record { torus = t; rates = r; time = time + 1; spent = false; slots = now })) None
  goes-on = subst (λ (u : Torus). IsSpace u → Goes flow.case r flow.state time old now (cells u) (Ok tt)
      → Follows flow (carried (record { torus = u; rates = r; time = time; spent = false; slots = old })) (carried (record { torus = u; rates = r; time = time + 1; spent = false; slots = now })) None)
      of_case (follows-on flow r time old now)

  pub goes-out : (end : Unsent) (answer : Option ℕ) (new : Carried) → AnswersOut flow end answer → Goes flow.case r flow.state time old now (cells t) (Err end)
      → Follows flow (carried (record { torus = t; rates = r; time = time; spent = false; slots = old })) new answer
  goes-out end answer new answers = subst (λ (u : Torus). Goes flow.case r flow.state time old now (cells u) (Err end)
      → Follows flow (carried (record { torus = u; rates = r; time = time; spent = false; slots = old })) new answer)
      of_case (λ goes. follows-out flow r time old now end answer new goes answers)
