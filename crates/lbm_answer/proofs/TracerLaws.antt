-- Laws of runs with a tracer.
use Rattle.std.proofs.Common.{◌≡◌, ◌∙◌, ℕ, ◌-◌, List, take, Bool, true, false, not, Ok, refl, sym, ap, subst, arith}
use Rattle.std.specs.Prelude.{IsOkAnd, nat_lt}
use Rattle.std.proofs.lemmas.Bool.{and_parts, ltb-true}
use Rattle.lbm_space.specs.Torus.{cells}
use Rattle.lbm_store.specs.Outside.{Files}
use Rattle.lbm_model.specs.Refusals.{◌>>=◌, demand}
use Rattle.lbm_model.specs.Case.{FlowCase, IsCase, is_solid}
use Rattle.lbm_model.specs.State.{FlowState, mass}
use Rattle.lbm_model.specs.Flow.{first, reached, run as flow_run}
use Rattle.lbm_tracer.specs.Tracing.{TracerRun, reached as both_reached, range as flow_range, tracer_range, tracer_first}
use Rattle.lbm_tracer.proofs.Total.{total-first, total-run}
use Rattle.lbm_voxel.proofs.MadeCases.{passed}
use Rattle.lbm_words.specs.Request.{Tracer, run, tracer}
use Rattle.lbm_answer.specs.declared.answer.End.{End}
use Rattle.lbm_answer.specs.declared.answer.End.TheVariants.{Spot}
use Rattle.lbm_answer.specs.Reports.{mass_of, tracer_of, tracer_report}
use Rattle.lbm_answer.specs.Outcome.{Finished, Job, bad_cut, case_read, concluded, finished, is_spot, outcome, run_from, run_job, traced, traced_files, traced_run, tracer_outcome, uncut}
use Rattle.lbm_answer.specs.Tracers.{first_beginning}
use Rattle.lbm_answer.specs.Laws.{TracerIsPassive, TracerTotal, flow_of}
use Rattle.lbm_answer.proofs.Asked.{job_outcome-begun, outcome-job, run-job}
use Rattle.lbm_answer.proofs.Resumed.{case_read-valid}
use Rattle.lbm_answer.proofs.TracerRuns.{flow-reached}
use Rattle.lbm_answer.proofs.TracerSteps.{tracer_first_is_state}

-- what is left by a run that is finished
record IsTracedBy (r : Tracer) (files : Files) (left : Finished) : Type 0 where
  bytes : List ℕ
  case : FlowCase
  flow : FlowState
  tracer : FlowState
  read : case_read r.case files ≡ Ok (bytes, case)
  whole : uncut (bad_cut case.torus r.choice.cut) ≡ Ok tt
  placed : is_spot case r.cell ≡ true
  ends : traced_run r case ≡ both_reached flow tracer
  is : record { files = traced_files r case flow tracer; report = tracer_report r.steps flow tracer } ≡ left

traced_end : (r : Tracer) (case : FlowCase) (end : TracerRun) (left : Finished) → traced r case end ≡ Ok left
    → (s : FlowState) × (g : FlowState) × (end ≡ both_reached s g) × (record { files = traced_files r case s g; report = tracer_report r.steps s g } ≡ left)
traced_end r case (both_reached s g) left e = (s, g, refl, cc)
traced_end r case (flow_range step cell) left e = absurd cc
traced_end r case (tracer_range step cell) left e = absurd cc

passed_test : (test : Bool) (refusal : End) (done : Unit {0}) → demand test refusal ≡ Ok done → test ≡ true
passed_test true refusal done e = refl
passed_test false refusal done e = absurd cc

traced_by : (r : Tracer) (files : Files) (left : Finished) → outcome (tracer r) files ≡ Ok left → IsTracedBy r files left
unfolding outcome tracer_outcome
traced_by r files left e =
    let a = passed (case_read r.case files) (λ read. tracer_outcome r read.1) left e in
    let read : List ℕ × FlowCase = a.0 in
    let case : FlowCase = read.1 in
    let b = passed (uncut (bad_cut case.torus r.choice.cut)) (λ _. demand (is_spot case r.cell) (Spot r.cell) >>= λ _. traced r case (traced_run r case)) left a.2 in
    let c = passed (demand (is_spot case r.cell) (Spot r.cell)) (λ _. traced r case (traced_run r case)) left b.2 in
    let d = traced_end r case (traced_run r case) left c.2 in
    record {
      bytes = read.0;
      case = case;
      flow = d.0;
      tracer = d.1;
      read = a.1;
      whole = b.1;
      placed = passed_test (is_spot case r.cell) (Spot r.cell) c.0 c.1;
      ends = d.2;
      is = d.3;
    }

-- the run of the flow alone leaves the state that the flow has reached
alone : (r : Tracer) (files : Files) (left : Finished) (by : IsTracedBy r files left) → outcome (run (flow_of r)) files ≡ Ok (finished (run_job (flow_of r) by.case by.bytes) by.flow)
alone r files left by =
    let case = by.case in
    let job : Job = run_job (flow_of r) case by.bytes in
    let all : r.steps - 0 ≡ r.steps = omega arith in
    let reaches : run_from case r.steps (first_beginning case) ≡ reached by.flow =
    ap (flow_run case (first case) 0) all ∙ flow-reached case r.rates (first case) (tracer_first case.torus r.amount r.cell) by.flow by.tracer 0 r.steps by.ends in
    outcome-job files (run (flow_of r)) job (run-job files (flow_of r) by.bytes case by.read)
    ∙ job_outcome-begun job files by.whole (first_beginning case) refl
    ∙ ap (concluded job) reaches

pub tracer-passive : TracerIsPassive
tracer-passive r files left e =
    let by = traced_by r files left e in
    let flow = finished (run_job (flow_of r) by.case by.bytes) by.flow in
    subst (λ o. IsOkAnd o (λ run. (take 1 left.files ≡ run.files) × (mass_of left.report ≡ mass_of run.report))) (sym (alone r files left by))
    (subst (λ (l : Finished). (take 1 l.files ≡ flow.files) × (mass_of l.report ≡ mass_of flow.report)) by.is (refl, refl))

pub tracer-total : TracerTotal
tracer-total r files left e =
    let by = traced_by r files left e in
    let case = by.case in
    let valid : IsCase case = case_read-valid r.case files (by.bytes, case) by.read in
    let here = ltb-true r.cell (cells case.torus) (and_parts (nat_lt r.cell (cells case.torus)) (not (is_solid case r.cell)) by.placed).0 in
    let start = tracer_first case.torus r.amount r.cell in
    let total : mass by.tracer ≡ mass start = total-run case r.rates (first case) start by.flow by.tracer 0 r.steps valid (tracer_first_is_state case r.amount r.cell) by.ends in
    ap (λ (l : Finished). tracer_of l.report) (sym by.is) ∙ total ∙ total-first case r.amount r.cell valid here
