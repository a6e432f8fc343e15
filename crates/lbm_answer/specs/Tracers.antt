-- What a run with a tracer does: each of its steps.
use Rattle.std.specs.Prelude.{◌≡◌, true, false, ℕ, ℤ, pos, ◌≤ℤ◌, All, List, [], ◌∷◌, length, None, Result, Ok, Err}
use Rattle.lbm_space.specs.Torus.{cells}
use Rattle.lbm_store.specs.Outside.{StoreState}
use Rattle.lbm_model.specs.Case.{FlowCase}
use Rattle.lbm_model.specs.State.{FlowState, mass}
use Rattle.lbm_model.specs.Flow.{first}
use Rattle.lbm_model.specs.Standing.{Standing}
use Rattle.lbm_tracer.specs.declared.run.TraceEnd.{TraceEnd}
use Rattle.lbm_tracer.specs.declared.run.TraceEnd.TheVariants as trace_ends
use Rattle.lbm_tracer.specs.Tracing.{reached, range, tracer_first, tracer_range}
use Rattle.lbm_tracer.specs.Carried.{Carried}
use Rattle.lbm_tracer.specs.Trace.{trace}
use Rattle.lbm_vtk.specs.declared.Format.{Format}
use Rattle.lbm_vtk.specs.Vtk.{vtk}
use Rattle.lbm_words.specs.Request.{Tracer, most_amount}
use Rattle.lbm_answer.specs.declared.tracer.Traced.{Traced}
use Rattle.lbm_answer.specs.declared.answer.File.TheVariants.{Out, Trace}
use Rattle.lbm_answer.specs.declared.answer.End.{End}
use Rattle.lbm_answer.specs.declared.answer.End.TheVariants.{Spot, Range, TracerRange, StoreFault, Memory}
use Rattle.lbm_answer.specs.declared.report.Report.{Report}
use Rattle.lbm_answer.specs.declared.report.Report.TheVariants as reports
use Rattle.lbm_answer.specs.Reports.{printed_amounts}
use Rattle.lbm_answer.specs.Outcome.{Beginning, Written, OfFiles, CutAt, CutShort, is_spot, traced_run, written}
use Rattle.lbm_answer.specs.Jobs.{Leaves, IsLeft, NthFault}

-- what a call answers where its run with a tracer has ended early
abbrev pub trace_end : TraceEnd → End
trace_end (trace_ends.Range step cell) = Range step cell
trace_end (trace_ends.TracerRange step cell) = TracerRange step cell
trace_end trace_ends.Memory = Memory

-- a tracer may begin in this cell, or why not
abbrev pub Places : FlowCase → ℕ → Result (Unit {0}) End → Type 0
Places case cell (Ok done) = is_spot case cell ≡ true
Places case cell (Err (Spot x)) = (x ≡ cell) × (is_spot case cell ≡ false)
Places case cell (Err end) = ⊥

-- a pattern and a tracer that stand for the first states
abbrev pub flow_at_first : FlowCase → Standing
flow_at_first case = record { case = case; time = 0; spent = None; state = first case }

abbrev pub tracer_at_first : Tracer → FlowCase → Carried
tracer_at_first r case = record { torus = case.torus; rates = r.rates; time = 0; spent = false; state = tracer_first case.torus r.amount r.cell }

-- the flow begins with its first state
abbrev pub first_beginning : FlowCase → Beginning
first_beginning case = record { state = first case; time = 0 }

-- what the states leave that a flow and its tracer have reached
pub record LeavesTraced (r : Tracer) (case : FlowCase) (left : Traced) : Type 0 where
  pub flow : Leaves case r.steps (first_beginning case) left.flow
  pub tracer : FlowState
  pub ends : traced_run r case ≡ reached left.flow.state tracer
  pub amounts : left.amounts.items ≡ printed_amounts case tracer
  pub total : left.total ≡ mass tracer

-- the end of a run with a tracer, or why it has none
abbrev pub FinishesTraced : Tracer → FlowCase → Result Traced End → Type 0
FinishesTraced r case (Ok left) = LeavesTraced r case left
FinishesTraced r case (Err (Range step cell)) = traced_run r case ≡ range step cell
FinishesTraced r case (Err (TracerRange step cell)) = traced_run r case ≡ tracer_range step cell
FinishesTraced r case (Err Memory) = Unit {0}
FinishesTraced r case (Err end) = ⊥

-- what is reported of them, and written: first of the flow, and then of the tracer
abbrev pub traced_report : Traced → Report
traced_report left = reports.Tracer (record { step = left.flow.report.step; mass = left.flow.report.mass; tracer = left.total })

abbrev pub traced_files_of : (out : List ℕ) → Format → (trace : List ℕ) → Traced → List Written
traced_files_of out format name left =
    record { name = out; bytes = vtk left.flow.space left.flow.report.step left.flow.moments.items format }
    ∷ record { name = name; bytes = trace left.flow.space left.flow.report.step left.amounts.items }
    ∷ []

abbrev pub traced_files_left : Tracer → Traced → List Written
traced_files_left r left = traced_files_of r.out r.format r.trace left

-- what a cell of a tracer in limits may have
pub record IsAmount (amount : ℤ) : Type 0 where
  pub not_negative : pos 0 ≤ℤ amount
  pub few : amount ≤ℤ pos most_amount

-- there is a moment and an amount for each cell
pub record IsTraced (left : Traced) : Type 0 where
  pub flow : IsLeft left.flow
  pub amounts : length left.amounts.items ≡ cells left.flow.space
  pub few : All IsAmount left.amounts.items

-- the files are written whole, in their order, and no write has failed, or why not; a fault is one of the flow's file or of the tracer's
abbrev pub SavesTraced : List Written → StoreState → StoreState → Result (Unit {0}) End → Type 0
SavesTraced files before after (Ok done) = (after.write_faults ≡ before.write_faults) × OfFiles before after (λ old now. now ≡ written files old)
SavesTraced files before after (Err (StoreFault Out)) = NthFault 0 files before after × OfFiles before after (λ old now. CutAt 0 files old now)
SavesTraced files before after (Err (StoreFault Trace)) = NthFault 1 files before after × OfFiles before after (λ old now. CutAt 1 files old now)
SavesTraced files before after (Err Memory) = OfFiles before after (λ old now. CutShort files old now)
SavesTraced files before after (Err end) = ⊥
