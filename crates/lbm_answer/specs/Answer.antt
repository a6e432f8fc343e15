-- What a call may answer, and what it leaves outside. First it decides, from the words and the store; then it tells the sink.
use Rattle.std.specs.Prelude.{◌≡◌, ◌⊎◌, ◌-◌, List, ℕ, Option, Some, None, Result, Ok, Err, IsOk, IsOkAnd, MatchResult, pos, ◌+ℤ◌, ◌*ℤ◌}
use Rattle.std.specs.Option.{ForSome}
use Rattle.lbm_store.specs.Outside.{Files, StoreState, SinkState, Rose, GotFront, followed}
use Rattle.lbm_model.specs.State.{mass}
use Rattle.lbm_model.specs.Case.{FlowCase, all_gain}
use Rattle.lbm_model.specs.Flow.{first}
use Rattle.lbm_words.specs.Request.{Request, Tracer, run, check, demo, voxels, tracer}
use Rattle.lbm_words.specs.Words.{request_of}
use Rattle.lbm_answer.specs.declared.answer.File.{File}
use Rattle.lbm_answer.specs.declared.answer.File.TheVariants.{CaseFile, Voxel, Checkpoint, Out, Save, Trace}
use Rattle.lbm_answer.specs.declared.answer.End.{End}
use Rattle.lbm_answer.specs.declared.answer.End.TheVariants.{Done, Usage, Case, TooLong, Voxel as BadVoxel, Cut, Spot, Checkpoint as BadCheckpoint, Past, Range, TracerRange, StoreFault, SinkFault, Memory}
use Rattle.lbm_answer.specs.declared.report.Report.{Report}
use Rattle.lbm_answer.specs.Lines.{line_of, report_line}
use Rattle.lbm_answer.specs.Faults.{NoFault, FaultOf}
use Rattle.lbm_answer.specs.Outcome.{Job, Finished, OfFiles, CutAt, CutShort, admitted, begun, case_read, job_of, job_outcome, tracer_outcome, outcome, written}
use Rattle.lbm_answer.specs.Reports.{mass_of, momentum_of, tracer_of}
use Rattle.lbm_answer.specs.Drift.{IsWithinDrift}

-- a report, or the answer in its place
abbrev pub Decision : Type 0
Decision = Result Report End

-- ---- what a call is asked, as far as its answer goes: its outcome over files, that nothing is refused before one of them is
-- read, the laws that its report keeps, and the names of its files
pub record Asked : Type 1 where
  pub outcome : Files → Result Finished End
  pub ready : File → Files → Type 0
  pub keeps : Files → Report → Type 0
  pub name : File → Option (List ℕ)

-- a refusal: exactly that of the outcome, and in the store no file and no count has changed
abbrev pub Refuses : Asked → StoreState → StoreState → End → Type 0
Refuses asked before after refused = (after ≡ before) × ForSome before.files (λ files. asked.outcome files ≡ Err refused)

-- the writing of the files stopped at file number k
abbrev pub StopsAt : ℕ → Asked → StoreState → StoreState → Type 0
StopsAt k asked before after = OfFiles before after (λ files now. IsOkAnd (asked.outcome files) (λ left. CutAt k left.files files now))

-- What may be decided, and what has become of the files.
abbrev pub DecidesFor : Asked → StoreState → StoreState → Decision → Type 0
-- nothing has stopped it, and no fault was counted
DecidesFor asked before after (Ok report) =
    NoFault before after × OfFiles before after (λ files now. IsOkAnd (asked.outcome files) (λ left. (left.report ≡ report) × (now ≡ written left.files files)) × asked.keeps files report)
-- want of memory: at any step
DecidesFor asked before after (Err Memory) =
    OfFiles before after (λ files now. MatchResult (asked.outcome files) (λ left. CutShort left.files files now) (λ refused. now ≡ files))
-- a fault of the store, the only one that it has counted in this call, where nothing was refused before
DecidesFor asked before after (Err (StoreFault CaseFile)) = FaultOf asked.name CaseFile before after × (after.files ≡ before.files)
DecidesFor asked before after (Err (StoreFault Voxel)) = FaultOf asked.name Voxel before after × (after.files ≡ before.files) × ForSome before.files (asked.ready Voxel)
DecidesFor asked before after (Err (StoreFault Checkpoint)) =
    FaultOf asked.name Checkpoint before after × (after.files ≡ before.files) × ForSome before.files (asked.ready Checkpoint)
DecidesFor asked before after (Err (StoreFault Out)) = FaultOf asked.name Out before after × StopsAt 0 asked before after
DecidesFor asked before after (Err (StoreFault Save)) = FaultOf asked.name Save before after × StopsAt 1 asked before after
DecidesFor asked before after (Err (StoreFault Trace)) = FaultOf asked.name Trace before after × StopsAt 1 asked before after
DecidesFor asked before after (Err (Case fault)) = Refuses asked before after (Case fault)
DecidesFor asked before after (Err (TooLong file)) = Refuses asked before after (TooLong file)
DecidesFor asked before after (Err (BadVoxel fault)) = Refuses asked before after (BadVoxel fault)
DecidesFor asked before after (Err (Cut k)) = Refuses asked before after (Cut k)
DecidesFor asked before after (Err (Spot cell)) = Refuses asked before after (Spot cell)
DecidesFor asked before after (Err (BadCheckpoint fault)) = Refuses asked before after (BadCheckpoint fault)
DecidesFor asked before after (Err (Past at to)) = Refuses asked before after (Past at to)
DecidesFor asked before after (Err (Range step cell)) = Refuses asked before after (Range step cell)
DecidesFor asked before after (Err (TracerRange step cell)) = Refuses asked before after (TracerRange step cell)
-- never, where the words ask for something
DecidesFor asked before after (Err Usage) = ⊥
DecidesFor asked before after (Err Done) = ⊥
DecidesFor asked before after (Err SinkFault) = ⊥

-- ---- a run

-- The mass that a run reports is that of the state with which it begins, and what the walls give in each step. Its momentum is
-- within the drift.
abbrev pub KeepsLaws : Job → Files → Report → Type 0
KeepsLaws job files report = IsOkAnd (begun job files) (λ begin.
    (mass_of report ≡ mass begin.state +ℤ (pos (job.steps - begin.time) *ℤ all_gain job.case))
    × IsWithinDrift job.case begin.state (job.steps - begin.time) (momentum_of report))

-- its case was read before, and its cutting is not refused before the checkpoint is read
abbrev pub ready_job : Job → File → Files → Type 0
ready_job job Checkpoint files = IsOk (admitted job)
ready_job job file files = Unit {0}

abbrev pub job_name : Job → File → Option (List ℕ)
job_name job CaseFile = None
job_name job Voxel = None
job_name job Checkpoint = job.resume
job_name job Out = Some job.out
job_name job Save = job.save
job_name job Trace = None

-- what a run is asked
abbrev pub asked_of_job : Job → Asked
asked_of_job job = record { outcome = job_outcome job; ready = ready_job job; keeps = KeepsLaws job; name = job_name job }

-- ---- a run with a tracer

-- the mass that it reports is that of the first state, and what the walls give in each step; of the tracer it reports all
abbrev pub KeepsTracer : Tracer → FlowCase → Report → Type 0
KeepsTracer r case report = (mass_of report ≡ mass (first case) +ℤ (pos r.steps *ℤ all_gain case)) × (tracer_of report ≡ pos r.amount)

abbrev pub tracer_name : Tracer → File → Option (List ℕ)
tracer_name r Out = Some r.out
tracer_name r Trace = Some r.trace
tracer_name r file = None

-- what it is asked, where its case was read: no other file is read
abbrev pub asked_of_tracer : Tracer → FlowCase → Asked
asked_of_tracer r case = record {
  outcome = λ files. tracer_outcome r case;
  ready = λ file files. ⊥;
  keeps = λ files. KeepsTracer r case;
  name = tracer_name r;
}

-- ---- a request

-- the case file is not refused before the voxel file is read
abbrev pub ready_voxels : Request → Files → Type 0
ready_voxels (voxels v) files = IsOk (case_read v.run.case files)
ready_voxels request files = Unit {0}

-- and neither the case nor its cutting before the checkpoint is read
abbrev pub ready_of : Request → File → Files → Type 0
ready_of request Voxel files = ready_voxels request files
ready_of request Checkpoint files = IsOkAnd (job_of request files) (λ job. IsOk (admitted job))
ready_of request file files = Unit {0}

-- the mass that a check reports is that of the first state
abbrev pub keeps_of : Request → Files → Report → Type 0
keeps_of (check c) files report = IsOkAnd (case_read c.case files) (λ read. mass_of report ≡ mass (first read.1))
keeps_of (tracer r) files report = IsOkAnd (case_read r.case files) (λ read. KeepsTracer r read.1 report)
keeps_of request files report = IsOkAnd (job_of request files) (λ job. KeepsLaws job files report)

abbrev pub name_of : Request → File → Option (List ℕ)
name_of (run r) CaseFile = Some r.case
name_of (run r) Voxel = None
name_of (run r) Checkpoint = r.resume
name_of (run r) Out = Some r.out
name_of (run r) Save = r.save
name_of (run r) Trace = None
name_of (check c) CaseFile = Some c.case
name_of (check c) file = None
name_of (demo d) Out = Some d.out
name_of (demo d) Save = d.save
name_of (demo d) file = None
name_of (voxels v) CaseFile = Some v.run.case
name_of (voxels v) Voxel = Some v.file
name_of (voxels v) Checkpoint = v.run.resume
name_of (voxels v) Out = Some v.run.out
name_of (voxels v) Save = v.run.save
name_of (voxels v) Trace = None
name_of (tracer r) CaseFile = Some r.case
name_of (tracer r) file = tracer_name r file

-- what words ask
abbrev pub asked_of : Request → Asked
asked_of request = record { outcome = outcome request; ready = ready_of request; keeps = keeps_of request; name = name_of request }

-- Words that ask for nothing are refused, unless memory ran out, and the store is as before.
abbrev pub Decides : Option Request → StoreState → StoreState → Decision → Type 0
Decides (Some request) before after decision = DecidesFor (asked_of request) before after decision
Decides None before after decision = (after ≡ before) × ((decision ≡ Err Usage) ⊎ (decision ≡ Err Memory))

-- The sink gets a line. `whole` is the answer where it got all of it and nothing failed, `cut` where the sink failed and has counted that.
-- Where that wants memory, the line of want of memory is tried once behind what was written.
abbrev pub TellsLine : SinkState → SinkState → List ℕ → End → End → End → Type 0
TellsLine before after line whole cut end =
    ((end ≡ whole) × (after.written ≡ followed before.written line) × (after.faults ≡ before.faults))
    ⊎ ((end ≡ cut) × Rose before.faults after.faults × GotFront before.written after.written line)
    ⊎ ((end ≡ Memory) × (between : Option (List ℕ)) × GotFront before.written between line × GotFront between after.written (line_of Memory))

-- The sink gets the line of want of memory, or a front of it.
abbrev pub TellsMemory : SinkState → SinkState → End → Type 0
TellsMemory before after end = (end ≡ Memory) × GotFront before.written after.written (line_of Memory)

abbrev pub Tells : SinkState → SinkState → Decision → End → Type 0
Tells before after (Ok report) end = TellsLine before after (report_line report) Done SinkFault end
Tells before after (Err Memory) end = TellsMemory before after end
Tells before after (Err answer) end = TellsLine before after (line_of answer) answer answer end

-- A call over these words answers so.
pub record Answers (words : List (List ℕ)) (store store_after : StoreState) (sink sink_after : SinkState) (end : End) : Type 0 where
  pub decision : Decision
  pub decided : Decides (request_of words) store store_after decision
  pub told : Tells sink sink_after decision end
