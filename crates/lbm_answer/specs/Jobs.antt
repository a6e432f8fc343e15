-- What a run does: each of its steps, and all of them.
use Rattle.std.specs.Prelude.{◌≡◌, ℕ, zero, suc, ◌≤◌, List, [], ◌∷◌, ◌++◌, length, Option, Some, None, IsNone, Result, Ok, Err, option_map, ◌*◌, All}
use Rattle.std.specs.Option.{ForSome}
use Rattle.sha2.specs.Sha256.{sha256}
use Rattle.lbm_space.specs.Torus.{Torus, cells, rows}
use Rattle.lbm_space.specs.Cuttings.{rows_of}
use Rattle.lbm_store.specs.Outside.{StoreState, with}
use Rattle.lbm_model.specs.Case.{FlowCase}
use Rattle.lbm_model.specs.State.{FlowState}
use Rattle.lbm_model.specs.Flow.{IsStateOf, reached, range}
use Rattle.lbm_model.specs.Small.{IsNarrow}
use Rattle.lbm_ckpt.specs.Ckpt.{ckpt}
use Rattle.lbm_vtk.specs.declared.Format.{Format}
use Rattle.lbm_vtk.specs.Vtk.{vtk, FitsInts}
use Rattle.lbm_words.specs.Request.{choice_view}
use Rattle.lbm_answer.specs.declared.job.Job.{Job as CodeJob}
use Rattle.lbm_answer.specs.declared.beginning.Beginning.{Beginning as CodeBeginning}
use Rattle.lbm_answer.specs.declared.left.Left.{Left}
use Rattle.lbm_answer.specs.declared.answer.File.{File}
use Rattle.lbm_answer.specs.declared.answer.File.TheVariants.{Checkpoint, Out, Save}
use Rattle.lbm_answer.specs.declared.answer.End.{End}
use Rattle.lbm_answer.specs.declared.answer.End.TheVariants.{TooLong, Cut, Checkpoint as BadCheckpoint, Past, Range, StoreFault, Memory}
use Rattle.lbm_answer.specs.declared.report.Report.TheVariants.{Run}
use Rattle.lbm_answer.specs.Faults.{FaultAt}
use Rattle.lbm_answer.specs.Reports.{printed_moments, run_report}
use Rattle.lbm_answer.specs.Outcome.{Job, Beginning, Written, OfFiles, HoldsFront, CutAt, CutShort, begun, bad_cut, run_from, written}

-- the bytes of a case file, and then those of a voxel file where there is one
abbrev pub told_by : List ℕ → Option (List ℕ) → List ℕ
told_by bytes None = bytes
told_by bytes (Some voxels) = bytes ++ voxels

abbrev pub job_bytes : CodeJob → List ℕ
job_bytes j = told_by j.bytes.now (option_map (λ voxels. voxels.now) j.voxels)

-- the run of a case as the code has it
abbrev pub job_view : FlowCase → CodeJob → Job
job_view case j = record {
  case = case;
  bytes = job_bytes j;
  steps = j.steps;
  out = j.out.now;
  cut = (choice_view j.choice).cut;
  resume = option_map (λ name. name.now) j.resume;
  save = option_map (λ name. name.now) j.save;
  format = j.format;
}

-- ---- its steps

-- the cutting of the rows, or why there is none
abbrev pub Cuts : Torus → Option (List ℕ) → Result (List ℕ) End → Type 0
Cuts t entries (Ok bounds) = (rows_of bounds ≡ rows t) × IsNone (bad_cut t entries)
Cuts t entries (Err (Cut k)) = bad_cut t entries ≡ Some k
Cuts t entries (Err Memory) = Unit {0}
Cuts t entries (Err end) = ⊥

-- where a run begins, as the code has it
abbrev pub beginning_view : CodeBeginning → Beginning
beginning_view b = record { state = b.state; time = b.time }

-- a state of the case, of no large populations, at a step that is not past the last one
pub record CanBegin (case : FlowCase) (steps : ℕ) (b : Beginning) : Type 0 where
  pub state : IsStateOf case b.state
  pub narrow : IsNarrow b.state
  pub ahead : b.time ≤ steps

-- where a run begins, or why it does not; where no read has failed, the store is as before
abbrev pub Begins : Job → StoreState → StoreState → Result CodeBeginning End → Type 0
Begins job before after (Ok b) = (after ≡ before) × CanBegin job.case job.steps (beginning_view b) × ForSome before.files (λ files. begun job files ≡ Ok (beginning_view b))
Begins job before after (Err Memory) = Unit {0}
Begins job before after (Err (StoreFault Checkpoint)) = (name : List ℕ) × (job.resume ≡ Some name) × FaultAt name before.read_faults after.read_faults
Begins job before after (Err (TooLong Checkpoint)) = (after ≡ before) × ForSome before.files (λ files. begun job files ≡ Err (TooLong Checkpoint))
Begins job before after (Err (BadCheckpoint fault)) = (after ≡ before) × ForSome before.files (λ files. begun job files ≡ Err (BadCheckpoint fault))
Begins job before after (Err (Past at to)) = (after ≡ before) × ForSome before.files (λ files. begun job files ≡ Err (Past at to))
Begins job before after (Err end) = ⊥

-- what the state that a run has reached leaves
pub record Leaves (case : FlowCase) (steps : ℕ) (begin : Beginning) (left : Left) : Type 0 where
  pub ends : run_from case steps begin ≡ reached left.state
  pub state : IsStateOf case left.state
  pub space : left.space ≡ case.torus
  pub moments : left.moments.items ≡ printed_moments case left.state
  pub report : Run left.report ≡ run_report case steps left.state

-- the end of a run, or why it has none
abbrev pub Finishes : FlowCase → ℕ → Beginning → Result Left End → Type 0
Finishes case steps begin (Ok left) = Leaves case steps begin left
Finishes case steps begin (Err (Range step cell)) = run_from case steps begin ≡ range step cell
Finishes case steps begin (Err Memory) = Unit {0}
Finishes case steps begin (Err end) = ⊥

-- a file of some use is written whole, and no write has failed, or why not
abbrev pub SavesFile : File → Written → StoreState → StoreState → Result (Unit {0}) End → Type 0
SavesFile kind file before after (Ok done) = (after.write_faults ≡ before.write_faults) × OfFiles before after (λ files now. now ≡ with files file.name (Some file.bytes))
SavesFile kind file before after (Err (StoreFault failed)) =
    (failed ≡ kind) × FaultAt file.name before.write_faults after.write_faults × OfFiles before after (λ files now. HoldsFront files file now)
SavesFile kind file before after (Err Memory) = OfFiles before after (λ files now. HoldsFront files file now)
SavesFile kind file before after (Err end) = ⊥

-- a fault of file number k was counted, and no other
abbrev pub NthFault : ℕ → List Written → StoreState → StoreState → Type 0
NthFault k [] before after = ⊥
NthFault zero (file ∷ rest) before after = FaultAt file.name before.write_faults after.write_faults
NthFault (suc k) (file ∷ rest) before after = NthFault k rest before after

-- the files of a run are written whole, in their order, and no write has failed, or why not; a fault is one of its first or its second file
abbrev pub SavesAll : List Written → StoreState → StoreState → Result (Unit {0}) End → Type 0
SavesAll files before after (Ok done) = (after.write_faults ≡ before.write_faults) × OfFiles before after (λ old now. now ≡ written files old)
SavesAll files before after (Err (StoreFault Out)) = NthFault 0 files before after × OfFiles before after (λ old now. CutAt 0 files old now)
SavesAll files before after (Err (StoreFault Save)) = NthFault 1 files before after × OfFiles before after (λ old now. CutAt 1 files old now)
SavesAll files before after (Err Memory) = OfFiles before after (λ old now. CutShort files old now)
SavesAll files before after (Err end) = ⊥

-- what is written of the last state
abbrev pub checkpoint_file : (bytes : List ℕ) → Left → Option (List ℕ) → List Written
checkpoint_file bytes left None = []
checkpoint_file bytes left (Some name) = record { name = name; bytes = ckpt (sha256 bytes) left.report.step left.space left.state } ∷ []

abbrev pub files_left : (bytes out : List ℕ) → Option (List ℕ) → Format → Left → List Written
files_left bytes out save format left = record { name = out; bytes = vtk left.space left.report.step left.moments.items format } ∷ checkpoint_file bytes left save

abbrev pub left_files : Job → Left → List Written
left_files job left = files_left job.bytes job.out job.save job.format left

-- there is a moment for each cell, whose numbers fit the file, and the state has as many cells
pub record IsLeft (left : Left) : Type 0 where
  pub moments : length left.moments.items ≡ cells left.space
  pub fits : All FitsInts left.moments.items
  pub numbers : length left.state.numbers ≡ cells left.space * left.state.directions

-- what a state of a case leaves after so many steps
pub record LeavesOf (case : FlowCase) (step : ℕ) (s : FlowState) (left : Left) : Type 0 where
  pub state : left.state ≡ s
  pub space : left.space ≡ case.torus
  pub moments : left.moments.items ≡ printed_moments case s
  pub report : Run left.report ≡ run_report case step s
