-- What a request comes to, over files whose bytes are known. No pattern, worker or piece is known here.
use Rattle.std.specs.Prelude.{◌≡◌, ◌⊎◌, ℕ, zero, suc, ◌-◌, List, [], ◌∷◌, ◌++◌, length, Bool, not, ◌&&◌, nat_le, nat_lt, slice_index, Option, Some, None, Result, Ok, Err}
use Rattle.std.specs.Option.{ForSome}
use Rattle.sha2.specs.Sha256.{sha256}
use Rattle.lbm_space.specs.Torus.{Torus, cells, rows}
use Rattle.lbm_space.specs.Cuttings.{row_before}
use Rattle.lbm_store.specs.Outside.{Files, StoreState, with, content, SomeFront}
use Rattle.lbm_model.specs.Refusals.{◌>>=◌, demand}
use Rattle.lbm_model.specs.State.{FlowState}
use Rattle.lbm_model.specs.Case.{FlowCase, is_solid}
use Rattle.lbm_cell.specs.Least.{least_failing}
use Rattle.lbm_model.specs.Flow.{RunEnd, reached, range, first, run as flow_run}
use Rattle.lbm_case.specs.declared.fault.CaseFault.{CaseFault}
use Rattle.lbm_case.specs.CaseOf.{case_of}
use Rattle.lbm_ckpt.specs.declared.fault.CkptFault.{CkptFault}
use Rattle.lbm_ckpt.specs.Ckpt.{ckpt, ckpt_size, checkpoint_of}
use Rattle.lbm_vtk.specs.declared.Format.{Format}
use Rattle.lbm_vtk.specs.Vtk.{vtk}
use Rattle.lbm_voxel.specs.declared.fault.VoxelFault.{VoxelFault}
use Rattle.lbm_voxel.specs.Voxels.{voxels_of}
use Rattle.lbm_tracer.specs.Tracing.{TracerRun, reached as both_reached, range as flow_range, tracer_range, tracer_first, tracer_run}
use Rattle.lbm_tracer.specs.Trace.{trace}
use Rattle.lbm_words.specs.Request.{Request, Run, Demo, Tracer, run, check, demo, voxels, tracer}
use Rattle.lbm_answer.specs.declared.answer.End.{End}
use Rattle.lbm_answer.specs.declared.answer.End.TheVariants.{Usage, Case, TooLong, Voxel as BadVoxel, Cut, Spot, Checkpoint as BadCheckpoint, Past, Range, TracerRange}
use Rattle.lbm_answer.specs.declared.answer.File.{File}
use Rattle.lbm_answer.specs.declared.answer.File.TheVariants.{CaseFile, Voxel, Checkpoint}
use Rattle.lbm_answer.specs.declared.report.Report.{Report}
use Rattle.lbm_answer.specs.Gen.{gen}
use Rattle.lbm_answer.specs.Reports.{printed_moments, printed_amounts, run_report, check_report, tracer_report}

-- a file that is written: its name, and all its bytes
pub record Written : Type 0 where
  pub name : List ℕ
  pub bytes : List ℕ

-- what a call that nothing stops leaves: the files that it writes, in their order, and its report
pub record Finished : Type 0 where
  pub files : List Written
  pub report : Report

-- a run: its case, the bytes of the files that tell it, and what is asked of it
pub record Job : Type 0 where
  pub case : FlowCase
  pub bytes : List ℕ
  pub steps : ℕ
  pub out : List ℕ
  pub cut : Option (List ℕ)
  pub resume : Option (List ℕ)
  pub save : Option (List ℕ)
  pub format : Format

-- ---- the case

-- the greatest lengths of a case file and of a voxel file, in bytes
abbrev pub case_limit : ℕ
case_limit = 33554432

abbrev pub voxel_limit : ℕ
voxel_limit = 268435456

-- the bytes of a file of some use, of which there are at most so many
abbrev pub bytes_within : File → ℕ → List ℕ → Files → Result (List ℕ) End
bytes_within kind limit name files = do
  short ← demand (nat_le (length (content files name)) limit) (TooLong kind)
  Ok (content files name)

-- the case that bytes spell
abbrev pub spelled : Result FlowCase CaseFault → Result FlowCase End
spelled (Ok case) = Ok case
spelled (Err fault) = Err (Case fault)

-- the bytes of a case file, and the case that they spell
unfoldable pub case_read : List ℕ → Files → Result (List ℕ × FlowCase) End
case_read name files = do
  bytes ← bytes_within CaseFile case_limit name files
  case ← spelled (case_of bytes)
  Ok (bytes, case)

-- the case that a voxel file makes of another
abbrev pub made : Result FlowCase VoxelFault → Result FlowCase End
made (Ok case) = Ok case
made (Err fault) = Err (BadVoxel fault)

-- the bytes of a voxel file, and the case that they make of another
unfoldable pub voxels_read : List ℕ → FlowCase → Files → Result (List ℕ × FlowCase) End
voxels_read name case files = do
  bytes ← bytes_within Voxel voxel_limit name files
  shaped ← made (voxels_of bytes case)
  Ok (bytes, shaped)

-- ---- the run that is asked for

abbrev pub run_job : Run → FlowCase → List ℕ → Job
run_job r case bytes = record { case = case; bytes = bytes; steps = r.steps; out = r.out; cut = r.choice.cut; resume = r.resume; save = r.save; format = r.format }

abbrev pub demo_job : Demo → FlowCase → Job
demo_job d case = record { case = case; bytes = gen d.n; steps = d.steps; out = d.out; cut = d.choice.cut; resume = None; save = d.save; format = d.format }

-- The run of a request, where its case is not refused. In the geometry of a voxel file it is told by the bytes of the case
-- file and then by those of the voxel file. A check asks for none, and a run with a tracer has an outcome of its own.
unfoldable pub job_of : Request → Files → Result Job End
job_of (run r) files = do
  read ← case_read r.case files
  Ok (run_job r read.1 read.0)
job_of (check c) files = Err Usage
job_of (tracer r) files = Err Usage
job_of (demo d) files = do
  case ← spelled (case_of (gen d.n))
  Ok (demo_job d case)
job_of (voxels v) files = do
  read ← case_read v.run.case files
  shape ← voxels_read v.file read.1 files
  Ok (run_job v.run shape.1 (read.0 ++ shape.0))

-- ---- the cutting

-- an entry is above the one before it, and is a row
abbrev pub is_good_cut : ℕ → List ℕ → ℕ → Bool
is_good_cut row_count entries k = nat_lt (row_before entries k) (slice_index entries k) && nat_lt (slice_index entries k) row_count

-- the first entry that is not so
abbrev pub bad_cut : Torus → Option (List ℕ) → Option ℕ
bad_cut t None = None
bad_cut t (Some entries) = least_failing (length entries) (is_good_cut (rows t) entries)

abbrev pub uncut : Option ℕ → Result (Unit {0}) End
uncut None = Ok tt
uncut (Some k) = Err (Cut k)

-- the cutting of a run is not refused
abbrev pub admitted : Job → Result (Unit {0}) End
admitted job = uncut (bad_cut job.case.torus job.cut)

-- ---- where a run begins

pub record Beginning : Type 0 where
  pub state : FlowState
  pub time : ℕ

-- the step and the state of a checkpoint
abbrev pub saved : Result (ℕ × FlowState) CkptFault → Result Beginning End
saved (Ok found) = Ok (record { state = found.1; time = found.0 })
saved (Err fault) = Err (BadCheckpoint fault)

-- the beginning in a checkpoint of these bytes
unfoldable pub resumed : Job → List ℕ → Result Beginning End
resumed job bytes = do
  short ← demand (nat_le (length bytes) (ckpt_size job.case.torus job.case.stencil.directions)) (TooLong Checkpoint)
  begin ← saved (checkpoint_of (sha256 job.bytes) job.case.torus job.case.stencil.directions bytes)
  ahead ← demand (nat_le begin.time job.steps) (Past begin.time job.steps)
  Ok begin

-- the first state, or that of a checkpoint, which is taken as it is
abbrev pub begun_at : Job → Files → Option (List ℕ) → Result Beginning End
begun_at job files None = Ok (record { state = first job.case; time = 0 })
begun_at job files (Some name) = resumed job (content files name)

abbrev pub begun : Job → Files → Result Beginning End
begun job files = begun_at job files job.resume

-- ---- how it ends

-- the VTK file of a state
abbrev pub vtk_of : FlowCase → ℕ → FlowState → Format → List ℕ
vtk_of case step s format = vtk case.torus step (printed_moments case s) format

-- the checkpoint of a state, where one is asked for
abbrev pub saved_files : Job → FlowState → Option (List ℕ) → List Written
saved_files job s None = []
saved_files job s (Some name) = record { name = name; bytes = ckpt (sha256 job.bytes) job.steps job.case.torus s } ∷ []

-- what a state leaves that the run has reached
abbrev pub finished : Job → FlowState → Finished
finished job s = record {
  files = record { name = job.out; bytes = vtk_of job.case job.steps s job.format } ∷ saved_files job s job.save;
  report = run_report job.case job.steps s;
}

-- what the end of a run comes to
abbrev pub concluded : Job → RunEnd → Result Finished End
concluded job (reached s) = Ok (finished job s)
concluded job (range step cell) = Err (Range step cell)

-- the run from there to the last step
abbrev pub run_from : FlowCase → ℕ → Beginning → RunEnd
run_from case steps begin = flow_run case begin.state begin.time (steps - begin.time)

-- what a run comes to
unfoldable pub job_outcome : Job → Files → Result Finished End
job_outcome job files = do
  whole ← admitted job
  begin ← begun job files
  concluded job (run_from job.case job.steps begin)

-- what a check comes to
abbrev pub checked : FlowCase → Finished
checked case = record { files = []; report = check_report case }

-- ---- a run with a tracer

-- whether a tracer may begin here: in a fluid cell
abbrev pub is_spot : FlowCase → ℕ → Bool
is_spot case cell = nat_lt cell (cells case.torus) && not (is_solid case cell)

-- what the states leave that the flow and its tracer have reached
abbrev pub traced_files : Tracer → FlowCase → (flow tracer : FlowState) → List Written
traced_files r case s g =
    record { name = r.out; bytes = vtk_of case r.steps s r.format }
    ∷ record { name = r.trace; bytes = trace case.torus r.steps (printed_amounts case g) }
    ∷ []

-- what the end of the run comes to
abbrev pub traced : Tracer → FlowCase → TracerRun → Result Finished End
traced r case (both_reached s g) = Ok (record { files = traced_files r case s g; report = tracer_report r.steps s g })
traced r case (flow_range step cell) = Err (Range step cell)
traced r case (tracer_range step cell) = Err (TracerRange step cell)

-- the run of the flow and its tracer from their first states
abbrev pub traced_run : Tracer → FlowCase → TracerRun
traced_run r case = tracer_run case r.rates (first case) (tracer_first case.torus r.amount r.cell) 0 r.steps

-- what a run of a case with a tracer comes to
unfoldable pub tracer_outcome : Tracer → FlowCase → Result Finished End
tracer_outcome r case = do
  whole ← uncut (bad_cut case.torus r.choice.cut)
  fluid ← demand (is_spot case r.cell) (Spot r.cell)
  traced r case (traced_run r case)

-- ---- a request

-- The first refusal that applies, or what is left.
unfoldable pub outcome : Request → Files → Result Finished End
outcome (check c) files = do
  read ← case_read c.case files
  Ok (checked read.1)
outcome (tracer r) files = do
  read ← case_read r.case files
  tracer_outcome r read.1
outcome request files = do
  job ← job_of request files
  job_outcome job files

-- ---- the files

-- P holds of the files before and those after, where the store tells them
abbrev pub OfFiles : StoreState → StoreState → (Files → Files → Type 0) → Type 0
OfFiles before after P = ForSome before.files (λ files. (now : Files) × (after.files ≡ Some now) × P files now)

-- the files, with these written
abbrev pub written : List Written → Files → Files
written [] files = files
written (file ∷ rest) files = written rest (with files file.name (Some file.bytes))

-- the name holds its old bytes or a front of the new ones, and all other names are as before
pub record HoldsFront (before : Files) (file : Written) (after : Files) : Type 0 where
  pub front : (content after file.name ≡ content before file.name) ⊎ SomeFront file.bytes (λ front. content after file.name ≡ front)
  pub others : with after file.name None ≡ with before file.name None

-- the first k of these files are written, the next one holds its old bytes or a front of its new ones, and the others are as before
abbrev pub CutAt : ℕ → List Written → Files → Files → Type 0
CutAt k [] before after = ⊥
CutAt zero (file ∷ rest) before after = HoldsFront before file after
CutAt (suc k) (file ∷ rest) before after = CutAt k rest (with before file.name (Some file.bytes)) after

-- the writing was cut short at one of the files, or behind the last of them
abbrev pub CutShort : List Written → Files → Files → Type 0
CutShort files before after = (after ≡ written files before) ⊎ ((k : ℕ) × CutAt k files before after)
