-- What holds of every run.
use Rattle.std.specs.Prelude.{◌≡◌, ◌⊎◌, ℕ, ◌≤◌, List, take, Option, Some, None, Ok, IsOkAnd, ℤ, pos, ◌+ℤ◌, ◌*ℤ◌}
use Rattle.sha2.specs.Sha256.{sha256}
use Rattle.lbm_store.specs.Outside.{Files, content}
use Rattle.lbm_model.specs.Limits.{most_steps}
use Rattle.lbm_model.specs.Case.{FlowCase, IsCase, all_gain}
use Rattle.lbm_model.specs.State.{FlowState, mass}
use Rattle.lbm_model.specs.Flow.{first, reached, run as flow_run}
use Rattle.lbm_ckpt.specs.Ckpt.{ckpt, ckpt_1}
use Rattle.lbm_words.specs.Request.{Request, Run, Tracer, IsRequest, run, check, demo, voxels, tracer}
use Rattle.lbm_answer.specs.Reports.{mass_of, tracer_of}
use Rattle.lbm_answer.specs.Outcome.{Finished, Job, job_of, job_outcome, outcome, written}

-- These bytes are a checkpoint, of either version, of a run's case: of the state that the run from the first state reaches at a
-- step up to the last one.
pub record IsOnTheWay (job : Job) (bytes : List ℕ) : Type 0 where
  pub step : ℕ
  pub ahead : step ≤ job.steps
  pub state : FlowState
  pub is_reached : flow_run job.case (first job.case) 0 step ≡ reached state
  pub kept : (bytes ≡ ckpt (sha256 job.bytes) step job.case.torus state) ⊎ (bytes ≡ ckpt_1 (sha256 job.bytes) step job.case.torus state)

-- a run that goes on from such a checkpoint comes to what the whole run comes to
abbrev pub ResumeLaw : Type 0
ResumeLaw = (job : Job) (files : Files) (name : List ℕ) → IsCase job.case → job.steps ≤ most_steps → IsOnTheWay job (content files name)
    → job_outcome (record job { resume = Some name }) files ≡ job_outcome (record job { resume = None }) files

-- a request for a run, or for one in the geometry of a voxel file, that goes on from this checkpoint or from none
abbrev pub resuming : Option (List ℕ) → Request → Request
resuming resume (run r) = run (record r { resume = resume })
resuming resume (check c) = check c
resuming resume (demo d) = demo d
resuming resume (voxels v) = voxels (record v { run = record v.run { resume = resume } })
resuming resume (tracer r) = tracer r

-- and so it is with what is asked for in words
abbrev pub ResumedRequest : Type 0
ResumedRequest = (request : Request) (files : Files) (name : List ℕ) → IsRequest request
    → ((job : Job) → job_of request files ≡ Ok job → IsOnTheWay job (content files name))
    → outcome (resuming (Some name) request) files ≡ outcome (resuming None request) files

-- the mass of the first state, and what the walls give in each of so many steps
abbrev pub whole_mass : FlowCase → ℕ → ℤ
whole_mass case steps = mass (first case) +ℤ (pos steps *ℤ all_gain case)

-- that is the mass which a run reports that goes on from such a checkpoint and is finished
abbrev pub ResumedMass : Type 0
ResumedMass = (job : Job) (files : Files) (name : List ℕ) (left : Finished) → IsCase job.case → job.steps ≤ most_steps
    → IsOnTheWay job (content files name) → job_outcome (record job { resume = Some name }) files ≡ Ok left
    → mass_of left.report ≡ whole_mass job.case job.steps

abbrev pub RequestedMass : Type 0
RequestedMass = (request : Request) (files : Files) (name : List ℕ) (job : Job) (left : Finished) → IsRequest request → job_of request files ≡ Ok job
    → IsOnTheWay job (content files name) → outcome (resuming (Some name) request) files ≡ Ok left
    → mass_of left.report ≡ whole_mass job.case job.steps

-- A run that has saved its last state leaves files from which a run of the same case to that step or a later one may go
-- on: it comes to what the whole run comes to.
abbrev pub SaveLaw : Type 0
SaveLaw = (early late : Job) (files : Files) (name : List ℕ) (left : Finished)
    → IsCase early.case → early.case ≡ late.case → early.bytes ≡ late.bytes → early.steps ≤ late.steps → late.steps ≤ most_steps
    → job_outcome (record early { resume = None; save = Some name }) files ≡ Ok left
    → job_outcome (record late { resume = Some name }) (written left.files files) ≡ job_outcome (record late { resume = None }) files

-- ---- runs with a tracer

-- the run of the flow alone
abbrev pub flow_of : Tracer → Run
flow_of r = record { case = r.case; steps = r.steps; out = r.out; choice = r.choice; resume = None; save = None; format = r.format }

-- the tracer leaves the flow as it is: a run with a tracer that is finished has written of the flow what the run of the flow alone writes,
-- and reports the same mass
abbrev pub TracerIsPassive : Type 0
TracerIsPassive = (r : Tracer) (files : Files) (left : Finished) → outcome (tracer r) files ≡ Ok left
    → IsOkAnd (outcome (run (flow_of r)) files) (λ flow. (take 1 left.files ≡ flow.files) × (mass_of left.report ≡ mass_of flow.report))

-- nothing of the tracer is lost: such a run reports all of it
abbrev pub TracerTotal : Type 0
TracerTotal = (r : Tracer) (files : Files) (left : Finished) → outcome (tracer r) files ≡ Ok left → tracer_of left.report ≡ pos r.amount
