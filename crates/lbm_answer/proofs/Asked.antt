-- What a run and a request come to, a step at a time.
use Rattle.std.proofs.Common.{◌≡◌, true, false, ℕ, ◌<◌, ◌≤◌, ◌++◌, List, length, Ok, Err, refl, sym}
use Rattle.std.specs.Prelude.{pos, ◌+ℤ◌, ◌*ℤ◌, ◌-◌}
use Rattle.std.proofs.lemmas.Bool.{le-leb, lt-leb}
use Rattle.lbm_store.specs.Outside.{Files, content}
use Rattle.lbm_model.specs.State.{mass}
use Rattle.lbm_model.specs.Case.{FlowCase, all_gain}
use Rattle.lbm_case.specs.declared.fault.CaseFault.{CaseFault}
use Rattle.lbm_case.specs.CaseOf.{case_of}
use Rattle.lbm_voxel.specs.declared.fault.VoxelFault.{VoxelFault}
use Rattle.lbm_voxel.specs.Voxels.{voxels_of}
use Rattle.lbm_words.specs.Request.{Run, Check, Demo, Voxels, Tracer, Request, run, check, demo, voxels, tracer}
use Rattle.lbm_answer.specs.declared.answer.File.{File}
use Rattle.lbm_answer.specs.declared.answer.File.TheVariants.{CaseFile, Voxel}
use Rattle.lbm_answer.specs.declared.answer.End.{End}
use Rattle.lbm_answer.specs.declared.answer.End.TheVariants.{Case, TooLong, Voxel as BadVoxel, Spot}
use Rattle.lbm_answer.specs.declared.report.Report.{Report}
use Rattle.lbm_answer.specs.Reports.{mass_of, momentum_of}
use Rattle.lbm_answer.specs.Drift.{IsWithinDrift}
use Rattle.lbm_answer.specs.Gen.{gen}
use Rattle.lbm_answer.specs.Outcome.{Job, Beginning, admitted, begun, bytes_within, case_limit, voxel_limit, bad_cut, case_read, voxels_read, checked, concluded, demo_job, is_spot, job_of, job_outcome, outcome, run_from, run_job, traced, traced_run, tracer_outcome, uncut}
use Rattle.lbm_answer.specs.Answer.{KeepsLaws, keeps_of}

-- ---- a run

module _ (job : Job) (files : Files) where
  -- a run that is refused before it begins
  pub job_outcome-refused : (refused : End) → admitted job ≡ Err refused → job_outcome job files ≡ Err refused
  unfolding job_outcome
  job_outcome-refused refused is = rw (is) refl

  module _ (is : admitted job ≡ Ok tt) where
    -- one that does not begin
    pub job_outcome-unbegun : (refused : End) → begun job files ≡ Err refused → job_outcome job files ≡ Err refused
    unfolding job_outcome
    job_outcome-unbegun refused begins = rw (is, begins) refl

    -- one that begins
    pub job_outcome-begun : (begin : Beginning) → begun job files ≡ Ok begin → job_outcome job files ≡ concluded job (run_from job.case job.steps begin)
    unfolding job_outcome
    job_outcome-begun begin begins = rw (is, begins) refl

  -- the laws that its report keeps
  pub keeps-begun : (begin : Beginning) (report : Report) → begun job files ≡ Ok begin
      → mass_of report ≡ mass begin.state +ℤ (pos (job.steps - begin.time) *ℤ all_gain job.case)
      → IsWithinDrift job.case begin.state (job.steps - begin.time) (momentum_of report) → KeepsLaws job files report
  keeps-begun begin report begins law drift = rw begins (law, drift)

-- ---- the files that are read first

module _ (kind : File) (limit : ℕ) (name : List ℕ) (files : Files) where
  pub bytes_within-long : limit < length (content files name) → bytes_within kind limit name files ≡ Err (TooLong kind)
  bytes_within-long long = rw (lt-leb _ _ long) refl

  pub bytes_within-whole : (bytes : List ℕ) → length bytes ≤ limit → bytes ≡ content files name → bytes_within kind limit name files ≡ Ok bytes
  bytes_within-whole bytes short whole = rw (sym whole, le-leb _ _ short) refl

module _ (name : List ℕ) (files : Files) where
  pub case_read-unread : (refused : End) → bytes_within CaseFile case_limit name files ≡ Err refused → case_read name files ≡ Err refused
  unfolding case_read
  case_read-unread refused is = rw is refl

  module _ (bytes : List ℕ) (read : bytes_within CaseFile case_limit name files ≡ Ok bytes) where
    pub case_read-refused : (fault : CaseFault) → case_of bytes ≡ Err fault → case_read name files ≡ Err (Case fault)
    unfolding case_read
    case_read-refused fault is = rw (read, is) refl

    pub case_read-case : (case : FlowCase) → case_of bytes ≡ Ok case → case_read name files ≡ Ok (bytes, case)
    unfolding case_read
    case_read-case case is = rw (read, is) refl

  module _ (case : FlowCase) where
    pub voxels_read-unread : (refused : End) → bytes_within Voxel voxel_limit name files ≡ Err refused → voxels_read name case files ≡ Err refused
    unfolding voxels_read
    voxels_read-unread refused is = rw is refl

    module _ (bytes : List ℕ) (read : bytes_within Voxel voxel_limit name files ≡ Ok bytes) where
      pub voxels_read-refused : (fault : VoxelFault) → voxels_of bytes case ≡ Err fault → voxels_read name case files ≡ Err (BadVoxel fault)
      unfolding voxels_read
      voxels_read-refused fault is = rw (read, is) refl

      pub voxels_read-case : (shaped : FlowCase) → voxels_of bytes case ≡ Ok shaped → voxels_read name case files ≡ Ok (bytes, shaped)
      unfolding voxels_read
      voxels_read-case shaped is = rw (read, is) refl

-- ---- a run with a tracer

module _ (r : Tracer) (case : FlowCase) where
  -- one whose cutting is refused
  pub tracer_outcome-refused : (refused : End) → uncut (bad_cut case.torus r.choice.cut) ≡ Err refused → tracer_outcome r case ≡ Err refused
  unfolding tracer_outcome
  tracer_outcome-refused refused is = rw is refl

  module _ (is : uncut (bad_cut case.torus r.choice.cut) ≡ Ok tt) where
    -- one whose tracer has no place to begin
    pub tracer_outcome-unplaced : is_spot case r.cell ≡ false → tracer_outcome r case ≡ Err (Spot r.cell)
    unfolding tracer_outcome
    tracer_outcome-unplaced none = rw (is, none) refl

    -- one that begins
    pub tracer_outcome-begun : is_spot case r.cell ≡ true → tracer_outcome r case ≡ traced r case (traced_run r case)
    unfolding tracer_outcome
    tracer_outcome-begun fluid = rw (is, fluid) refl

-- ---- a request

-- a request that is refused before its run is known
module _ (files : Files) (refused : End) where
  pub run-unread : (r : Run) → case_read r.case files ≡ Err refused → outcome (run r) files ≡ Err refused
  unfolding outcome job_of
  run-unread r is = rw is refl

  pub check-unread : (c : Check) → case_read c.case files ≡ Err refused → outcome (check c) files ≡ Err refused
  unfolding outcome
  check-unread c is = rw is refl

  pub voxels-uncased : (v : Voxels) → case_read v.run.case files ≡ Err refused → outcome (voxels v) files ≡ Err refused
  unfolding outcome job_of
  voxels-uncased v is = rw is refl

  pub voxels-unread : (v : Voxels) (bytes : List ℕ) (case : FlowCase) → case_read v.run.case files ≡ Ok (bytes, case)
      → voxels_read v.file case files ≡ Err refused → outcome (voxels v) files ≡ Err refused
  unfolding outcome job_of
  voxels-unread v bytes case read is = rw (read, is) refl

  pub tracer-unread : (r : Tracer) → case_read r.case files ≡ Err refused → outcome (tracer r) files ≡ Err refused
  unfolding outcome
  tracer-unread r is = rw is refl

pub demo-refused : (files : Files) (d : Demo) (fault : CaseFault) → case_of (gen d.n) ≡ Err fault → outcome (demo d) files ≡ Err (Case fault)
unfolding outcome job_of
demo-refused files d fault is = rw is refl

-- the run of a request
module _ (files : Files) where
  pub run-job : (r : Run) (bytes : List ℕ) (case : FlowCase) → case_read r.case files ≡ Ok (bytes, case) → job_of (run r) files ≡ Ok (run_job r case bytes)
  unfolding job_of
  run-job r bytes case is = rw is refl

  pub demo-job : (d : Demo) (case : FlowCase) → case_of (gen d.n) ≡ Ok case → job_of (demo d) files ≡ Ok (demo_job d case)
  unfolding job_of
  demo-job d case is = rw is refl

  pub voxels-job : (v : Voxels) (bytes voxels_bytes : List ℕ) (case shaped : FlowCase) → case_read v.run.case files ≡ Ok (bytes, case)
      → voxels_read v.file case files ≡ Ok (voxels_bytes, shaped) → job_of (voxels v) files ≡ Ok (run_job v.run shaped (bytes ++ voxels_bytes))
  unfolding job_of
  voxels-job v bytes voxels_bytes case shaped read is = rw (read, is) refl

  pub outcome-job : (request : Request) (job : Job) → job_of request files ≡ Ok job → outcome request files ≡ job_outcome job files
  unfolding outcome job_of
  outcome-job (run r) job is = rw is refl
  outcome-job (check c) job is = absurd cc
  outcome-job (demo d) job is = rw is refl
  outcome-job (voxels v) job is = rw is refl
  outcome-job (tracer r) job is = absurd cc

  pub keeps-job : (request : Request) (job : Job) (report : Report) → job_of request files ≡ Ok job → KeepsLaws job files report → keeps_of request files report
  unfolding job_of
  keeps-job (run r) job report is keeps = rw is keeps
  keeps-job (check c) job report is keeps = absurd cc
  keeps-job (demo d) job report is keeps = rw is keeps
  keeps-job (voxels v) job report is keeps = rw is keeps
  keeps-job (tracer r) job report is keeps = absurd cc

  pub tracer-read : (r : Tracer) (bytes : List ℕ) (case : FlowCase) → case_read r.case files ≡ Ok (bytes, case) → outcome (tracer r) files ≡ tracer_outcome r case
  unfolding outcome
  tracer-read r bytes case is = rw is refl

  pub check-read : (c : Check) (bytes : List ℕ) (case : FlowCase) → case_read c.case files ≡ Ok (bytes, case) → outcome (check c) files ≡ Ok (checked case)
  unfolding outcome
  check-read c bytes case is = rw is refl
