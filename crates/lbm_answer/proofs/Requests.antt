-- What may be decided for a request.
use Rattle.std.proofs.Common.{◌≡◌, ◌∙◌, ℕ, ◌++◌, List, Option, Some, None, Result, Ok, Err, inl, inr, refl, sym, ap, subst}
use Rattle.std.specs.Prelude.{IsOkAnd, MatchResult}
use Rattle.std.specs.Option.{ForSome}
use Rattle.lbm_store.specs.Outside.{Files, StoreState}
use Rattle.lbm_model.specs.State.{mass}
use Rattle.lbm_model.specs.Case.{FlowCase}
use Rattle.lbm_model.specs.Flow.{first}
use Rattle.lbm_case.specs.declared.fault.CaseEnd.{CaseEnd}
use Rattle.lbm_case.specs.declared.fault.CaseEnd.TheVariants as case_ends
use Rattle.lbm_case.specs.CaseOf.{case_of}
use Rattle.lbm_case.specs.Refusals.{Refuses as CaseRefuses}
use Rattle.lbm_words.specs.declared.end.WordsEnd.{WordsEnd}
use Rattle.lbm_words.specs.declared.end.WordsEnd.TheVariants as words_ends
use Rattle.lbm_words.specs.Ends.{Gives}
use Rattle.lbm_words.specs.Request.{Run, Check, Demo, Voxels, Tracer, Request, run, check, demo, voxels, tracer}
use Rattle.lbm_answer.specs.declared.answer.File.{File}
use Rattle.lbm_answer.specs.declared.answer.File.TheVariants.{CaseFile, Voxel, Checkpoint, Out, Save, Trace}
use Rattle.lbm_answer.specs.declared.answer.End.{End}
use Rattle.lbm_answer.specs.declared.answer.End.TheVariants.{Done, Usage, Case, TooLong, Voxel as BadVoxel, Cut, Spot, Checkpoint as BadCheckpoint, Past, Range, TracerRange, StoreFault, SinkFault, Memory}
use Rattle.lbm_answer.specs.declared.report.Report.{Report}
use Rattle.lbm_answer.specs.Causes.{case_end, words_end}
use Rattle.lbm_answer.specs.Files.{ReadsAs}
use Rattle.lbm_answer.specs.Reports.{check_report, mass_of}
use Rattle.lbm_answer.specs.Gen.{gen}
use Rattle.lbm_answer.specs.Outcome.{Job, CutAt, CutShort, case_read, voxels_read, demo_job, job_of, run_job, written}
use Rattle.lbm_answer.specs.Faults.{FaultAt, NamedFault}
use Rattle.lbm_answer.specs.Answer.{Asked, Decides, DecidesFor, Decision, KeepsTracer, asked_of, asked_of_job, asked_of_tracer, ready_of, ready_job, ready_voxels}
use Rattle.lbm_answer.proofs.Asked.{run-unread, check-unread, voxels-uncased, voxels-unread, tracer-unread, tracer-read, demo-refused, run-job, demo-job, voxels-job, outcome-job, keeps-job, check-read}
use Rattle.lbm_answer.proofs.Deciding.{for-memory}

-- over these files two are asked the same, and the second has the names of the first
record AsksSame (asked other : Asked) (files : Files) : Type 0 where
  outcome : other.outcome files ≡ asked.outcome files
  ready : (file : File) → asked.ready file files → other.ready file files
  keeps : (report : Report) → asked.keeps files report → other.keeps files report

abbrev HasNames : Asked → Asked → Type 0
HasNames asked other = (file : File) (before after : List ℕ → ℕ) → NamedFault before after (asked.name file) → NamedFault before after (other.name file)

-- then what is decided for the one is decided for the other
for-same : (asked other : Asked) (before after : StoreState) → ForSome before.files (AsksSame asked other) → HasNames asked other
    → (decision : Decision) → DecidesFor asked before after decision → DecidesFor other before after decision
for-same asked other before after same names (Ok report) d = (
  d.0,
  λ files told.
      let t = d.1 files told in
      let s = same files told in (
        t.0,
        t.1,
        (subst (λ o. IsOkAnd o (λ left. (left.report ≡ report) × (t.0 ≡ written left.files files))) (sym s.outcome) t.2.0, s.keeps report t.2.1),
      ),
)
for-same asked other before after same names (Err Memory) d = λ files told.
    let t = d files told in
    (t.0, t.1, subst (λ o. MatchResult o (λ left. CutShort left.files files t.0) (λ refused. t.0 ≡ files)) (sym (same files told).outcome) t.2)
for-same asked other before after same names (Err (StoreFault CaseFile)) d = ((names CaseFile _ _ d.0.0, d.0.1), d.1)
for-same asked other before after same names (Err (StoreFault Voxel)) d =
    ((names Voxel _ _ d.0.0, d.0.1), d.1, λ files told. (same files told).ready Voxel (d.2 files told))
for-same asked other before after same names (Err (StoreFault Checkpoint)) d =
    ((names Checkpoint _ _ d.0.0, d.0.1), d.1, λ files told. (same files told).ready Checkpoint (d.2 files told))
for-same asked other before after same names (Err (StoreFault Out)) d = (
  (names Out _ _ d.0.0, d.0.1),
  λ files told.
      let t = d.1 files told in
      (t.0, t.1, subst (λ o. IsOkAnd o (λ left. CutAt 0 left.files files t.0)) (sym (same files told).outcome) t.2),
)
for-same asked other before after same names (Err (StoreFault Save)) d = (
  (names Save _ _ d.0.0, d.0.1),
  λ files told.
      let t = d.1 files told in
      (t.0, t.1, subst (λ o. IsOkAnd o (λ left. CutAt 1 left.files files t.0)) (sym (same files told).outcome) t.2),
)
for-same asked other before after same names (Err (StoreFault Trace)) d = (
  (names Trace _ _ d.0.0, d.0.1),
  λ files told.
      let t = d.1 files told in
      (t.0, t.1, subst (λ o. IsOkAnd o (λ left. CutAt 1 left.files files t.0)) (sym (same files told).outcome) t.2),
)
for-same asked other before after same names (Err (Case fault)) d = (d.0, λ files told. (same files told).outcome ∙ d.1 files told)
for-same asked other before after same names (Err (TooLong file)) d = (d.0, λ files told. (same files told).outcome ∙ d.1 files told)
for-same asked other before after same names (Err (BadVoxel fault)) d = (d.0, λ files told. (same files told).outcome ∙ d.1 files told)
for-same asked other before after same names (Err (Cut k)) d = (d.0, λ files told. (same files told).outcome ∙ d.1 files told)
for-same asked other before after same names (Err (Spot cell)) d = (d.0, λ files told. (same files told).outcome ∙ d.1 files told)
for-same asked other before after same names (Err (BadCheckpoint fault)) d = (d.0, λ files told. (same files told).outcome ∙ d.1 files told)
for-same asked other before after same names (Err (Past at to)) d = (d.0, λ files told. (same files told).outcome ∙ d.1 files told)
for-same asked other before after same names (Err (Range step cell)) d = (d.0, λ files told. (same files told).outcome ∙ d.1 files told)
for-same asked other before after same names (Err (TracerRange step cell)) d = (d.0, λ files told. (same files told).outcome ∙ d.1 files told)
for-same asked other before after same names (Err Usage) d = absurd d
for-same asked other before after same names (Err Done) d = absurd d
for-same asked other before after same names (Err SinkFault) d = absurd d

-- ---- the files that are read first

-- a file that was not read, or whose bytes are refused
for-unread : {X Y : Type 0} (view : X → Y) (kind : File) (name : List ℕ) (reading : Files → Result Y End) (asked : Asked) (before after : StoreState)
    → ((files : Files) (refused : End) → before.files ≡ Some files → reading files ≡ Err refused → asked.outcome files ≡ Err refused)
    → (FaultAt name before.read_faults after.read_faults → DecidesFor asked before after (Err (StoreFault kind)))
    → after.files ≡ before.files
    → (end : End) → ReadsAs view kind name reading before after (Err end) → DecidesFor asked before after (Err end)
for-unread view kind name reading asked before after refuses fault same (TooLong file) read = (read.0, λ files told. refuses files _ told (read.1 files told))
for-unread view kind name reading asked before after refuses fault same (Case why) read = (read.0, λ files told. refuses files _ told (read.1 files told))
for-unread view kind name reading asked before after refuses fault same (BadVoxel why) read = (read.0, λ files told. refuses files _ told (read.1 files told))
for-unread view kind name reading asked before after refuses fault same (StoreFault failed) read =
    subst (λ (file : File). DecidesFor asked before after (Err (StoreFault file))) (sym read.0) (fault read.1)
for-unread view kind name reading asked before after refuses fault same Memory read = for-memory asked before after same
for-unread view kind name reading asked before after refuses fault same Done read = absurd read
for-unread view kind name reading asked before after refuses fault same Usage read = absurd read
for-unread view kind name reading asked before after refuses fault same (Cut k) read = absurd read
for-unread view kind name reading asked before after refuses fault same (Spot cell) read = absurd read
for-unread view kind name reading asked before after refuses fault same (BadCheckpoint why) read = absurd read
for-unread view kind name reading asked before after refuses fault same (Past at to) read = absurd read
for-unread view kind name reading asked before after refuses fault same (Range step cell) read = absurd read
for-unread view kind name reading asked before after refuses fault same (TracerRange step cell) read = absurd read
for-unread view kind name reading asked before after refuses fault same SinkFault read = absurd read

module _ {X : Type 0} (view : X → List ℕ × FlowCase) (before after : StoreState) (same : after.files ≡ before.files) (writes : after.write_faults ≡ before.write_faults) where
  -- the case file of a request
  case_unread : (name : List ℕ) (asked : Asked) → asked.name CaseFile ≡ Some name
      → ((files : Files) (refused : End) → case_read name files ≡ Err refused → asked.outcome files ≡ Err refused)
      → (end : End) → ReadsAs view CaseFile name (case_read name) before after (Err end) → DecidesFor asked before after (Err end)
  case_unread name asked named refuses =
      for-unread view CaseFile name (case_read name) asked before after (λ files refused told. refuses files refused)
      (λ rose. ((subst (λ (n : Option (List ℕ)). NamedFault before.read_faults after.read_faults n) (sym named) rose, writes), same))
      same

  pub for-unread_run : (r : Run) (end : End) → ReadsAs view CaseFile r.case (case_read r.case) before after (Err end) → DecidesFor (asked_of (run r)) before after (Err end)
  for-unread_run r = case_unread r.case (asked_of (run r)) refl (λ files refused is. run-unread files refused r is)

  pub for-unread_check : (c : Check) (end : End) → ReadsAs view CaseFile c.case (case_read c.case) before after (Err end) → DecidesFor (asked_of (check c)) before after (Err end)
  for-unread_check c = case_unread c.case (asked_of (check c)) refl (λ files refused is. check-unread files refused c is)

  pub for-uncased_voxels : (v : Voxels) (end : End) → ReadsAs view CaseFile v.run.case (case_read v.run.case) before after (Err end) → DecidesFor (asked_of (voxels v)) before after (Err end)
  for-uncased_voxels v = case_unread v.run.case (asked_of (voxels v)) refl (λ files refused is. voxels-uncased files refused v is)

  pub for-unread_tracer : (r : Tracer) (end : End) → ReadsAs view CaseFile r.case (case_read r.case) before after (Err end) → DecidesFor (asked_of (tracer r)) before after (Err end)
  for-unread_tracer r = case_unread r.case (asked_of (tracer r)) refl (λ files refused is. tracer-unread files refused r is)

  -- the voxel file, behind a case file that was read
  pub for-unread_voxels : (v : Voxels) (bytes : List ℕ) (case : FlowCase) → ForSome before.files (λ files. case_read v.run.case files ≡ Ok (bytes, case))
      → (end : End) → ReadsAs view Voxel v.file (voxels_read v.file case) before after (Err end) → DecidesFor (asked_of (voxels v)) before after (Err end)
  for-unread_voxels v bytes case read =
      for-unread view Voxel v.file (voxels_read v.file case) (asked_of (voxels v)) before after
      (λ files refused told is. voxels-unread files refused v bytes case (read files told) is)
      (λ rose. ((rose, writes), same, λ files told. rw (read files told) refl))
      same

-- the case that is generated
pub for-uncased_demo : (d : Demo) (before : StoreState) (end : CaseEnd) → CaseRefuses end (case_of (gen d.n)) → DecidesFor (asked_of (demo d)) before before (Err (case_end end))
for-uncased_demo d before (case_ends.Fault fault) is = (refl, λ files told. demo-refused files d fault is)
for-uncased_demo d before case_ends.Memory is = for-memory (asked_of (demo d)) before before refl

-- ---- a run that is asked for

for-job : (request : Request) (job : Job) (before after : StoreState) → ForSome before.files (λ files. job_of request files ≡ Ok job)
    → ForSome before.files (ready_voxels request) → HasNames (asked_of_job job) (asked_of request)
    → (decision : Decision) → DecidesFor (asked_of_job job) before after decision → DecidesFor (asked_of request) before after decision
for-job request job before after is_job ready names =
    for-same (asked_of_job job) (asked_of request) before after
    (λ files told. record {
      outcome = outcome-job files request job (is_job files told);
      ready = ready_for files told;
      keeps = λ report keeps. keeps-job files request job report (is_job files told) keeps;
    })
    names
  where
    ready_for : (files : Files) → before.files ≡ Some files → (file : File) → ready_job job file files → ready_of request file files
    ready_for files told Voxel is = ready files told
    ready_for files told Checkpoint is = rw (is_job files told) is
    ready_for files told CaseFile is = tt
    ready_for files told Out is = tt
    ready_for files told Save is = tt
    ready_for files told Trace is = tt

run_names : (r : Run) (case : FlowCase) (bytes : List ℕ) → HasNames (asked_of_job (run_job r case bytes)) (asked_of (run r))
run_names r case bytes CaseFile before after rose = absurd rose
run_names r case bytes Voxel before after rose = absurd rose
run_names r case bytes Checkpoint before after rose = rose
run_names r case bytes Out before after rose = rose
run_names r case bytes Save before after rose = rose
run_names r case bytes Trace before after rose = absurd rose

pub for-run : (r : Run) (bytes : List ℕ) (case : FlowCase) (before after : StoreState) → ForSome before.files (λ files. case_read r.case files ≡ Ok (bytes, case))
    → (decision : Decision) → DecidesFor (asked_of_job (run_job r case bytes)) before after decision → DecidesFor (asked_of (run r)) before after decision
for-run r bytes case before after read =
    for-job (run r) (run_job r case bytes) before after (λ files told. run-job files r bytes case (read files told)) (λ files told. tt) (run_names r case bytes)

demo_names : (d : Demo) (case : FlowCase) → HasNames (asked_of_job (demo_job d case)) (asked_of (demo d))
demo_names d case CaseFile before after rose = absurd rose
demo_names d case Voxel before after rose = absurd rose
demo_names d case Checkpoint before after rose = absurd rose
demo_names d case Out before after rose = rose
demo_names d case Save before after rose = rose
demo_names d case Trace before after rose = absurd rose

pub for-demo : (d : Demo) (case : FlowCase) (before after : StoreState) → case_of (gen d.n) ≡ Ok case
    → (decision : Decision) → DecidesFor (asked_of_job (demo_job d case)) before after decision → DecidesFor (asked_of (demo d)) before after decision
for-demo d case before after is =
    for-job (demo d) (demo_job d case) before after (λ files told. demo-job files d case is) (λ files told. tt) (demo_names d case)

voxel_names : (v : Voxels) (case : FlowCase) (bytes : List ℕ) → HasNames (asked_of_job (run_job v.run case bytes)) (asked_of (voxels v))
voxel_names v case bytes CaseFile before after rose = absurd rose
voxel_names v case bytes Voxel before after rose = absurd rose
voxel_names v case bytes Checkpoint before after rose = rose
voxel_names v case bytes Out before after rose = rose
voxel_names v case bytes Save before after rose = rose
voxel_names v case bytes Trace before after rose = absurd rose

pub for-voxels : (v : Voxels) (bytes voxel_bytes : List ℕ) (case shaped : FlowCase) (before after : StoreState)
    → ForSome before.files (λ files. case_read v.run.case files ≡ Ok (bytes, case)) → ForSome before.files (λ files. voxels_read v.file case files ≡ Ok (voxel_bytes, shaped))
    → (decision : Decision) → DecidesFor (asked_of_job (run_job v.run shaped (bytes ++ voxel_bytes))) before after decision → DecidesFor (asked_of (voxels v)) before after decision
for-voxels v bytes voxel_bytes case shaped before after read shape =
    for-job (voxels v) (run_job v.run shaped (bytes ++ voxel_bytes)) before after
    (λ files told. voxels-job files v bytes voxel_bytes case shaped (read files told) (shape files told))
    (λ files told. rw (read files told) refl)
    (voxel_names v shaped (bytes ++ voxel_bytes))

-- ---- a run with a tracer

tracer_names : (r : Tracer) (case : FlowCase) → HasNames (asked_of_tracer r case) (asked_of (tracer r))
tracer_names r case CaseFile before after rose = absurd rose
tracer_names r case Voxel before after rose = absurd rose
tracer_names r case Checkpoint before after rose = absurd rose
tracer_names r case Out before after rose = rose
tracer_names r case Save before after rose = absurd rose
tracer_names r case Trace before after rose = rose

pub for-tracer : (r : Tracer) (bytes : List ℕ) (case : FlowCase) (before after : StoreState) → ForSome before.files (λ files. case_read r.case files ≡ Ok (bytes, case))
    → (decision : Decision) → DecidesFor (asked_of_tracer r case) before after decision → DecidesFor (asked_of (tracer r)) before after decision
for-tracer r bytes case before after read =
    for-same (asked_of_tracer r case) (asked_of (tracer r)) before after
    (λ files told. record {
      outcome = tracer-read files r bytes case (read files told);
      ready = λ file none. absurd none;
      keeps = λ report keeps. subst (λ (o : Result (List ℕ × FlowCase) End). IsOkAnd o (λ found. KeepsTracer r found.1 report)) (sym (read files told)) keeps;
    })
    (tracer_names r case)

-- ---- a check

pub for-checked : (c : Check) (bytes : List ℕ) (case : FlowCase) (before after : StoreState) → ForSome before.files (λ files. case_read c.case files ≡ Ok (bytes, case))
    → after ≡ before → (report : Report) → report ≡ check_report case → DecidesFor (asked_of (check c)) before after (Ok report)
for-checked c bytes case before after read same report reports = (
  record { reads = ap (λ (s : StoreState). s.read_faults) same; writes = ap (λ (s : StoreState). s.write_faults) same },
  λ files told. (
    files,
    ap (λ (s : StoreState). s.files) same ∙ told,
    (
      subst (λ o. IsOkAnd o (λ left. (left.report ≡ report) × (files ≡ written left.files files))) (sym (check-read files c bytes case (read files told))) (sym reports, refl),
      subst (λ (o : Result (List ℕ × FlowCase) End). IsOkAnd o (λ found. mass_of report ≡ mass (first found.1))) (sym (read files told)) (ap mass_of reports),
    ),
  ),
)

-- ---- words

-- words that ask for nothing, or want of memory while they were read
pub for-words : {X : Type 0} (view : X → Request) (asked : Option Request) (before : StoreState) (end : WordsEnd) → Gives view (Err end) asked → Decides asked before before (Err (words_end end))
for-words view asked before words_ends.Usage none = rw (none) (refl, inl refl)
for-words view (Some request) before words_ends.Memory read = for-memory (asked_of request) before before refl
for-words view None before words_ends.Memory read = (refl, inr refl)
