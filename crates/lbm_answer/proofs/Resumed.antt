-- Runs that go on from a checkpoint.
use Rattle.std.proofs.Common.{◌≡◌, ◌∙◌, ◌⊎◌, inl, inr, ℕ, zero, suc, ◌+◌, ◌-◌, ◌*◌, ◌≤◌, ◌++◌, List, length, Option, Some, None, Result, Ok, Err, refl, sym, ap, subst, arith}
use Rattle.std.proofs.lemmas.Bool.{le-leb}
use Rattle.std.proofs.Math.Nat.{mul_comm}
use Rattle.sha2.specs.Sha256.{sha256}
use Rattle.lbm_space.specs.Torus.{cells}
use Rattle.lbm_store.specs.Outside.{Files, content, with}
use Rattle.lbm_store.proofs.Files.{content-with}
use Rattle.lbm_model.specs.Case.{FlowCase, IsCase}
use Rattle.lbm_model.specs.State.{FlowState}
use Rattle.lbm_model.specs.Flow.{IsStateOf, RunEnd, reached, range, first, next, out_of_limits, run as run_flow}
use Rattle.lbm_model.specs.Laws.{IsFlow}
use Rattle.lbm_model.proofs.Mass.{goes_on, mass-run}
use Rattle.lbm_model.proofs.SmallStates.{narrow-first, narrow-reached, small-narrow, small-run}
use Rattle.lbm_case.specs.CaseOf.{case_of}
use Rattle.lbm_case.specs.declared.fault.CaseFault.{CaseFault}
use Rattle.lbm_case.proofs.Spelled.{spells-cases}
use Rattle.lbm_voxel.specs.declared.fault.VoxelFault.{VoxelFault}
use Rattle.lbm_voxel.specs.Voxels.{voxels_of}
use Rattle.lbm_voxel.proofs.MadeCases.{passed, makes-cases}
use Rattle.lbm_words.specs.Request.{Run, Voxels, run, check, demo, voxels, tracer}
use Rattle.lbm_ckpt.specs.Ckpt.{checkpoint_of, ckpt, ckpt_1, ckpt_size}
use Rattle.lbm_ckpt.specs.Laws.{CanBeKept}
use Rattle.lbm_ckpt.proofs.Round.{read_again, exact_size}
use Rattle.lbm_ckpt.proofs.Sized.{length-sha256}
use Rattle.lbm_answer.specs.declared.answer.File.TheVariants.{CaseFile, Voxel}
use Rattle.lbm_answer.specs.declared.answer.End.{End}
use Rattle.lbm_answer.specs.Gen.{gen}
use Rattle.lbm_model.specs.Refusals.{◌>>=◌}
use Rattle.lbm_answer.specs.Outcome.{Job, Finished, begun, bad_cut, bytes_within, case_limit, voxel_limit, case_read, voxels_read, concluded, demo_job, finished, job_of, job_outcome, made, outcome, resumed, run_from, run_job, spelled, uncut, vtk_of, written}
use Rattle.lbm_answer.specs.Reports.{mass_of}
use Rattle.lbm_answer.specs.Laws.{IsOnTheWay, ResumeLaw, ResumedRequest, ResumedMass, RequestedMass, SaveLaw, whole_mass}
use Rattle.lbm_answer.proofs.Asked.{run-job, voxels-job}
use Rattle.lbm_answer.proofs.Runs.{run-step}
use Rattle.lbm_answer.proofs.Stepped.{first_is_state}

-- ---- a run, and its first steps

-- a run that reaches a state begins in limits
in_limits_first : (worst : Option ℕ) (time : ℕ) (rest : RunEnd) (end : FlowState) → elim worst [ Some x ↦ range time x | None ↦ rest ] ≡ reached end → worst ≡ None
in_limits_first (Some x) time rest end e = absurd cc
in_limits_first None time rest end e = refl

-- a run goes on from the state that its first n steps reach
pub run-goes_on : (case : FlowCase) (s : FlowState) (time n more : ℕ) (end : FlowState) → run_flow case s time n ≡ reached end
    → run_flow case s time (n + more) ≡ run_flow case end (time + n) more
run-goes_on case s time zero more end e =
    let same : s ≡ end = (let h : reached s ≡ reached end = goes_on (out_of_limits case s) time (reached s) end e in cc) in
    let none : 0 + more ≡ more = omega arith in
    let at : time ≡ time + 0 = omega arith in
    ap (run_flow case s time) none ∙ ap (λ t. run_flow case s t more) at ∙ ap (λ (z : FlowState). run_flow case z (time + 0) more) same
run-goes_on case s time (suc n) more end e =
    let sound : out_of_limits case s ≡ None = in_limits_first (out_of_limits case s) time (run_flow case (next case s) (time + 1) n) end e in
    let rest : run_flow case (next case s) (time + 1) n ≡ reached end = goes_on (out_of_limits case s) time (run_flow case (next case s) (time + 1) n) end e in
    let count : suc n + more ≡ suc (n + more) = omega arith in
    let at : time + 1 + n ≡ time + suc n = omega arith in
    ap (run_flow case s time) count ∙ run-step case s time (n + more) sound ∙ run-goes_on case (next case s) (time + 1) n more end rest
    ∙ ap (λ t. run_flow case end t more) at

-- ---- a checkpoint on the way

module _ (case : FlowCase) (valid : IsCase case) (step : ℕ) (s : FlowState) (is_reached : run_flow case (first case) 0 step ≡ reached s) where
  -- the state that was reached is a state of the case, of no large populations
  reached_state : IsStateOf case s
  reached_state = (small-run case (first case) s 0 step valid (first_is_state case) (small-narrow case (first case) valid (first_is_state case) (narrow-first case valid)) is_reached).0

  pub can_be_kept : (bytes : List ℕ) → step ≤ 1000000 → CanBeKept (sha256 bytes) step case.torus s
  can_be_kept bytes near = record {
    digest_bytes = length-sha256 bytes;
    near = near;
    whole = reached_state.numbers ∙ mul_comm (cells case.torus) s.directions;
    narrow = narrow-reached case (first case) s 0 step valid (first_is_state case) (narrow-first case valid) is_reached;
  }

  -- the run from there ends as the whole run does
  pub run-from_there : (last : ℕ) → step ≤ last → run_from case last (record { state = s; time = step }) ≡ run_from case last (record { state = first case; time = 0 })
  run-from_there last ahead =
      let all : step + (last - step) ≡ last - 0 = omega arith in
      let at : 0 + step ≡ step = omega arith in
      ap (λ t. run_flow case s t (last - step)) (sym at) ∙ sym (run-goes_on case (first case) 0 step (last - step) s is_reached) ∙ ap (run_flow case (first case) 0) all

-- a checkpoint is no longer than it may be, and the step and the state are read from it
record IsReadAs (digest : List ℕ) (case : FlowCase) (step : ℕ) (s : FlowState) (bytes : List ℕ) : Type 0 where
  short : length bytes ≤ ckpt_size case.torus s.directions
  read : checkpoint_of digest case.torus s.directions bytes ≡ Ok (step, s)

module _ (digest : List ℕ) (case : FlowCase) (step : ℕ) (s : FlowState) (kept : CanBeKept digest step case.torus s) where
  old_form : IsReadAs digest case step s (ckpt_1 digest step case.torus s)
  old_form =
      let exact : length (ckpt_1 digest step case.torus s) ≡ 84 + 4 * s.directions * cells case.torus = exact_size _ digest step case.torus s kept in
      record { short = omega (arith, exact); read = read_again _ digest step case.torus s kept }

  new_form : IsReadAs digest case step s (ckpt digest step case.torus s)
  new_form =
      let exact : length (ckpt digest step case.torus s) ≡ 96 + 4 * s.directions * cells case.torus = exact_size _ digest step case.torus s kept in
      record { short = omega (arith, exact); read = read_again _ digest step case.torus s kept }

  of_either : (bytes : List ℕ) → (bytes ≡ ckpt digest step case.torus s) ⊎ (bytes ≡ ckpt_1 digest step case.torus s) → IsReadAs digest case step s bytes
  of_either bytes (inl e) = subst (IsReadAs digest case step s) (sym e) new_form
  of_either bytes (inr e) = subst (IsReadAs digest case step s) (sym e) old_form

-- so a run begins there
resumed-at : (job : Job) (step : ℕ) (s : FlowState) (bytes : List ℕ) → s.directions ≡ job.case.stencil.directions → step ≤ job.steps
    → IsReadAs (sha256 job.bytes) job.case step s bytes → resumed job bytes ≡ Ok (record { state = s; time = step })
unfolding resumed
resumed-at job step s bytes directions ahead is =
    rw (sym directions, le-leb (length bytes) (ckpt_size job.case.torus s.directions) is.short, is.read, le-leb step job.steps ahead) refl

-- ---- the outcome

same_refusal : {A B : Type 0} (u : Result A End) (f g : A → Result B End) → ((x : A) → f x ≡ g x) → u >>= f ≡ u >>= g
same_refusal (Ok x) f g e = e x
same_refusal (Err refused) f g e = refl

pub resume-law : ResumeLaw
unfolding job_outcome
resume-law job files name valid few way =
    let case = job.case in
    let kept = can_be_kept case valid way.step way.state way.is_reached job.bytes (omega (arith, few, way.ahead)) in
    let state = (reached_state case valid way.step way.state way.is_reached).directions in
    let from : resumed (record job { resume = Some name }) (content files name) ≡ Ok (record { state = way.state; time = way.step }) =
    resumed-at (record job { resume = Some name }) way.step way.state (content files name) state way.ahead
    (of_either (sha256 job.bytes) case way.step way.state kept (content files name) way.kept) in
    let ends = run-from_there case valid way.step way.state way.is_reached job.steps way.ahead in
    same_refusal (uncut (bad_cut case.torus job.cut))
    (λ _. begun (record job { resume = Some name }) files >>= λ begin. concluded job (run_from case job.steps begin))
    (λ _. begun (record job { resume = None }) files >>= λ begin. concluded job (run_from case job.steps begin))
    (λ _. rw from (ap (concluded job) ends))

-- ---- the run of a request

ok_is : {A : Type 0} (x y : A) → ◌≡◌ {A = Result A End} (Ok x) (Ok y) → x ≡ y
ok_is x y e = cc

spelled-ok : (reading : Result FlowCase CaseFault) (case : FlowCase) → spelled reading ≡ Ok case → reading ≡ Ok case
spelled-ok (Ok x) case e = cc
spelled-ok (Err fault) case e = absurd cc

made-ok : (reading : Result FlowCase VoxelFault) (case : FlowCase) → made reading ≡ Ok case → reading ≡ Ok case
made-ok (Ok x) case e = cc
made-ok (Err fault) case e = absurd cc

abbrev Read : Type 0
Read = List ℕ × FlowCase

-- what was read is an accepted case
pub case_read-valid : (name : List ℕ) (files : Files) (read : Read) → case_read name files ≡ Ok read → IsCase read.1
unfolding case_read
case_read-valid name files read e =
    let a = passed (bytes_within CaseFile case_limit name files) _ read e in
    let bytes : List ℕ = a.0 in
    let b = passed (spelled (case_of bytes)) _ read a.2 in
    let case : FlowCase = b.0 in
    let whole : Read = (bytes, case) in
    let same : whole ≡ read = ok_is whole read b.2 in
    subst (λ (r : Read). IsCase r.1) same (spells-cases bytes case (spelled-ok (case_of bytes) case b.1))

voxels_read-valid : (name : List ℕ) (plain : FlowCase) (files : Files) (read : Read) → IsCase plain → voxels_read name plain files ≡ Ok read → IsCase read.1
unfolding voxels_read
voxels_read-valid name plain files read valid e =
    let a = passed (bytes_within Voxel voxel_limit name files) _ read e in
    let bytes : List ℕ = a.0 in
    let b = passed (made (voxels_of bytes plain)) _ read a.2 in
    let case : FlowCase = b.0 in
    let whole : Read = (bytes, case) in
    let same : whole ≡ read = ok_is whole read b.2 in
    subst (λ (r : Read). IsCase r.1) same (makes-cases bytes plain case valid (made-ok (voxels_of bytes plain) case b.1))

-- the run that was asked for, by what was read, with any checkpoint
abbrev run_by : Run → Result Read End → Result Job End
run_by r read = read >>= λ x. Ok (run_job r x.1 x.0)

abbrev voxels_by : Run → Read → Result Read End → Result Job End
voxels_by r x shape = shape >>= λ y. Ok (run_job r y.1 (x.0 ++ y.0))

abbrev resumes : Run → Option (List ℕ) → Run
resumes r resume = record r { resume = resume }

abbrev ends_of : Files → Result Job End → Result Finished End
ends_of files asked = asked >>= λ job. job_outcome job files

resumed_run : (r : Run) (files : Files) (name : List ℕ) → r.steps ≤ 1000000 → ((job : Job) → job_of (run r) files ≡ Ok job → IsOnTheWay job (content files name))
    → (read : Result Read End) → case_read r.case files ≡ read → ends_of files (run_by (resumes r (Some name)) read) ≡ ends_of files (run_by (resumes r None) read)
resumed_run r files name few way (Err refused) is = refl
resumed_run r files name few way (Ok x) is =
    resume-law (run_job r x.1 x.0) files name (case_read-valid r.case files x is) few (way (run_job r x.1 x.0) (run-job files r x.0 x.1 is))

module _ (v : Voxels) (files : Files) (name : List ℕ) (few : v.run.steps ≤ 1000000)
    (way : (job : Job) → job_of (voxels v) files ≡ Ok job → IsOnTheWay job (content files name)) where
  resumed_shape : (x : Read) → case_read v.run.case files ≡ Ok x → (shape : Result Read End) → voxels_read v.file x.1 files ≡ shape
      → ends_of files (voxels_by (resumes v.run (Some name)) x shape) ≡ ends_of files (voxels_by (resumes v.run None) x shape)
  resumed_shape x read (Err refused) is = refl
  resumed_shape x read (Ok y) is =
      let job = run_job v.run y.1 (x.0 ++ y.0) in
      resume-law job files name (voxels_read-valid v.file x.1 files y (case_read-valid v.run.case files x read) is) few
      (way job (voxels-job files v x.0 y.0 x.1 y.1 read is))

  resumed_voxels : (read : Result Read End) → case_read v.run.case files ≡ read
      → ends_of files (read >>= λ x. voxels_by (resumes v.run (Some name)) x (voxels_read v.file x.1 files))
      ≡ ends_of files (read >>= λ x. voxels_by (resumes v.run None) x (voxels_read v.file x.1 files))
  resumed_voxels (Err refused) is = refl
  resumed_voxels (Ok x) is = resumed_shape x is (voxels_read v.file x.1 files) refl

pub resumed-request : ResumedRequest
unfolding outcome job_of
resumed-request (run r) files name is way = resumed_run r files name is.few_steps way (case_read r.case files) refl
resumed-request (check c) files name is way = refl
resumed-request (tracer r) files name is way = refl
resumed-request (demo d) files name is way = refl
resumed-request (voxels v) files name is way = resumed_voxels v files name is.run.few_steps way (case_read v.run.case files) refl

-- ---- what a run saves

-- a run that leaves something has reached a state
left_by : (job : Job) (end : RunEnd) (left : Finished) → concluded job end ≡ Ok left → (s : FlowState) × (end ≡ reached s) × (finished job s ≡ left)
left_by job (reached s) left e = (s, refl, cc)
left_by job (range step cell) left e = absurd cc

-- a run from the first state reads no file
no_file : (job : Job) (files other : Files) → job_outcome (record job { resume = None }) files ≡ job_outcome (record job { resume = None }) other
unfolding job_outcome
no_file job files other = refl

left_of : (job : Job) (files : Files) (left : Finished) → job_outcome (record job { resume = None }) files ≡ Ok left
    → (s : FlowState) × (run_from job.case job.steps (record { state = first job.case; time = 0 }) ≡ reached s) × (finished job s ≡ left)
unfolding job_outcome
left_of job files left e =
    let end = run_from job.case job.steps (record { state = first job.case; time = 0 }) in
    let a = passed (uncut (bad_cut job.case.torus job.cut)) (λ _. concluded job end) left e in
    left_by job end left a.2

-- the mass that a resumed run reports
pub resumed-mass : ResumedMass
resumed-mass job files name left valid few way e =
    let case = job.case in
    let l = left_of job files left (sym (resume-law job files name valid few way) ∙ e) in
    let flow : IsFlow case (first case) = record { set = valid.set; space = valid.space; state = first_is_state case } in
    let all : job.steps - 0 ≡ job.steps = omega arith in
    ap (λ (f : Finished). mass_of f.report) (sym l.2) ∙ mass-run case (first case) l.0 0 (job.steps - 0) flow l.1 ∙ ap (whole_mass case) all

-- the same of a run that was asked for
mass_of_run : (r : Run) (case : FlowCase) (bytes : List ℕ) (files : Files) (name : List ℕ) (job : Job) (left : Finished) → IsCase case → r.steps ≤ 1000000
    → run_job r case bytes ≡ job → IsOnTheWay job (content files name) → job_outcome (run_job (resumes r (Some name)) case bytes) files ≡ Ok left
    → mass_of left.report ≡ whole_mass job.case job.steps
mass_of_run r case bytes files name job left valid few is way e =
    subst (λ (j : Job). mass_of left.report ≡ whole_mass j.case j.steps) is
    (resumed-mass (run_job r case bytes) files name left valid few (subst (λ (j : Job). IsOnTheWay j (content files name)) (sym is) way) e)

pub requested-mass : RequestedMass
unfolding outcome job_of
requested-mass (run r) files name job left is found way e =
    let a = passed (case_read r.case files) (λ x. Ok (run_job r x.1 x.0)) job found in
    let x : Read = a.0 in
    let ended : job_outcome (run_job (resumes r (Some name)) x.1 x.0) files ≡ Ok left =
    ap (λ read. ends_of files (run_by (resumes r (Some name)) read)) (sym a.1) ∙ e in
    mass_of_run r x.1 x.0 files name job left (case_read-valid r.case files x a.1) is.few_steps (ok_is (run_job r x.1 x.0) job a.2) way ended
requested-mass (check c) files name job left is found way e = absurd cc
requested-mass (tracer r) files name job left is found way e = absurd cc
requested-mass (demo d) files name job left is found way e =
    let a = passed (spelled (case_of (gen d.n))) (λ case. Ok (demo_job d case)) job found in
    let case : FlowCase = a.0 in
    let same : demo_job d case ≡ job = ok_is (demo_job d case) job a.2 in
    let valid = spells-cases (gen d.n) case (spelled-ok (case_of (gen d.n)) case a.1) in
    let here : IsOnTheWay (demo_job d case) (content files name) = subst (λ (j : Job). IsOnTheWay j (content files name)) (sym same) way in
    let ended : job_outcome (demo_job d case) files ≡ Ok left =
    ap (λ read. ends_of files (read >>= λ c. Ok (demo_job d c))) (sym a.1) ∙ e in
    subst (λ (j : Job). mass_of left.report ≡ whole_mass j.case j.steps) same
    (resumed-mass (demo_job d case) files name left valid is.few_steps here (resume-law (demo_job d case) files name valid is.few_steps here ∙ ended))
requested-mass (voxels v) files name job left is found way e =
    let a = passed (case_read v.run.case files) (λ x. voxels_by v.run x (voxels_read v.file x.1 files)) job found in
    let x : Read = a.0 in
    let b = passed (voxels_read v.file x.1 files) (λ y. Ok (run_job v.run y.1 (x.0 ++ y.0))) job a.2 in
    let y : Read = b.0 in
    let bytes = x.0 ++ y.0 in
    let ended : job_outcome (run_job (resumes v.run (Some name)) y.1 bytes) files ≡ Ok left =
    ap (λ shape. ends_of files (voxels_by (resumes v.run (Some name)) x shape)) (sym b.1)
    ∙ (ap (λ read. ends_of files (read >>= λ x. voxels_by (resumes v.run (Some name)) x (voxels_read v.file x.1 files))) (sym a.1) ∙ e) in
    mass_of_run v.run y.1 bytes files name job left (voxels_read-valid v.file x.1 files y (case_read-valid v.run.case files x a.1) b.1)
    is.run.few_steps (ok_is (run_job v.run y.1 bytes) job b.2) way ended

pub save-law : SaveLaw
save-law early late files name left valid same_case same_bytes ahead few e =
    let saving = record early { resume = None; save = Some name } in
    let case = early.case in
    let l = left_of saving files left e in
    let all : early.steps - 0 ≡ early.steps = omega arith in
    let now = written left.files files in
    let file = ckpt (sha256 early.bytes) early.steps case.torus l.0 in
    let held : content now name ≡ ckpt (sha256 late.bytes) early.steps late.case.torus l.0 =
    ap (λ f. content (written f.files files) name) (sym l.2)
    ∙ content-with (with files early.out (Some (vtk_of case early.steps l.0 early.format))) name file
    ∙ ap (λ bytes. ckpt (sha256 bytes) early.steps case.torus l.0) same_bytes
    ∙ ap (λ (c : FlowCase). ckpt (sha256 late.bytes) early.steps c.torus l.0) same_case in
    let way : IsOnTheWay late (content now name) = record {
      step = early.steps;
      ahead = ahead;
      state = l.0;
      is_reached = ap (λ (c : FlowCase). run_flow c (first c) 0 early.steps) (sym same_case) ∙ ap (run_flow case (first case) 0) (sym all) ∙ l.1;
      kept = inl held;
    } in
    resume-law late now name (subst IsCase same_case valid) few way ∙ no_file late now files
