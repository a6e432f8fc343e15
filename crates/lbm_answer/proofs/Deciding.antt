-- What may be decided at each step of a run.
use Rattle.std.proofs.Common.{◌≡◌, ◌∙◌, ℕ, List, [], ◌∷◌, Option, Some, None, Ok, Err, inl, inr, refl, sym, ap, subst}
use Rattle.std.specs.Prelude.{IsNone, IsOkAnd, MatchResult, pos, ◌+ℤ◌, ◌*ℤ◌, ◌-◌}
use Rattle.std.specs.Option.{ForSome}
use Rattle.lbm_store.specs.Outside.{Files, StoreState}
use Rattle.lbm_model.specs.State.{mass}
use Rattle.lbm_model.specs.Case.{IsCase, all_gain}
use Rattle.lbm_model.specs.Laws.{IsFlow}
use Rattle.lbm_model.proofs.Mass.{mass-run}
use Rattle.lbm_answer.specs.declared.left.Left.{Left}
use Rattle.lbm_answer.specs.declared.answer.File.TheVariants.{CaseFile, Voxel, Checkpoint, Out, Save, Trace}
use Rattle.lbm_answer.specs.declared.answer.End.{End}
use Rattle.lbm_answer.specs.declared.answer.End.TheVariants.{Done, Usage, Case, TooLong, Voxel as BadVoxel, Cut, Spot, Checkpoint as BadCheckpoint, Past, Range, TracerRange, StoreFault, SinkFault, Memory}
use Rattle.lbm_answer.specs.declared.report.Report.{Report}
use Rattle.lbm_answer.specs.declared.report.Report.TheVariants.{Run}
use Rattle.lbm_answer.specs.Reports.{mass_of, momentum_of}
use Rattle.lbm_answer.specs.Drift.{IsWithinDrift}
use Rattle.lbm_answer.specs.Outcome.{Job, Beginning, Written, OfFiles, CutAt, CutShort, admitted, bad_cut, begun, concluded, job_outcome, run_from, uncut, written}
use Rattle.lbm_answer.specs.Faults.{NamedFault}
use Rattle.lbm_answer.specs.Jobs.{Begins, CanBegin, Cuts, Finishes, Leaves, NthFault, SavesAll, checkpoint_file, left_files}
use Rattle.lbm_answer.specs.Answer.{Asked, DecidesFor, KeepsLaws, asked_of_job}
use Rattle.lbm_answer.proofs.Asked.{job_outcome-refused, job_outcome-unbegun, job_outcome-begun, keeps-begun}
use Rattle.lbm_answer.proofs.Drift.{within-drift}
use Rattle.lbm_answer.proofs.LeftFiles.{finished-left}

-- ---- want of memory, before a file was written

CutShort-none : (files : List Written) (before : Files) → CutShort files before before
CutShort-none [] before = inl refl
CutShort-none (file ∷ rest) before = inr (0, record { front = inl refl; others = refl })

pub for-memory : (asked : Asked) (before after : StoreState) → after.files ≡ before.files → DecidesFor asked before after (Err Memory)
for-memory asked before after same = λ files told. (
  files,
  same ∙ told,
  elim (asked.outcome files) as (λ o. MatchResult o (λ left. CutShort left.files files files) (λ refused. files ≡ files)) [
    | Ok left ↦ CutShort-none left.files files
    | Err refused ↦ refl
  ],
)

-- ---- a run, step by step

module _ (job : Job) (before : StoreState) where
  -- a cutting that was not made
  pub for-uncut : (end : End) → Cuts job.case.torus job.cut (Err end) → DecidesFor (asked_of_job job) before before (Err end)
  for-uncut (Cut k) cuts = (refl, λ files told. job_outcome-refused job files (Cut k) (ap uncut cuts))
  for-uncut Memory cuts = for-memory (asked_of_job job) before before refl
  for-uncut Done cuts = absurd cuts
  for-uncut Usage cuts = absurd cuts
  for-uncut (Case fault) cuts = absurd cuts
  for-uncut (TooLong file) cuts = absurd cuts
  for-uncut (BadVoxel fault) cuts = absurd cuts
  for-uncut (BadCheckpoint fault) cuts = absurd cuts
  for-uncut (Past at to) cuts = absurd cuts
  for-uncut (Range step cell) cuts = absurd cuts
  for-uncut (Spot cell) cuts = absurd cuts
  for-uncut (TracerRange step cell) cuts = absurd cuts
  for-uncut (StoreFault file) cuts = absurd cuts
  for-uncut SinkFault cuts = absurd cuts

pub no_bad_cut : (bad : Option ℕ) → IsNone bad → bad ≡ None
no_bad_cut None none = refl
no_bad_cut (Some k) none = absurd cc

pub admitted-cuts : (job : Job) → IsNone (bad_cut job.case.torus job.cut) → admitted job ≡ Ok tt
admitted-cuts job good = ap uncut (no_bad_cut _ good)

module _ (job : Job) (is_admitted : admitted job ≡ Ok tt) (before : StoreState) where
  -- a run that did not begin
  pub for-unbegun : (after : StoreState) → after.files ≡ before.files → after.write_faults ≡ before.write_faults
      → (end : End) → Begins job before after (Err end) → DecidesFor (asked_of_job job) before after (Err end)
  for-unbegun after same writes (StoreFault Checkpoint) begins =
      let fault : NamedFault before.read_faults after.read_faults job.resume = rw (begins.1) begins.2 in
      ((fault, writes), same, λ files told. rw is_admitted refl)
  for-unbegun after same writes (TooLong Checkpoint) begins = (begins.0, λ files told. job_outcome-unbegun job files is_admitted _ (begins.1 files told))
  for-unbegun after same writes (BadCheckpoint fault) begins = (begins.0, λ files told. job_outcome-unbegun job files is_admitted _ (begins.1 files told))
  for-unbegun after same writes (Past at to) begins = (begins.0, λ files told. job_outcome-unbegun job files is_admitted _ (begins.1 files told))
  for-unbegun after same writes Memory begins = for-memory (asked_of_job job) before after same
  for-unbegun after same writes (StoreFault CaseFile) begins = absurd begins
  for-unbegun after same writes (StoreFault Voxel) begins = absurd begins
  for-unbegun after same writes (StoreFault Out) begins = absurd begins
  for-unbegun after same writes (StoreFault Save) begins = absurd begins
  for-unbegun after same writes (StoreFault Trace) begins = absurd begins
  for-unbegun after same writes (TooLong CaseFile) begins = absurd begins
  for-unbegun after same writes (TooLong Voxel) begins = absurd begins
  for-unbegun after same writes (TooLong Out) begins = absurd begins
  for-unbegun after same writes (TooLong Save) begins = absurd begins
  for-unbegun after same writes (TooLong Trace) begins = absurd begins
  for-unbegun after same writes Done begins = absurd begins
  for-unbegun after same writes Usage begins = absurd begins
  for-unbegun after same writes (Case fault) begins = absurd begins
  for-unbegun after same writes (BadVoxel fault) begins = absurd begins
  for-unbegun after same writes (Cut k) begins = absurd begins
  for-unbegun after same writes (Spot cell) begins = absurd begins
  for-unbegun after same writes (Range step cell) begins = absurd begins
  for-unbegun after same writes (TracerRange step cell) begins = absurd begins
  for-unbegun after same writes SinkFault begins = absurd begins

  module _ (begin : Beginning) (begins : ForSome before.files (λ files. begun job files ≡ Ok begin)) where
    outcome-run : (files : Files) → before.files ≡ Some files → job_outcome job files ≡ concluded job (run_from job.case job.steps begin)
    outcome-run files told = job_outcome-begun job files is_admitted begin (begins files told)

    -- a run that was not finished
    pub for-unfinished : (end : End) → Finishes job.case job.steps begin (Err end) → DecidesFor (asked_of_job job) before before (Err end)
    for-unfinished (Range step cell) finishes = (refl, λ files told. outcome-run files told ∙ ap (concluded job) finishes)
    for-unfinished Memory finishes = for-memory (asked_of_job job) before before refl
    for-unfinished Done finishes = absurd finishes
    for-unfinished Usage finishes = absurd finishes
    for-unfinished (Case fault) finishes = absurd finishes
    for-unfinished (TooLong file) finishes = absurd finishes
    for-unfinished (BadVoxel fault) finishes = absurd finishes
    for-unfinished (Cut k) finishes = absurd finishes
    for-unfinished (Spot cell) finishes = absurd finishes
    for-unfinished (TracerRange step cell) finishes = absurd finishes
    for-unfinished (BadCheckpoint fault) finishes = absurd finishes
    for-unfinished (Past at to) finishes = absurd finishes
    for-unfinished (StoreFault file) finishes = absurd finishes
    for-unfinished SinkFault finishes = absurd finishes

    module _ (left : Left) (leaves : Leaves job.case job.steps begin left) where
      outcome-left : (files : Files) → before.files ≡ Some files → job_outcome job files ≡ Ok (record { files = left_files job left; report = Run left.report })
      outcome-left files told =
          outcome-run files told ∙ ap (concluded job) leaves.ends ∙ ap (λ f. Ok f) (finished-left job begin left leaves)

      keeps-left : (valid : IsCase job.case) → CanBegin job.case job.steps begin → (files : Files) → before.files ≡ Some files → KeepsLaws job files (Run left.report)
      keeps-left valid can files told =
          let flow : IsFlow job.case begin.state = record { set = valid.set; space = valid.space; state = can.state } in
          let law : mass left.state ≡ mass begin.state +ℤ (pos (job.steps - begin.time) *ℤ all_gain job.case) =
          mass-run job.case begin.state left.state begin.time (job.steps - begin.time) flow leaves.ends in
          keeps-begun job files begin (Run left.report) (begins files told) (ap mass_of leaves.report ∙ law)
          (subst (λ (r : Report). IsWithinDrift job.case begin.state (job.steps - begin.time) (momentum_of r)) (sym leaves.report) (within-drift job.case begin.state left.state begin.time (job.steps - begin.time) job.steps valid leaves.ends))

      -- files that were written
      pub for-saved : (after : StoreState) → IsCase job.case → CanBegin job.case job.steps begin → after.read_faults ≡ before.read_faults
          → SavesAll (left_files job left) before after (Ok tt) → DecidesFor (asked_of_job job) before after (Ok (Run left.report))
      for-saved after valid can reads saves = (
        record { reads = reads; writes = saves.0 },
        λ files told.
            let t = saves.1 files told in (
              t.0,
              t.1,
              (
                subst (λ o. IsOkAnd o (λ run. (run.report ≡ Run left.report) × (t.0 ≡ written run.files files))) (sym (outcome-left files told)) (refl, t.2),
                keeps-left valid can files told,
              ),
            ),
      )

      -- the files of the store, where the writing stopped at one of them
      stops : (k : ℕ) (after : StoreState) → OfFiles before after (λ old now. CutAt k (left_files job left) old now)
          → OfFiles before after (λ files now. IsOkAnd (job_outcome job files) (λ run. CutAt k run.files files now))
      stops k after cut = λ files told.
          let t = cut files told in
          (t.0, t.1, subst (λ o. IsOkAnd o (λ run. CutAt k run.files files t.0)) (sym (outcome-left files told)) t.2)

      named : (save : Option (List ℕ)) (after : StoreState) → NthFault 0 (checkpoint_file job.bytes left save) before after
          → NamedFault before.write_faults after.write_faults save
      named None after fault = absurd fault
      named (Some name) after fault = fault

      -- files that were not
      pub for-unsaved : (after : StoreState) → after.read_faults ≡ before.read_faults → (end : End) → SavesAll (left_files job left) before after (Err end)
          → DecidesFor (asked_of_job job) before after (Err end)
      for-unsaved after reads (StoreFault Out) saves = ((saves.0, reads), stops 0 after saves.1)
      for-unsaved after reads (StoreFault Save) saves = ((named job.save after saves.0, reads), stops 1 after saves.1)
      for-unsaved after reads Memory saves = λ files told.
          let t = saves files told in
          (t.0, t.1, subst (λ o. MatchResult o (λ run. CutShort run.files files t.0) (λ refused. t.0 ≡ files)) (sym (outcome-left files told)) t.2)
      for-unsaved after reads (StoreFault CaseFile) saves = absurd saves
      for-unsaved after reads (StoreFault Voxel) saves = absurd saves
      for-unsaved after reads (StoreFault Checkpoint) saves = absurd saves
      for-unsaved after reads (StoreFault Trace) saves = absurd saves
      for-unsaved after reads Done saves = absurd saves
      for-unsaved after reads Usage saves = absurd saves
      for-unsaved after reads (Case fault) saves = absurd saves
      for-unsaved after reads (TooLong file) saves = absurd saves
      for-unsaved after reads (BadVoxel fault) saves = absurd saves
      for-unsaved after reads (Cut k) saves = absurd saves
      for-unsaved after reads (Spot cell) saves = absurd saves
      for-unsaved after reads (BadCheckpoint fault) saves = absurd saves
      for-unsaved after reads (Past at to) saves = absurd saves
      for-unsaved after reads (Range step cell) saves = absurd saves
      for-unsaved after reads (TracerRange step cell) saves = absurd saves
      for-unsaved after reads SinkFault saves = absurd saves
