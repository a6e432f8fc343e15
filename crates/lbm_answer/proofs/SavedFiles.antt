-- A file that is written, by what the store says of it.
use Rattle.std.proofs.Common.{◌≡◌, ◌≢◌, ◌∙◌, ℕ, List, [], ◌∷◌, ℤ, Some, Result, Ok, Err, inr, subst}
use Rattle.lbm_space.specs.Torus.{Torus}
use Rattle.lbm_model.specs.State.{FlowState}
use Rattle.lbm_ckpt.specs.Ckpt.{ckpt, checkpoint, head}
use Rattle.lbm_tracer.specs.Trace.{trace}
use Rattle.lbm_store.specs.declared.outside.IoEnd.{IoEnd}
use Rattle.lbm_store.specs.Outside.{Files, Counts, StoreState, with}
use Rattle.lbm_store.specs.Sinks.{WritesFile}
use Rattle.lbm_store.proofs.WholeFiles.{told-whole, told-front}
use Rattle.lbm_answer.specs.declared.answer.File.TheVariants.{CaseFile, Voxel, Checkpoint, Out, Save, Trace}
use Rattle.lbm_answer.specs.declared.answer.End.{End}
use Rattle.lbm_answer.specs.declared.answer.End.TheVariants.{Done, Usage, Case, TooLong, Voxel as BadVoxel, Cut, Spot, Checkpoint as BadCheckpoint, Past, Range, TracerRange, StoreFault, SinkFault, Memory}
use Rattle.lbm_answer.specs.Faults.{FaultAt}
use Rattle.lbm_answer.specs.Outcome.{Written, OfFiles, HoldsFront}
use Rattle.lbm_answer.specs.Jobs.{SavesFile, SavesAll}
use Rattle.lbm_answer.specs.Tracers.{SavesTraced}

-- a checkpoint has some bytes
pub ckpt-some : (digest : List ℕ) (step : ℕ) (space : Torus) (s : FlowState) → ckpt digest step space s ≢ []
unfolding checkpoint head
ckpt-some digest step space s none = cc

-- and so has the file of a tracer
pub trace-some : (space : Torus) (step : ℕ) (amounts : List ℤ) → trace space step amounts ≢ []
trace-some space step amounts none = cc

module _ (before after : StoreState) (file : Written) where
  pub saved-whole : (done : Unit {0}) → WritesFile before after (Ok done) file.name file.bytes → file.bytes ≢ []
      → OfFiles before after (λ files now. now ≡ with files file.name (Some file.bytes))
  saved-whole done wrote some = λ files told. told-whole before.files after.files file.name file.bytes files told wrote.others wrote.ok some

  pub saved-front : (e : IoEnd) → WritesFile {T = Unit {0}} before after (Err e) file.name file.bytes
      → OfFiles before after (λ files now. HoldsFront files file now)
  saved-front e wrote = λ files told.
      let t = told-front before.files after.files file.name file.bytes files told wrote.others wrote.err in
      (t.0, t.1, record { front = t.2; others = t.3 })

-- the second file, behind a first one that was written whole
module _ (out save : Written) (before between after : StoreState)
    (first : SavesFile Out out before between (Ok tt)) where
  behind : (P : Files → Files → Type 0) → OfFiles between after P → OfFiles before after (λ files now. P (with files out.name (Some out.bytes)) now)
  behind P second = λ files told.
      let a = first.1 files told in
      let b = second a.0 a.1 in
      (b.0, b.1, subst (λ old. P old b.0) a.2 b.2)

  pub saves-second : (result : Result (Unit {0}) End) → SavesFile Save save between after result → SavesAll (out ∷ save ∷ []) before after result
  saves-second (Ok done) second = (second.0 ∙ first.0, behind (λ old now. now ≡ with old save.name (Some save.bytes)) second.1)
  saves-second (Err Memory) second = λ files told.
      let b = behind (λ old now. HoldsFront old save now) second files told in
      (b.0, b.1, inr (1, b.2))
  saves-second (Err (StoreFault Save)) second =
      (subst (λ (counts : Counts). FaultAt save.name counts after.write_faults) first.0 second.1, behind (λ old now. HoldsFront old save now) second.2)
  saves-second (Err (StoreFault Out)) second = absurd cc
  saves-second (Err (StoreFault CaseFile)) second = absurd cc
  saves-second (Err (StoreFault Voxel)) second = absurd cc
  saves-second (Err (StoreFault Checkpoint)) second = absurd cc
  saves-second (Err (StoreFault Trace)) second = absurd cc
  saves-second (Err Done) second = absurd second
  saves-second (Err Usage) second = absurd second
  saves-second (Err (Case fault)) second = absurd second
  saves-second (Err (TooLong file)) second = absurd second
  saves-second (Err (BadVoxel fault)) second = absurd second
  saves-second (Err (Cut k)) second = absurd second
  saves-second (Err (Spot cell)) second = absurd second
  saves-second (Err (BadCheckpoint fault)) second = absurd second
  saves-second (Err (Past at to)) second = absurd second
  saves-second (Err (Range step cell)) second = absurd second
  saves-second (Err (TracerRange step cell)) second = absurd second
  saves-second (Err SinkFault) second = absurd second

  -- the same of a tracer's file, behind that of its flow
  pub traces-second : (result : Result (Unit {0}) End) → SavesFile Trace save between after result → SavesTraced (out ∷ save ∷ []) before after result
  traces-second (Ok done) second = (second.0 ∙ first.0, behind (λ old now. now ≡ with old save.name (Some save.bytes)) second.1)
  traces-second (Err Memory) second = λ files told.
      let b = behind (λ old now. HoldsFront old save now) second files told in
      (b.0, b.1, inr (1, b.2))
  traces-second (Err (StoreFault Trace)) second =
      (subst (λ (counts : Counts). FaultAt save.name counts after.write_faults) first.0 second.1, behind (λ old now. HoldsFront old save now) second.2)
  traces-second (Err (StoreFault Out)) second = absurd cc
  traces-second (Err (StoreFault CaseFile)) second = absurd cc
  traces-second (Err (StoreFault Voxel)) second = absurd cc
  traces-second (Err (StoreFault Checkpoint)) second = absurd cc
  traces-second (Err (StoreFault Save)) second = absurd cc
  traces-second (Err Done) second = absurd second
  traces-second (Err Usage) second = absurd second
  traces-second (Err (Case fault)) second = absurd second
  traces-second (Err (TooLong file)) second = absurd second
  traces-second (Err (BadVoxel fault)) second = absurd second
  traces-second (Err (Cut k)) second = absurd second
  traces-second (Err (Spot cell)) second = absurd second
  traces-second (Err (BadCheckpoint fault)) second = absurd second
  traces-second (Err (Past at to)) second = absurd second
  traces-second (Err (Range step cell)) second = absurd second
  traces-second (Err (TracerRange step cell)) second = absurd second
  traces-second (Err SinkFault) second = absurd second
