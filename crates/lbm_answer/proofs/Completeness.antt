-- An answer that no counted fault explains is that of the definition, or want of memory.
use Rattle.std.proofs.Common.{◌≡◌, ◌∙◌, ◌⊎◌, ℕ, List, Option, Some, None, Result, Ok, Err, inl, inr, refl, sym, ap}
use Rattle.std.specs.Prelude.{IsOkAnd}
use Rattle.std.specs.Option.{ForSome}
use Rattle.lbm_store.specs.Outside.{Counts, Files, StoreState, SinkState, Rose}
use Rattle.lbm_words.specs.Request.{Request}
use Rattle.lbm_words.specs.Words.{request_of}
use Rattle.lbm_answer.specs.declared.answer.File.{File}
use Rattle.lbm_answer.specs.declared.answer.File.TheVariants.{CaseFile, Voxel, Checkpoint, Out, Save, Trace}
use Rattle.lbm_answer.specs.declared.answer.End.{End}
use Rattle.lbm_answer.specs.declared.answer.End.TheVariants.{Done, Usage, Case, TooLong, Voxel as BadVoxel, Cut, Spot, Checkpoint as BadCheckpoint, Past, Range, TracerRange, StoreFault, SinkFault, Memory}
use Rattle.lbm_answer.specs.Lines.{line_of}
use Rattle.lbm_answer.specs.Faults.{NamedRose, NamedFault, FaultOf, FaultRose}
use Rattle.lbm_answer.specs.Outcome.{Finished, outcome}
use Rattle.lbm_answer.specs.Answer.{Answers, Decides, Decision, Refuses, Tells, TellsLine, asked_of, name_of}
use Rattle.lbm_answer.specs.Complete.{IsComplete, StoreRose, answer_of, answer_to}

-- a fault that was counted alone was counted
rose_of : (before after : Counts) (name : Option (List ℕ)) → NamedFault before after name → NamedRose before after name
rose_of before after None fault = fault
rose_of before after (Some name) fault = fault.rose

fault_rose : (name : File → Option (List ℕ)) (file : File) (before after : StoreState) → FaultOf name file before after → FaultRose name file before after
fault_rose name CaseFile before after fault = rose_of _ _ (name CaseFile) fault.0
fault_rose name Voxel before after fault = rose_of _ _ (name Voxel) fault.0
fault_rose name Checkpoint before after fault = rose_of _ _ (name Checkpoint) fault.0
fault_rose name Out before after fault = rose_of _ _ (name Out) fault.0
fault_rose name Save before after fault = rose_of _ _ (name Save) fault.0
fault_rose name Trace before after fault = rose_of _ _ (name Trace) fault.0

-- what is answered of what was decided
told_as : (before after : SinkState) (line : List ℕ) (answer end : End) → TellsLine before after line answer answer end → (end ≡ answer) ⊎ (end ≡ Memory)
told_as before after line answer end (inl whole) = inl whole.0
told_as before after line answer end (inr (inl cut)) = inl cut.0
told_as before after line answer end (inr (inr memory)) = inr memory.0

told_whole : (before after : SinkState) (line : List ℕ) (whole end : End) → ¬ (Rose before.faults after.faults) → TellsLine before after line whole SinkFault end → (end ≡ whole) ⊎ (end ≡ Memory)
told_whole before after line whole end calm (inl all) = inl all.0
told_whole before after line whole end calm (inr (inl cut)) = absurd (calm cut.1)
told_whole before after line whole end calm (inr (inr memory)) = inr memory.0

finished_as : (o : Result Finished End) (P : Finished → Type 0) → IsOkAnd o P → answer_of o ≡ Done
finished_as (Ok left) P is = refl
finished_as (Err refused) P is = absurd is

module _ (request : Request) (before after : StoreState) (sink sink_after : SinkState) (end : End) (files : Files) (told : before.files ≡ Some files) where
  abbrev IsAnswer : Type 0
  IsAnswer = (end ≡ answer_to (Some request) files) ⊎ (end ≡ Memory)

  as_refused : (refused : End) → Refuses (asked_of request) before after refused → TellsLine sink sink_after (line_of refused) refused refused end → IsAnswer
  as_refused refused decided tells = elim (told_as sink sink_after (line_of refused) refused end tells) [
    | inl is ↦ inl (is ∙ sym (ap answer_of (decided.1 files told)))
    | inr memory ↦ inr memory
  ]

  module _ (calm : ¬ (StoreRose (Some request) before after)) (calm_sink : ¬ (Rose sink.faults sink_after.faults)) where
    faulted : (file : File) → FaultOf (name_of request) file before after → IsAnswer
    faulted file fault = absurd (calm (file, fault_rose (name_of request) file before after fault))

    answered : (decision : Decision) → Decides (Some request) before after decision → Tells sink sink_after decision end → IsAnswer
    answered (Ok report) decided tells =
        let left = (decided.1 files told).2.0 in
        elim (told_whole sink sink_after _ Done end calm_sink tells) [
          | inl is ↦ inl (is ∙ sym (finished_as (outcome request files) _ left))
          | inr memory ↦ inr memory
        ]
    answered (Err Memory) decided tells = inr tells.0
    answered (Err (StoreFault CaseFile)) decided tells = faulted CaseFile decided.0
    answered (Err (StoreFault Voxel)) decided tells = faulted Voxel decided.0
    answered (Err (StoreFault Checkpoint)) decided tells = faulted Checkpoint decided.0
    answered (Err (StoreFault Out)) decided tells = faulted Out decided.0
    answered (Err (StoreFault Save)) decided tells = faulted Save decided.0
    answered (Err (StoreFault Trace)) decided tells = faulted Trace decided.0
    answered (Err (Case fault)) decided tells = as_refused (Case fault) decided tells
    answered (Err (TooLong file)) decided tells = as_refused (TooLong file) decided tells
    answered (Err (BadVoxel fault)) decided tells = as_refused (BadVoxel fault) decided tells
    answered (Err (Cut k)) decided tells = as_refused (Cut k) decided tells
    answered (Err (Spot cell)) decided tells = as_refused (Spot cell) decided tells
    answered (Err (BadCheckpoint fault)) decided tells = as_refused (BadCheckpoint fault) decided tells
    answered (Err (Past at to)) decided tells = as_refused (Past at to) decided tells
    answered (Err (Range step cell)) decided tells = as_refused (Range step cell) decided tells
    answered (Err (TracerRange step cell)) decided tells = as_refused (TracerRange step cell) decided tells
    answered (Err Usage) decided tells = absurd decided
    answered (Err Done) decided tells = absurd decided
    answered (Err SinkFault) decided tells = absurd decided

-- words that ask for nothing
unasked : (before after : StoreState) (sink sink_after : SinkState) (end : End) (decision : Decision) → Decides None before after decision → Tells sink sink_after decision end
    → (end ≡ Usage) ⊎ (end ≡ Memory)
unasked before after sink sink_after end decision decided tells = elim decided.1 [
  | inl usage ↦ told_as sink sink_after (line_of Usage) Usage end (rw usage at tells)
  | inr memory ↦ (let is = rw memory at tells in inr is.0)
]

complete : (asked : Option Request) (before after : StoreState) (sink sink_after : SinkState) (end : End) (decision : Decision) → Decides asked before after decision
    → Tells sink sink_after decision end → ¬ (StoreRose asked before after) → ¬ (Rose sink.faults sink_after.faults)
    → ForSome before.files (λ files. (end ≡ answer_to asked files) ⊎ (end ≡ Memory))
complete None before after sink sink_after end decision decided tells calm calm_sink = λ files told. unasked before after sink sink_after end decision decided tells
complete (Some request) before after sink sink_after end decision decided tells calm calm_sink =
    λ files told. answered request before after sink sink_after end files told calm calm_sink decision decided tells

pub answers-complete : (words : List (List ℕ)) (before after : StoreState) (sink sink_after : SinkState) (end : End) → Answers words before after sink sink_after end
    → IsComplete words before after sink sink_after end
answers-complete words before after sink sink_after end answers =
    complete (request_of words) before after sink sink_after end answers.decision answers.decided answers.told
