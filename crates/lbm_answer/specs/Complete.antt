-- That nothing but a counted fault and want of memory keeps a call from the answer of the definition.
use Rattle.std.specs.Prelude.{◌≡◌, ◌⊎◌, ℕ, List, Option, Some, None, Result, Ok, Err}
use Rattle.std.specs.Option.{ForSome}
use Rattle.lbm_store.specs.Outside.{Files, StoreState, SinkState, Rose}
use Rattle.lbm_words.specs.Request.{Request}
use Rattle.lbm_words.specs.Words.{request_of}
use Rattle.lbm_answer.specs.declared.answer.File.{File}
use Rattle.lbm_answer.specs.declared.answer.End.{End}
use Rattle.lbm_answer.specs.declared.answer.End.TheVariants.{Done, Usage, Memory}
use Rattle.lbm_answer.specs.Outcome.{Finished, outcome}
use Rattle.lbm_answer.specs.Faults.{FaultRose}
use Rattle.lbm_answer.specs.Answer.{name_of}

-- the answer of the definition
abbrev pub answer_of : Result Finished End → End
answer_of (Ok left) = Done
answer_of (Err refused) = refused

abbrev pub answer_to : Option Request → Files → End
answer_to (Some request) files = answer_of (outcome request files)
answer_to None files = Usage

-- the store has counted a fault of a file that the words name
abbrev pub StoreRose : Option Request → StoreState → StoreState → Type 0
StoreRose (Some request) before after = (file : File) × FaultRose (name_of request) file before after
StoreRose None before after = ⊥

-- where nothing was counted, the answer is that of the definition or want of memory
abbrev pub IsComplete : List (List ℕ) → StoreState → StoreState → SinkState → SinkState → End → Type 0
IsComplete words store store_after sink sink_after end =
    ¬ (StoreRose (request_of words) store store_after) → ¬ (Rose sink.faults sink_after.faults)
    → ForSome store.files (λ files. (end ≡ answer_to (request_of words) files) ⊎ (end ≡ Memory))
