-- Files that are read whole.
use Rattle.std.specs.Prelude.{◌≡◌, ℕ, ◌<◌, ◌≤◌, ◌++◌, List, length, Result, Ok, Err, Vec}
use Rattle.std.specs.Global.{Global}
use Rattle.std.specs.Option.{ForSome}
use Rattle.lbm_store.specs.Outside.{Files, StoreState, content}
use Rattle.lbm_model.specs.Case.{FlowCase}
use Rattle.lbm_answer.specs.declared.files.ReadEnd.{ReadEnd}
use Rattle.lbm_answer.specs.declared.files.ReadEnd.TheVariants as read_end
use Rattle.lbm_answer.specs.declared.answer.File.{File}
use Rattle.lbm_answer.specs.declared.answer.End.{End}
use Rattle.lbm_answer.specs.declared.answer.End.TheVariants.{Case, TooLong, Voxel as BadVoxel, StoreFault, Memory}
use Rattle.lbm_answer.specs.Faults.{FaultAt}

-- all the bytes of a file of at most so many, or why not; where no read has failed, the store is as before
abbrev pub ReadsFile : {A : Type 0} → StoreState → StoreState → List ℕ → ℕ → Result (Vec ℕ A) ReadEnd → Type 0
ReadsFile before after name limit (Ok bytes) = (after ≡ before) × (length bytes.items ≤ limit) × ForSome before.files (λ files. bytes.items ≡ content files name)
ReadsFile before after name limit (Err read_end.TooLong) = (after ≡ before) × ForSome before.files (λ files. limit < length (content files name))
ReadsFile before after name limit (Err read_end.Failed) = FaultAt name before.read_faults after.read_faults
ReadsFile before after name limit (Err read_end.Memory) = Unit {0}

-- these bytes were read so far
pub record HasRead (before now : StoreState) (name bytes : List ℕ) : Type 0 where
  pub front : ForSome before.files (λ files. (rest : List ℕ) × (content files name ≡ bytes ++ rest))
  pub files : now.files ≡ before.files
  pub read_faults : now.read_faults ≡ before.read_faults
  pub write_faults : now.write_faults ≡ before.write_faults

-- the bytes of the file of some use with a name, of which there are at most so many, or why there are none
abbrev pub ReadsBytes : {A : Type 0} → File → StoreState → StoreState → List ℕ → ℕ → Result (Vec ℕ A) End → Type 0
ReadsBytes kind before after name limit (Ok bytes) = (after ≡ before) × (length bytes.items ≤ limit) × ForSome before.files (λ files. bytes.items ≡ content files name)
ReadsBytes kind before after name limit (Err (TooLong file)) = (file ≡ kind) × (after ≡ before) × ForSome before.files (λ files. limit < length (content files name))
ReadsBytes kind before after name limit (Err (StoreFault failed)) = (failed ≡ kind) × FaultAt name before.read_faults after.read_faults
ReadsBytes kind before after name limit (Err Memory) = Unit {0}
ReadsBytes kind before after name limit (Err end) = ⊥

-- What is read of the file of some use with a name, seen through view, or why it is refused, as a reading of the files says;
-- where no read has failed, the store is as before.
abbrev pub ReadsAs : {X Y : Type 0} → (X → Y) → File → List ℕ → (Files → Result Y End) → StoreState → StoreState → Result X End → Type 0
ReadsAs view kind name reading before after (Ok x) = (after ≡ before) × ForSome before.files (λ files. reading files ≡ Ok (view x))
ReadsAs view kind name reading before after (Err (TooLong file)) = (after ≡ before) × ForSome before.files (λ files. reading files ≡ Err (TooLong file))
ReadsAs view kind name reading before after (Err (Case fault)) = (after ≡ before) × ForSome before.files (λ files. reading files ≡ Err (Case fault))
ReadsAs view kind name reading before after (Err (BadVoxel fault)) = (after ≡ before) × ForSome before.files (λ files. reading files ≡ Err (BadVoxel fault))
ReadsAs view kind name reading before after (Err (StoreFault failed)) = (failed ≡ kind) × FaultAt name before.read_faults after.read_faults
ReadsAs view kind name reading before after (Err Memory) = Unit {0}
ReadsAs view kind name reading before after (Err end) = ⊥

-- the bytes of a file, and the case that was made of them
abbrev pub read_view : Vec ℕ Global × FlowCase → List ℕ × FlowCase
read_view read = (read.0.items, read.1)
