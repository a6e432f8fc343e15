-- One name of a store, seen as a sink.
use Rattle.std.specs.Prelude.{ℕ, List, [], Option, Some, None, ◌≡◌, ◌⊎◌, Result, OnOk, OnErr}
use Rattle.lbm_store.specs.declared.outside.IoEnd.{IoEnd}
use Rattle.lbm_store.specs.Outside.{Files, StoreState, SinkState, Rest, HasCause, SameBeside, SomeFront, with, content}

-- the files at all names but this one
unfoldable pub other_files : Option Files → List ℕ → Option Files
other_files None name = None
other_files (Some files) name = Some (with files name None)

-- the bytes of a name, where files are told
unfoldable pub content_of : Option Files → List ℕ → Option (List ℕ)
content_of None name = None
content_of (Some files) name = Some (content files name)

-- these bytes, where files are told
unfoldable pub replaced : Option Files → List ℕ → Option (List ℕ)
replaced None bytes = None
replaced (Some files) bytes = Some bytes

-- A name that was made empty was then written to. After Ok it holds these bytes, and after an error its old bytes or a front of these.
pub record WritesFile {T : Type 0} (before after : StoreState) (result : Result T IoEnd) (name bytes : List ℕ) : Type 0 where
  pub ok : OnOk result (content_of after.files name ≡ replaced before.files bytes)
  pub err : OnErr result ((content_of after.files name ≡ content_of before.files name) ⊎ SomeFront bytes (λ front. content_of after.files name ≡ replaced before.files front))
  pub others : other_files after.files name ≡ other_files before.files name
  pub cause : HasCause (before.write_faults name) (after.write_faults name) result
  pub other_faults : SameBeside name before.write_faults after.write_faults
  pub read_faults : after.read_faults ≡ before.read_faults

-- all of a store but the bytes and the write count of this name
abbrev pub rest_of : StoreState → List ℕ → ℕ → Rest
rest_of store name loan = record {
  name = name;
  other_files = other_files store.files name;
  read_faults = store.read_faults;
  other_write_faults = with store.write_faults name 0;
  loan = loan;
}

-- a store, as the sink that appends to this name, which holds the store by this loan
abbrev pub sink_of : StoreState → List ℕ → ℕ → SinkState
sink_of store name loan = record { written = content_of store.files name; faults = store.write_faults name; rest = rest_of store name loan }

-- the rest of a sink that stands alone
abbrev pub no_rest : Rest
no_rest = record { name = []; other_files = None; read_faults = λ _. 0; other_write_faults = λ _. 0; loan = 0 }

-- a sink that tells no bytes, by its count
abbrev pub untold_sink : ℕ → SinkState
untold_sink faults = record { written = None; faults = faults; rest = no_rest }
