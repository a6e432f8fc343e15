-- Stores and sinks in memory: what they hold, and exactly what their calls do.
use Rattle.std.specs.Prelude.{◌≡◌, ◌⊎◌, ℕ, ◌+◌, ◌-◌, ◌/◌, ◌^◌, min, Bool, true, false, nat_eq, List, [], ◌++◌, length, take, Some, None, IsSome, Result, Ok, Err}
use Rattle.std.specs.List.{list_any}
use Rattle.lbm_store.specs.declared.outside.IoEnd.{IoEnd}
use Rattle.lbm_store.specs.declared.outside.IoEnd.TheVariants.{Failed, Memory}
use Rattle.lbm_store.specs.declared.map_store.MapStore.{MapStore}
use Rattle.lbm_store.specs.declared.sure_store.SureStore.{SureStore}
use Rattle.lbm_store.specs.declared.memory_sinks.VecSink.{VecSink}
use Rattle.lbm_store.specs.declared.memory_sinks.SureSink.{SureSink}
use Rattle.lbm_store.specs.Maps.{counts_of, files_of}
use Rattle.lbm_store.specs.Outside.{Files, Counts, StoreState, SinkState, ReadsAt, content, no_files, no_faults, with_fault, with, next_count}
use Rattle.lbm_store.specs.Sinks.{no_rest}

-- ---- calls by number

-- the next call is among those that are to fail
abbrev pub is_to_fail : List ℕ → ℕ → Bool
is_to_fail failing made = list_any (λ n. nat_eq n made) failing

-- the number of the call behind this one
abbrev pub next_call : ℕ → ℕ
next_call made = min (made + 1) (2 ^ 64 - 1)

-- ---- the store in which chosen calls fail

-- its files, how often reads and writes of each name have failed, the numbers of the calls that are to fail, and how many were made
pub record MapState : Type 0 where
  pub files : Files
  pub read_faults : Counts
  pub write_faults : Counts
  pub failing : List ℕ
  pub made : ℕ

abbrev pub map_state : MapStore → MapState
map_state store = record {
  files = files_of store.files;
  read_faults = counts_of store.read_faults;
  write_faults = counts_of store.write_faults;
  failing = store.calls.failing.items;
  made = store.calls.made;
}

-- with no names, no failures and no calls yet
abbrev pub new_map : List ℕ → MapState
new_map failing = record { files = no_files; read_faults = no_faults; write_faults = no_faults; failing = failing; made = 0 }

-- of it what every store has
abbrev pub store_of : MapState → StoreState
store_of store = record { files = Some store.files; read_faults = store.read_faults; write_faults = store.write_faults }

abbrev pub map_store : MapStore → StoreState
map_store store = store_of (map_state store)

-- the next call is one that is to fail
abbrev pub is_failing : MapState → Bool
is_failing store = is_to_fail store.failing store.made

-- What a read answers and leaves: it fails where its call is to fail, and where the name is not there.
abbrev pub MapReads : MapState → MapState → Result ℕ IoEnd → List ℕ → ℕ → List ℕ → Type 0
MapReads before after (Ok count) name at buffer =
    (is_failing before ≡ false) × IsSome (before.files name)
    × (count ≡ min (length buffer) (length (content before.files name) - at)) × ReadsAt (content before.files name) at count buffer
    × (after ≡ record before { made = next_call before.made })
MapReads before after (Err Failed) name at buffer =
    ((is_failing before ≡ true) ⊎ (before.files name ≡ None))
    × (after ≡ record before { read_faults = with_fault before.read_faults name; made = next_call before.made })
MapReads before after (Err Memory) name at buffer = after ≡ before

-- What a call that makes a name hold no bytes answers and leaves.
abbrev pub MapCreates : MapState → MapState → Result (Unit {0}) IoEnd → List ℕ → Type 0
MapCreates before after (Ok done) name =
    (is_failing before ≡ false)
    × (after ≡ record before { files = with before.files name (Some []); made = next_call before.made })
MapCreates before after (Err Failed) name =
    (is_failing before ≡ true)
    × (after ≡ record before { write_faults = with_fault before.write_faults name; made = next_call before.made })
MapCreates before after (Err Memory) name = after ≡ before

-- What a call that adds bytes to a name answers and leaves: where it fails, it adds the first half of them.
abbrev pub MapAppends : MapState → MapState → Result (Unit {0}) IoEnd → List ℕ → List ℕ → Type 0
MapAppends before after (Ok done) name bytes =
    (is_failing before ≡ false)
    × (after ≡ record before { files = with before.files name (Some (content before.files name ++ bytes)); made = next_call before.made })
MapAppends before after (Err Failed) name bytes =
    (is_failing before ≡ true)
    × (after ≡ record before {
      files = with before.files name (Some (content before.files name ++ take (length bytes / 2) bytes));
      write_faults = with_fault before.write_faults name;
      made = next_call before.made;
    })
MapAppends before after (Err Memory) name bytes = after ≡ before

-- ---- the store that never fails

abbrev pub sure_files : SureStore → Files
sure_files store = files_of store.files

abbrev pub sure_store : SureStore → StoreState
sure_store store = record { files = Some (sure_files store); read_faults = no_faults; write_faults = no_faults }

-- ---- the sink in which chosen writes fail

-- its bytes, how often a write has failed, the numbers of the writes that are to fail, and how many were made
pub record VecState : Type 0 where
  pub bytes : List ℕ
  pub faults : ℕ
  pub failing : List ℕ
  pub made : ℕ

abbrev pub vec_state : VecSink → VecState
vec_state sink = record { bytes = sink.bytes.items; faults = sink.faults; failing = sink.calls.failing.items; made = sink.calls.made }

-- with no bytes, no failures and no writes yet
abbrev pub new_vec : List ℕ → VecState
new_vec failing = record { bytes = []; faults = 0; failing = failing; made = 0 }

-- a sink that stands alone and has got these bytes
abbrev pub memory_sink : List ℕ → ℕ → SinkState
memory_sink bytes faults = record { written = Some bytes; faults = faults; rest = no_rest }

abbrev pub vec_sink : VecSink → SinkState
vec_sink sink = let state = vec_state sink in memory_sink state.bytes state.faults

-- What a write answers and leaves: where it fails, it adds the first half of the bytes.
abbrev pub VecWrites : VecState → VecState → Result (Unit {0}) IoEnd → List ℕ → Type 0
VecWrites before after (Ok done) bytes =
    (is_to_fail before.failing before.made ≡ false) × (after ≡ record before { bytes = before.bytes ++ bytes; made = next_call before.made })
VecWrites before after (Err Failed) bytes =
    (is_to_fail before.failing before.made ≡ true)
    × (after ≡ record before { bytes = before.bytes ++ take (length bytes / 2) bytes; faults = next_count before.faults; made = next_call before.made })
VecWrites before after (Err Memory) bytes = after ≡ before

-- ---- the sink that never fails

abbrev pub sure_bytes : SureSink → List ℕ
sure_bytes sink = sink.bytes.items

abbrev pub sure_sink : SureSink → SinkState
sure_sink sink = memory_sink (sure_bytes sink) 0
