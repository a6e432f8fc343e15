-- What lies outside the program: files by name, a sink, and how often each has failed.
use Rattle.std.specs.Prelude.{◌≡◌, ◌⊎◌, ℕ, ◌+◌, ◌-◌, ◌^◌, ◌≤◌, List, [], ◌++◌, length, take, drop, cond, Option, Some, None, unwrap_or, Result, OnOk, OnErr, IfOk, IsErrOf, min, max}
use Rattle.std.specs.Option.{ForSome}
use Rattle.std.specs.Str.{bytes_eq}
use Rattle.lbm_store.specs.declared.outside.IoEnd.{IoEnd}
use Rattle.lbm_store.specs.declared.outside.IoEnd.TheVariants.{Failed}

-- the bytes of each name; None at a name that is not there
abbrev pub Files : Type 0
Files = List ℕ → Option (List ℕ)

-- a count for each name
abbrev pub Counts : Type 0
Counts = List ℕ → ℕ

-- f, with v at this name
unfoldable pub with : {V : Type 0} → (List ℕ → V) → List ℕ → V → List ℕ → V
with f name v other = cond (bytes_eq name other) v (f other)

-- the bytes of a name; one that is not there counts as empty
abbrev pub content : Files → List ℕ → List ℕ
content files name = unwrap_or (files name) []

-- no name is there
abbrev pub no_files : Files
no_files name = None

-- nothing has failed
abbrev pub no_faults : Counts
no_faults name = 0

-- a count, one higher, as far as a u64 goes
abbrev pub next_count : ℕ → ℕ
next_count count = max count (min (count + 1) (2 ^ 64 - 1))

-- the counts, with that of this name one higher
unfoldable pub with_fault : Counts → List ℕ → Counts
with_fault counts name = with counts name (next_count (counts name))

-- a store, as contracts see it: its files where it tells them, and how often reads and writes of each name have failed
pub record StoreState : Type 0 where
  pub files : Option Files
  pub read_faults : Counts
  pub write_faults : Counts

-- What no write to a sink changes. For a sink that appends to one name of a store it is that name, all else of the store,
-- and the loan by which the sink holds the store.
pub record Rest : Type 0 where
  pub name : List ℕ
  pub other_files : Option Files
  pub read_faults : Counts
  pub other_write_faults : Counts
  pub loan : ℕ

-- a sink, as contracts see it: what was written where it tells that, how often a write has failed, and what no write changes
pub record SinkState : Type 0 where
  pub written : Option (List ℕ)
  pub faults : ℕ
  pub rest : Rest

-- A count rose. One that stands at the end of a u64 can rise no more.
abbrev pub Rose : ℕ → ℕ → Type 0
Rose before now = min (before + 1) (2 ^ 64 - 1) ≤ now

-- A count does not fall, stays where the call answers Ok, and rose where it answers Failed.
pub record HasCause {T : Type 0} (before now : ℕ) (result : Result T IoEnd) : Type 0 where
  pub later : before ≤ now
  pub kept : OnOk result (now ≡ before)
  pub failed : IsErrOf result Failed → Rose before now

-- the counts are the same at all names but this one
abbrev pub SameBeside : List ℕ → Counts → Counts → Type 0
SameBeside name before now = with now name 0 ≡ with before name 0

-- files that may be told: with this name empty
unfoldable pub emptied : Option Files → List ℕ → Option Files
emptied None name = None
emptied (Some files) name = Some (with files name (Some []))

-- files that may be told: with these bytes behind those of the name
unfoldable pub appended : Option Files → List ℕ → List ℕ → Option Files
appended None name bytes = None
appended (Some files) name bytes = Some (with files name (Some (content files name ++ bytes)))

-- bytes that may be told: with these behind them
unfoldable pub followed : Option (List ℕ) → List ℕ → Option (List ℕ)
followed None bytes = None
followed (Some written) bytes = Some (written ++ bytes)

-- what was written, where it is told, grew from one to the other
abbrev pub GrowsTo : Option (List ℕ) → Option (List ℕ) → Type 0
GrowsTo before after = (more : List ℕ) × (after ≡ followed before more)

-- A sink has got a front of the bytes, which may be none of them or all.
pub record GotFront (before after : Option (List ℕ)) (bytes : List ℕ) : Type 0 where
  pub kept : GrowsTo before after
  pub within : GrowsTo after (followed before bytes)

-- What a call that writes these bytes makes of a sink: after Ok it has got them, and after an error a front of them.
pub record Writes {T : Type 0} (before after : SinkState) (result : Result T IoEnd) (bytes : List ℕ) : Type 0 where
  pub ok : OnOk result (after.written ≡ followed before.written bytes)
  pub err : OnErr result (GotFront before.written after.written bytes)
  pub cause : HasCause before.faults after.faults result
  pub rest : after.rest ≡ before.rest

-- some front of the bytes, which may be none of them or all, meets P
abbrev pub SomeFront : List ℕ → (List ℕ → Type 0) → Type 0
SomeFront bytes P = (front : List ℕ) × (back : List ℕ) × (bytes ≡ front ++ back) × P front

-- a read of these bytes from a place on put n of them at the front of the buffer: at least one, if there is one and room for it
pub record ReadsAt (bytes : List ℕ) (at n : ℕ) (buffer : List ℕ) : Type 0 where
  pub front : take n buffer ≡ take n (drop at bytes)
  pub within : n ≤ length bytes - at
  pub some : n ≡ 0 → (length bytes ≤ at) ⊎ (length buffer ≡ 0)

-- What a read does: it changes no file, and no count but the read count of its name.
pub record Reads (before after : StoreState) (result : Result ℕ IoEnd) (name : List ℕ) (at : ℕ) (buffer : List ℕ) : Type 0 where
  pub bound : IfOk result (λ n. n ≤ length buffer)
  pub bytes : IfOk result (λ n. ForSome before.files (λ files. ReadsAt (content files name) at n buffer))
  pub files : after.files ≡ before.files
  pub cause : HasCause (before.read_faults name) (after.read_faults name) result
  pub others : SameBeside name before.read_faults after.read_faults
  pub write_faults : after.write_faults ≡ before.write_faults

-- What a call that makes a name hold no bytes does: it changes no other name, and no count but the write count of its name.
pub record Creates {T : Type 0} (before after : StoreState) (result : Result T IoEnd) (name : List ℕ) : Type 0 where
  pub ok : OnOk result (after.files ≡ emptied before.files name)
  pub err : OnErr result ((after.files ≡ before.files) ⊎ (after.files ≡ emptied before.files name))
  pub cause : HasCause (before.write_faults name) (after.write_faults name) result
  pub others : SameBeside name before.write_faults after.write_faults
  pub read_faults : after.read_faults ≡ before.read_faults

-- What a call that adds bytes to a name does: it changes no other name, and no count but the write count of its name.
pub record Appends {T : Type 0} (before after : StoreState) (result : Result T IoEnd) (name bytes : List ℕ) : Type 0 where
  pub ok : OnOk result (after.files ≡ appended before.files name bytes)
  pub err : OnErr result ((after.files ≡ before.files) ⊎ SomeFront bytes (λ front. after.files ≡ appended before.files name front))
  pub cause : HasCause (before.write_faults name) (after.write_faults name) result
  pub others : SameBeside name before.write_faults after.write_faults
  pub read_faults : after.read_faults ≡ before.read_faults

-- a store that tells no bytes, by its counts
abbrev pub untold_store : Counts → Counts → StoreState
untold_store read_faults write_faults = record { files = None; read_faults = read_faults; write_faults = write_faults }
