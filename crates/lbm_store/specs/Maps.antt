-- Maps under names, seen as functions of the name.
use Rattle.std.specs.Prelude.{ℕ, List, unwrap_or, option_map, IsSome}
use Rattle.std.specs.BTreeMap.{get_by_text}
use Rattle.lbm_store.specs.declared.counts.FaultCounts.{FaultCounts}
use Rattle.lbm_store.specs.declared.named_files.NamedFiles.{NamedFiles}
use Rattle.lbm_store.specs.Outside.{Files, Counts}

-- the count at each name
unfoldable pub counts_of : FaultCounts → Counts
counts_of faults name = unwrap_or (get_by_text faults.counts name) 0

-- the count of a name can rise without memory
abbrev pub HasRoom : FaultCounts → List ℕ → Type 0
HasRoom faults name = IsSome (get_by_text faults.counts name)

-- the bytes at each name
unfoldable pub files_of : NamedFiles → Files
files_of held name = option_map (λ v. v.items) (get_by_text held.files name)
