-- What holds of every case file.
use Rattle.std.specs.Prelude.{◌≡◌, ◌↔◌, ℕ, List, Ok, Err, IsOk, IsSomeAnd}
use Rattle.std.specs.Ordering.{nat_cmp}
use Rattle.std.specs.declared.cmp.Ordering.TheVariants.{Less}
use Rattle.std.specs.Cmp.Lexicographic.{slice_cmp}
use Rattle.lbm_model.specs.Case.{FlowCase, IsCase}
use Rattle.lbm_case.specs.declared.fault.CaseFault.{CaseFault}
use Rattle.lbm_case.specs.declared.fault.CaseFault.TheVariants.{UnknownKey}
use Rattle.lbm_case.specs.Causes.{IsUnknown, HasFaultIn, IsFirstFault}
use Rattle.lbm_case.specs.CaseOf.{table_of, case_of}

-- every case that the bytes of a file spell is one that is accepted
abbrev pub SpellsCases : Type 0
SpellsCases = (bytes : List ℕ) (case : FlowCase) → case_of bytes ≡ Ok case → IsCase case

-- a file is refused for a fault exactly where that is its first fault
abbrev pub RefusesFirstFault : Type 0
RefusesFirstFault = (bytes : List ℕ) (fault : CaseFault) → (case_of bytes ≡ Err fault) ↔ IsFirstFault bytes fault

-- a file spells a case exactly where it has no fault
abbrev pub AcceptsFaultless : Type 0
AcceptsFaultless = (bytes : List ℕ) → IsOk (case_of bytes) ↔ ((fault : CaseFault) → ¬ HasFaultIn (table_of bytes) fault)

-- the unknown key that is told is in the document, is none of the ten, and no such key is less in byte order
abbrev pub RefusesLeastUnknownKey : Type 0
RefusesLeastUnknownKey =
    (bytes name : List ℕ) → case_of bytes ≡ Err (UnknownKey name)
    → IsSomeAnd (table_of bytes) (λ table. IsUnknown table name × ((other : List ℕ) → IsUnknown table other → ¬ (slice_cmp nat_cmp other name ≡ Less)))
