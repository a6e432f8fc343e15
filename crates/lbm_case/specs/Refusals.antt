-- How a reading of a case file is refused.
use Rattle.std.specs.Prelude.{◌≡◌, Option, Some, None, Result, Ok, Err}
use Rattle.lbm_case.specs.declared.fault.CaseFault.{CaseFault}
use Rattle.lbm_case.specs.declared.fault.CaseEnd.{CaseEnd}
use Rattle.lbm_case.specs.declared.fault.CaseEnd.TheVariants.{Fault, Memory}

-- a refusal for what was found, if anything was
abbrev pub refuse : {A : Type 0} → (A → CaseFault) → Option A → Result (Unit {0}) CaseFault
refuse fault None = Ok tt
refuse fault (Some x) = Err (fault x)

-- how a function ended in place of a value, beside what the reading gives: with its refusal, or for want of memory
abbrev pub Refuses : {Y : Type 0} → CaseEnd → Result Y CaseFault → Type 0
Refuses Memory reading = Unit {0}
Refuses (Fault fault) reading = reading ≡ Err fault
