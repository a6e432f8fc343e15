-- Readings that go on to their end.
use Rattle.std.proofs.Common.{◌≡◌, Option, Some, None, Result, Ok, Err, ok_or, refl}
use Rattle.lbm_case.specs.declared.fault.CaseFault.{CaseFault}
use Rattle.lbm_model.specs.Refusals.{◌>>=◌}
use Rattle.lbm_case.specs.Refusals.{refuse}

-- what is read is what was found, and where nothing was refused nothing was found
pub found : {A : Type 0} (o : Option A) (x : A) (fault : CaseFault) → ok_or o fault ≡ Ok x → o ≡ Some x
found None x fault given = cc
found (Some y) x fault given = cc

pub nothing_found : {A : Type 0} (fault : A → CaseFault) (o : Option A) (u : Unit {0}) → refuse fault o ≡ Ok u → o ≡ None
nothing_found fault None u given = refl
nothing_found fault (Some x) u given = absurd cc

-- P holds of what a reading gives
pub record Reads {A : Type 0} (P : A → Type 0) (reading : Result A CaseFault) : Type 0 where
  pub at : (x : A) → reading ≡ Ok x → P x

-- it does where it holds of what is given after each value of the first step, and of the last value
pub after : {A B : Type 0} (P : B → Type 0) (step : Result A CaseFault) (f : A → Result B CaseFault) → ((x : A) → step ≡ Ok x → Reads P (f x)) → Reads P (step >>= f)
after P (Ok x) f more = more x refl
after P (Err fault) f more = record { at = λ x given. absurd cc }

pub at_last : {A : Type 0} (P : A → Type 0) (x : A) → P x → Reads P (Ok x)
at_last P x holds = record { at = λ y given. let same : x ≡ y = cc in rw (← same) holds }
