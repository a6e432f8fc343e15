-- Laws of what a hasher takes in: nothing, and one thing behind another.
use Rattle.std.proofs.Common.{◌≡◌, List, ℕ, [], ◌++◌, Result, Ok, Err, OnOk, sym, subst, append_assoc, append-nil}
use Rattle.sha2.specs.Hashers.{Holds256}
use Rattle.sha2.specs.declared.Sha256.{Sha256}
use Rattle.lbm_ckpt.specs.Hashing.{Takes}

pub Takes-none : (hasher : Sha256) → Takes hasher hasher []
Takes-none hasher held h = subst (λ bytes. Holds256 hasher bytes) (sym (append-nil held)) h

pub Takes-then : (before between after : Sha256) (front back : List ℕ) → Takes before between front → Takes between after back → Takes before after (front ++ back)
Takes-then before between after front back p q held h = subst (λ bytes. Holds256 after bytes) (append_assoc held front back) (q (held ++ front) (p held h))

-- the bytes, spelled otherwise
pub Takes-is : (before after : Sha256) (bytes other : List ℕ) → bytes ≡ other → Takes before after bytes → Takes before after other
Takes-is before after bytes other e p = subst (λ b. Takes before after b) e p

pub Takes-on_ok : {T E : Type 0} (result : Result T E) (before after : Sha256) (bytes other : List ℕ) → bytes ≡ other → OnOk result (Takes before after bytes) → OnOk result (Takes before after other)
Takes-on_ok (Ok x) before after bytes other e p = Takes-is before after bytes other e p
Takes-on_ok (Err x) before after bytes other e p = tt

-- what is known in any case is known after Ok
pub Takes-if_ok : {T E : Type 0} (result : Result T E) (before after : Sha256) (bytes : List ℕ) → Takes before after bytes → OnOk result (Takes before after bytes)
Takes-if_ok (Ok x) before after bytes p = p
Takes-if_ok (Err x) before after bytes p = tt
