-- What a hasher does that is fed. For private functions alone: no public contract rests on it.
use Rattle.std.specs.Prelude.{ℕ, List, ◌++◌}
use Rattle.sha2.specs.Hashers.{Holds256}
use Rattle.sha2.specs.declared.Sha256.{Sha256}

-- it took these bytes in, behind those that it held
abbrev pub Takes : Sha256 → Sha256 → List ℕ → Type 0
Takes before after bytes = (held : List ℕ) → Holds256 before held → Holds256 after (held ++ bytes)
