-- How a reading of words ends.
use Rattle.std.specs.Prelude.{◌≡◌, Option, Some, None, Result, Ok, Err}
use Rattle.clap.specs.declared.error.kind.ErrorKind.{ErrorKind}
use Rattle.clap.specs.declared.error.kind.ErrorKind.TheVariants.{OutOfMemory}
use Rattle.lbm_words.specs.declared.end.WordsEnd.{WordsEnd}
use Rattle.lbm_words.specs.declared.end.WordsEnd.TheVariants.{Usage, Memory}

-- the end for a kind of error
abbrev pub end_of : ErrorKind → WordsEnd
end_of OutOfMemory = Memory
end_of _ = Usage

-- what a function gave, seen through view, is what the reading gives, unless memory ran out
abbrev pub Gives : {X Y : Type 0} → (X → Y) → Result X WordsEnd → Option Y → Type 0
Gives view (Ok x) reading = reading ≡ Some (view x)
Gives view (Err Usage) reading = reading ≡ None
Gives view (Err Memory) reading = Unit {0}
