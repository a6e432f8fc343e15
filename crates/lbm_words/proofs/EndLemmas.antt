-- How a reading of words ends.
use Rattle.std.proofs.Common.{◌≡◌}
use Rattle.std.specs.Prelude.{Option, None, Err}
use Rattle.lbm_words.specs.declared.end.WordsEnd.{WordsEnd}
use Rattle.lbm_words.specs.declared.end.WordsEnd.TheVariants.{Usage, Memory}
use Rattle.lbm_words.specs.Ends.{Gives}

-- where the reading gives nothing, any end will do
pub Gives-nothing : {X Y : Type 0} (view : X → Y) (end : WordsEnd) (reading : Option Y) → reading ≡ None → Gives view (Err end) reading
Gives-nothing view Usage reading none = none
Gives-nothing view Memory reading none = tt
