use Rattle.std.proofs.Common.{rules}
use Rattle.lbm_store.proofs.MapLemmas.{counts_of-risen}
use Rattle.lbm_store.proofs.counts.FaultCounts.raise.Goals as goal

pub returns-in-Some : goal.returns-in-Some
returns-in-Some c =
    counts_of-risen _ _ _ c.in-Some.count.now c.saturating_add.result c.in-Some.ensures.value (search rules) c.saturating_add.ensures
    ((c.get_mut.follows.holds c.saturating_add.result).3 (search rules))
