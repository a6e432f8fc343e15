use Rattle.std.proofs.Common.{rules}
use Rattle.lbm_store.proofs.MapLemmas.{counts_of-new}
use Rattle.lbm_store.proofs.counts.FaultCounts.new.Goals as goal

pub returns : goal.returns
returns c = counts_of-new _ (search rules)
