use Rattle.std.proofs.Common.{◌≡◌, None, rules}
use Rattle.std.specs.String.{string_bytes}
use Rattle.std.specs.BTreeMap.{get_by_text}
use Rattle.lbm_store.proofs.MapLemmas.{counts_of-unchanged, counts_of-room, not_some}
use Rattle.lbm_store.proofs.counts.FaultCounts.make_room.Goals as goal

pub returns-in_err-insert-clause-same : goal.returns-in_err-insert-clause-same
returns-in_err-insert-clause-same c = counts_of-unchanged _ _ c.in_err-insert.ensures.err

pub returns-in_ok-insert-clause-same : goal.returns-in_ok-insert-clause-same
returns-in_ok-insert-clause-same c =
    let none : get_by_text c.args.self.now.counts c.args.name.now ≡ None = not_some _ (search rules) in
    counts_of-room _ _ (string_bytes c.in_ok-key.key) c.in_ok-insert.ensures.updates (rw c.in_ok-key.ensures.ok none)
