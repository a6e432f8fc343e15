use Rattle.std.proofs.Common.{rules}
use Rattle.lbm_case.proofs.TableLemmas.{first_unknown-keys}
use Rattle.lbm_case.proofs.document.unknown_key.Goals as goal

pub returns-then-not-is_known : goal.returns-then-not-is_known
returns-then-not-is_known c = rw (first_unknown-keys c.args.table.now.entries c.keys-name-items.ensures.ordered, c.loop-name.invariant) (search rules)

pub returns : goal.returns
returns c = rw (first_unknown-keys c.args.table.now.entries c.keys-name-items.ensures.ordered, c.loop-name.invariant) (search rules)
