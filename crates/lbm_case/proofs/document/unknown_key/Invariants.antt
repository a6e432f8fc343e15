use Rattle.std.proofs.Common.{◌≡◌}
use Rattle.std.specs.BTreeMap.{keys}
use Rattle.lbm_case.proofs.TableLemmas.{first_unknown}
use Rattle.lbm_case.proofs.document.unknown_key.Given as goal

abbrev pub invariant-loop-name : goal.invariant-loop-name
invariant-loop-name l = first_unknown (keys l.table) ≡ first_unknown l.name-iterator
