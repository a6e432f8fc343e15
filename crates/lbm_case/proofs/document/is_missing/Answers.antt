use Rattle.lbm_case.specs.Keys.{name_of}
use Rattle.lbm_case.proofs.TableLemmas.{absent-lookup}
use Rattle.lbm_case.proofs.document.is_missing.Goals as goal

pub returns : goal.returns
returns c = rw (c.contains_key.ensures, c.name.ensures) (absent-lookup (name_of c.args.key) c.args.table.now.entries)
