use Rattle.std.proofs.Common.{rules}
use Rattle.lbm_store.proofs.MapLemmas.{files_of-new}
use Rattle.lbm_store.proofs.named_files.NamedFiles.new.Goals as goal

pub returns : goal.returns
returns c = files_of-new _ (search rules)
