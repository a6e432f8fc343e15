use Rattle.std.proofs.Common.{sym}
use Rattle.lbm_store.proofs.MapLemmas.{files_of-at, files_of-none}
use Rattle.lbm_store.proofs.named_files.NamedFiles.get.Goals as goal

pub returns-in-Some : goal.returns-in-Some
returns-in-Some c = rw c.as_slice.ensures.value (sym (files_of-at _ _ c.in-Some.held.now c.in-Some.ensures.value))

pub returns-in-None : goal.returns-in-None
returns-in-None c = sym (files_of-none _ _ (sym c.in-None.ensures.value))
