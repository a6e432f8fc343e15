use Rattle.std.specs.String.{string_bytes}
use Rattle.lbm_store.proofs.MapLemmas.{files_of-unchanged, files_of-put}
use Rattle.lbm_store.proofs.Written.{OnErr-always}
use Rattle.lbm_store.proofs.named_files.NamedFiles.put.Goals as goal

pub returns-in_err-insert-clause-err : goal.returns-in_err-insert-clause-err
returns-in_err-insert-clause-err c = OnErr-always _ (files_of-unchanged _ _ c.in_err-insert.ensures.err)

pub returns-clause-ok : goal.returns-clause-ok
returns-clause-ok c =
    rw (← c.in_ok-key.ensures.ok, ← c.in_ok-held.ensures.items)
    (files_of-put _ _ (string_bytes c.in_ok-key.key) c.in_ok-held.held c.in_ok-insert.ensures.updates)
