use Rattle.std.proofs.Common.{rules}
use Rattle.lbm_store.proofs.Written.{Writes-untold}
use Rattle.lbm_store.proofs.stdout.StdoutSinkSink.write.Goals as goal

pub returns-in-Ok : goal.returns-in-Ok
returns-in-Ok g c = Writes-untold _ _ _ _ _ (search rules)

pub returns-in-Err : goal.returns-in-Err
returns-in-Err g c = Writes-untold _ _ _ _ _ (search rules)
