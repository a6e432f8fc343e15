use Rattle.std.proofs.Common.{append-nil, rules}
use Rattle.std.proofs.lemmas.Result.{err_from_is_err_and}
use Rattle.lbm_store.proofs.Written.{Writes-told, Writes-told_front}
use Rattle.lbm_store.proofs.memory_sinks.SureSinkSink.write.Goals as goal

pub returns-in_err-extend_from_slice-clause-writes : goal.returns-in_err-extend_from_slice-clause-writes
returns-in_err-extend_from_slice-clause-writes c =
    let p = err_from_is_err_and c.from_residual.result c.from_residual.ensures.1 in
    rw (p.1, p.2) (Writes-told_front _ _ _ _ _ _ _ 0 (search (rules, append-nil)) (search rules))

pub returns-clause-writes : goal.returns-clause-writes
returns-clause-writes c = Writes-told _ _ _ _ _ _ (search rules)
