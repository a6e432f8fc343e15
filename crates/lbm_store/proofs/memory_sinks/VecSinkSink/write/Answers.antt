use Rattle.std.proofs.Common.{length, ◌/◌, append-nil, rules}
use Rattle.std.proofs.lemmas.Result.{err_from_is_err_and}
use Rattle.lbm_store.proofs.Written.{Writes-told, Writes-told_front}
use Rattle.lbm_store.proofs.memory_sinks.VecSinkSink.write.Goals as goal

pub returns-in_err-extend_from_slice-clause-writes : goal.returns-in_err-extend_from_slice-clause-writes
returns-in_err-extend_from_slice-clause-writes c =
    let p = err_from_is_err_and c.from_residual.result c.from_residual.ensures.1 in
    rw (p.1, p.2) (Writes-told_front _ _ _ _ _ _ _ 0 (search (rules, append-nil)) (search rules))

pub returns-then-is_to_fail-clause-writes : goal.returns-then-is_to_fail-clause-writes
returns-then-is_to_fail-clause-writes c = Writes-told_front _ _ _ _ _ _ _ (length c.args.bytes.now / 2) (search rules) (search rules)

pub returns-in_err-extend_from_slice-2-clause-writes : goal.returns-in_err-extend_from_slice-2-clause-writes
returns-in_err-extend_from_slice-2-clause-writes c =
    let p = err_from_is_err_and c.from_residual-in_err-extend_from_slice-2.result c.from_residual-in_err-extend_from_slice-2.ensures.1 in
    rw (p.1, p.2) (Writes-told_front _ _ _ _ _ _ _ 0 (search (rules, append-nil)) (search rules))

pub returns-clause-writes : goal.returns-clause-writes
returns-clause-writes c = Writes-told _ _ _ _ _ _ (search rules)
