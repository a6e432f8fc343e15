use Rattle.std.proofs.Common.{length, ap, arith}
use Rattle.std.proofs.lemmas.List.FromFn.{fill_by_all}
use Rattle.lbm_arrays.specs.LentRanges.{range_start}
use Rattle.lbm_arrays.proofs.slabs.firsts_of.Goals as goal

pub returns-clause-begins : goal.returns-clause-begins
returns-clause-begins c =
    let shifts = c.args.shifts.now.items in let past = c.loop-k-test.false in let end = c.loop-k.auto.k-end in let count = c.loop-k.invariant.count in
    let same = ap length c.as_slice-shift-items.ensures.value in
    fill_by_all (λ k. range_start c.args.space.now c.args.margin shifts k 0) c.loop-k.firsts.items (length shifts) 0 (omega arith) (λ k known. c.loop-k.invariant.begins k (omega arith))
