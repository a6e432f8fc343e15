use Rattle.std.proofs.Common.{◌≡◌, true, not, sym, ap, ◌∙◌, length, arith, rules}
use Rattle.std.proofs.lemmas.List.Sums.{position_or_len_is}
use Rattle.lbm_voxel.proofs.Runs.{is_other}
use Rattle.lbm_voxel.proofs.text.blanks.Goals as goal

pub returns-then-not-is_blank-clause-value : goal.returns-then-not-is_blank-clause-value
returns-then-not-is_blank-clause-value c =
    let here : not c.is_blank.result ≡ true = search rules in
    sym (position_or_len_is is_other c.args.text.now c.loop-n.n 0 (omega arith) c.loop-n.invariant (λ _. ap not (sym c.is_blank.ensures) ∙ here))

pub returns-clause-value : goal.returns-clause-value
returns-clause-value c = sym (position_or_len_is is_other c.args.text.now (length c.args.text.now) 0 (omega arith) (λ k within. c.loop-n.invariant k (omega arith)) (λ past. absurd (omega arith)))
