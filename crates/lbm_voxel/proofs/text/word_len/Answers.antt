use Rattle.std.proofs.Common.{sym, ◌∙◌, length, arith}
use Rattle.std.proofs.lemmas.List.Sums.{position_or_len_is}
use Rattle.lbm_voxel.specs.Text.{is_blank}
use Rattle.lbm_voxel.proofs.text.word_len.Goals as goal

pub returns-then-is_blank-clause-value : goal.returns-then-is_blank-clause-value
returns-then-is_blank-clause-value c =
    sym (position_or_len_is is_blank c.args.text.now c.loop-n.n 0 (omega arith) c.loop-n.invariant (λ _. sym c.is_blank.ensures ∙ c.if-is_blank.true))

pub returns-clause-value : goal.returns-clause-value
returns-clause-value c = sym (position_or_len_is is_blank c.args.text.now (length c.args.text.now) 0 (omega arith) (λ k within. c.loop-n.invariant k (omega arith)) (λ past. absurd (omega arith)))
