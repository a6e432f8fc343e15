use Rattle.std.proofs.Common.{sym, arith}
use Rattle.std.proofs.lemmas.Bool.{eq-eqb}
use Rattle.std.proofs.lemmas.List.Sums.{position_or_len_is}
use Rattle.lbm_voxel.specs.Text.{is_line_feed}
use Rattle.lbm_voxel.proofs.text.line_len.Goals as goal
use Rattle.std.proofs.Common.{length}

pub returns-then-byte-eq10 : goal.returns-then-byte-eq10
returns-then-byte-eq10 c = sym (position_or_len_is is_line_feed c.args.text.now c.loop-n.n 0 (omega arith) c.loop-n.invariant (λ _. eq-eqb _ _ c.if-byte-eq10.true))

pub returns : goal.returns
returns c = sym (position_or_len_is is_line_feed c.args.text.now (length c.args.text.now) 0 (omega arith) (λ k within. c.loop-n.invariant k (omega arith)) (λ past. absurd (omega arith)))
