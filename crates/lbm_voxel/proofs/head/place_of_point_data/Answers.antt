use Rattle.std.proofs.Common.{sym, ◌∙◌, length, arith}
use Rattle.std.proofs.lemmas.List.Sums.{position_or_len_is}
use Rattle.lbm_voxel.specs.Head.{is_point_data}
use Rattle.lbm_voxel.specs.declared.head.WordKind.TheVariants.{Dataset}
use Rattle.lbm_voxel.proofs.head.place_of_point_data.Goals as goal

pub returns-then-is_point_data-clause-value : goal.returns-then-is_point_data-clause-value
returns-then-is_point_data-clause-value c =
    sym (position_or_len_is is_point_data c.args.head.now c.loop-n.n _ (omega arith) c.loop-n.invariant (λ _. sym c.is_point_data.ensures ∙ c.if-is_point_data.true))

pub returns-clause-value : goal.returns-clause-value
returns-clause-value c = sym (position_or_len_is is_point_data c.args.head.now (length c.args.head.now) Dataset (omega arith) (λ k within. c.loop-n.invariant k (omega arith)) (λ past. absurd (omega arith)))
