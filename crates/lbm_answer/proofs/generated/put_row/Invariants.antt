use Rattle.std.proofs.Common.{◌≡◌, ◌++◌}
use Rattle.std.specs.Prelude.{codes}
use Rattle.lbm_space.specs.Sum.{list_below}
use Rattle.lbm_answer.specs.Gen.{gen_cell}
use Rattle.lbm_answer.proofs.generated.put_row.Given as goal

abbrev pub invariant-loop-x : goal.invariant-loop-x
invariant-loop-x l = l.text.items ≡ l.fn.text.items ++ codes "\"" ++ list_below l.x (λ x. gen_cell l.n x l.y)
