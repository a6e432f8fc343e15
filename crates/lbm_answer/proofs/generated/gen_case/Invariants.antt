use Rattle.std.proofs.Common.{◌≡◌, ◌++◌}
use Rattle.std.specs.Prelude.{codes}
use Rattle.std.specs.List.{flat_map}
use Rattle.lbm_space.specs.Sum.{list_below}
use Rattle.lbm_answer.specs.Gen.{gen_row}
use Rattle.lbm_answer.proofs.generated.gen_case.Given as goal

abbrev pub invariant-loop-y : goal.invariant-loop-y
invariant-loop-y l = l.text.items ≡ codes "set = \"D2Q9\"\nomega = [1, 1]\nforce = [1, 0, 0]\nmap = [\n" ++ flat_map (gen_row l.n) (list_below l.y (λ y. y))
