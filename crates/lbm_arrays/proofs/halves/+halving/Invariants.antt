use Rattle.std.proofs.Common.{◌+◌, ◌-◌, ◌*◌}
use Rattle.lbm_arrays.proofs.halves.+halving.Given as goal

abbrev pub decreases-by_halves : goal.decreases-by_halves
decreases-by_halves g l = 6 * (l.span.to - l.span.from)

abbrev pub decreases-parts : goal.decreases-parts
decreases-parts g l = 6 * (l.first.to - l.first.from + (l.second.to - l.second.from)) - 1

abbrev pub decreases-both : goal.decreases-both
decreases-both g l = 6 * (l.first.to - l.first.from + (l.second.to - l.second.from)) - 2

abbrev pub decreases-both-front : goal.decreases-both-front
decreases-both-front g l = 6 * (l.first.to - l.first.from) + 1

abbrev pub decreases-both-back : goal.decreases-both-back
decreases-both-back g l = 6 * (l.second.to - l.second.from) + 1
