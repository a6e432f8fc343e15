use Rattle.std.proofs.Common.{◌≡◌, ◌++◌}
use Rattle.lbm_space.specs.Sum.{list_below}
use Rattle.lbm_cell.specs.Moments.{populations}
use Rattle.lbm_model.proofs.first.push_cell.Given as goal

abbrev pub invariant-loop-i : goal.invariant-loop-i
invariant-loop-i l = l.pops.items ≡ l.fn.pops.items ++ list_below l.i (populations l.f.f)
