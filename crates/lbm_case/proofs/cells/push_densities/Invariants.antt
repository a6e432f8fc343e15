use Rattle.std.proofs.Common.{◌≡◌, ◌++◌, map}
use Rattle.lbm_case.specs.Drawing.{density_of}
use Rattle.lbm_case.proofs.cells.push_densities.Given as goal

abbrev pub invariant-loop-c : goal.invariant-loop-c
invariant-loop-c l = l.densities.items ≡ l.initial.densities.items ++ map (density_of l.density l.digit) l.yielded
