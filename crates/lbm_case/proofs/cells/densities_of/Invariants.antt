use Rattle.std.proofs.Common.{◌≡◌, map, take}
use Rattle.lbm_case.specs.Views.{drawing_view}
use Rattle.lbm_case.specs.Drawing.{cells_of, density_of}
use Rattle.lbm_case.proofs.cells.densities_of.Given as goal

abbrev pub invariant-loop-row : goal.invariant-loop-row
invariant-loop-row l = l.densities.items ≡ map (density_of l.density l.digit) (cells_of (drawing_view (take l.row-index l.rows)))
