use Rattle.std.proofs.Common.{◌≡◌, length, take}
use Rattle.lbm_case.specs.Views.{drawing_view}
use Rattle.lbm_case.specs.Drawing.{cells_of}
use Rattle.lbm_case.proofs.Numbered.{moving_from}
use Rattle.lbm_case.proofs.cells.moving_in.Given as goal

abbrev pub invariant-loop-row : goal.invariant-loop-row
invariant-loop-row l = record {
  counted : l.first ≡ length (cells_of (drawing_view (take l.row-index l.rows)));
  so_far : l.moving.items ≡ moving_from 0 (cells_of (drawing_view (take l.row-index l.rows)));
}
