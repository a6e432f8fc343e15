use Rattle.std.proofs.Common.{◌≡◌, ℕ, ◌<◌, false, [], get_or}
use Rattle.std.specs.List.{list_any}
use Rattle.lbm_case.specs.Views.{drawing_view}
use Rattle.lbm_case.specs.Drawing.{is_strange}
use Rattle.lbm_case.proofs.rows.strange_place.Given as goal

abbrev pub invariant-loop-row : goal.invariant-loop-row
invariant-loop-row l = (k : ℕ) → k < l.row → list_any is_strange (get_or (drawing_view l.rows) k []) ≡ false
