use Rattle.std.proofs.Common.{◌≡◌, ◌<◌, Some, None, [], get_or, length, sym, refl, ◌∙◌, below_more, arith}
use Rattle.std.specs.List.{list_any, position}
use Rattle.lbm_case.specs.Views.{drawing_view}
use Rattle.lbm_case.specs.Drawing.{is_strange}
use Rattle.lbm_case.proofs.Places.{position_first, position_none, list_any-position, list_any-nowhere}
use Rattle.lbm_case.proofs.DrawingLemmas.{drawing_view-at, length-drawing_view}
use Rattle.lbm_case.proofs.rows.strange_place.Goals as goal

pub returns-in-Some : goal.returns-in-Some
returns-in-Some c =
    let row_is = drawing_view-at c.args.rows.now c.loop-row.row c.index-rows-row.result (omega arith) c.index-rows-row.is in
    let column : position is_strange (get_or (drawing_view c.args.rows.now) c.loop-row.row []) ≡ Some c.in-Some.column =
    rw (row_is, ← c.text_of.ensures) (sym c.in-Some.ensures) in
    let within : c.loop-row.row < length (drawing_view c.args.rows.now) = rw (length-drawing_view c.args.rows.now) (omega arith) in
    let passes = list_any-position is_strange (get_or (drawing_view c.args.rows.now) c.loop-row.row []) _ column in
    let here = position_first (list_any is_strange) (drawing_view c.args.rows.now) c.loop-row.row [] within passes c.loop-row.invariant in
    rw (here, column) refl

pub loop-row-preserved : goal.loop-row-preserved
loop-row-preserved c =
    let row_is = drawing_view-at c.args.rows.now c.loop-row.row c.index-rows-row.result (omega arith) c.index-rows-row.is in
    let column : position is_strange (get_or (drawing_view c.args.rows.now) c.loop-row.row []) ≡ None =
    rw (row_is, ← c.text_of.ensures) (sym c.strange_column.ensures ∙ c.in_default.is) in
    below_more _ _ c.loop-row.invariant (list_any-nowhere is_strange (get_or (drawing_view c.args.rows.now) c.loop-row.row []) column)

pub returns : goal.returns
returns c =
    let none = position_none (list_any is_strange) (drawing_view c.args.rows.now) [] (λ k within. c.loop-row.invariant k (omega (arith, length-drawing_view c.args.rows.now))) in
    rw none refl
