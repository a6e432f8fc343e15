use Rattle.std.proofs.Common.{◌≡◌, ◌+◌, ap, length, take, refl, zero-add, arith}
use Rattle.std.proofs.lemmas.List.{length-append, take_all}
use Rattle.std.specs.Str.{chars}
use Rattle.toml.specs.View.{view}
use Rattle.lbm_case.specs.Views.{text_of, drawing_view}
use Rattle.lbm_case.specs.Drawing.{cells_of}
use Rattle.lbm_case.proofs.Numbered.{moving_in-later, moving_from-append, moving_in-from, cells_of-more, length-cells_of-take}
use Rattle.lbm_case.proofs.cells.moving_in.Goals as goal

pub push_moving-requires : goal.push_moving-requires
push_moving-requires c =
    let more = ap length (cells_of-more c.args.rows.now c.loop-row.row-index c.row-item.result (omega arith) c.row-item.is) in
    let parts = length-append (cells_of (drawing_view (take c.loop-row.row-index c.args.rows.now))) (chars (text_of (view c.row-item.result))) in
    let few = length-cells_of-take c.args.rows.now (c.loop-row.row-index + 1) in
    let text = ap (λ bytes. length (chars bytes)) c.text_of.ensures in
    omega arith

pub loop-row-preserved : goal.loop-row-preserved
loop-row-preserved c =
    let more = cells_of-more c.args.rows.now c.loop-row.row-index c.row-item.result (omega arith) c.row-item.is in
    let before = cells_of (drawing_view (take c.loop-row.row-index c.args.rows.now)) in
    let row = chars (text_of (view c.row-item.result)) in
    record {
      counted = rw (more, length-append before row, ← c.loop-row.invariant.counted, ← c.text_of.ensures) c.in_ok-first.ensures.next;
      so_far = rw (more, moving_from-append 0 before row, zero-add, ← c.loop-row.invariant.counted, ← c.loop-row.invariant.so_far, ← c.text_of.ensures, ← moving_in-later) c.in_ok-first.ensures.items;
    }

pub returns : goal.returns
returns c =
    let whole : take c.loop-row.row-index c.args.rows.now ≡ c.args.rows.now = take_all _ _ (omega arith) in
    rw (moving_in-from (cells_of (drawing_view c.args.rows.now)), c.loop-row.invariant.so_far, whole) refl
