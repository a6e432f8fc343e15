use Rattle.std.proofs.Common.{◌≡◌, ◌≢◌, ℕ, ◌+◌, ◌-◌, ◌*◌, ◌<◌, inl, inr, length, slice_index, ap, sym, ◌∙◌, arith}
use Rattle.std.specs.Prelude.{min, slice_set}
use Rattle.std.proofs.lemmas.Bool.{cases_lt}
use Rattle.std.proofs.lemmas.List.{get_or-set_same, get_or-set_other, length-set}
use Rattle.lbm_space.specs.Torus.{rows}
use Rattle.lbm_space.specs.Padded.{row_start}
use Rattle.lbm_space.specs.Cuttings.{slabs_of, first_row, end_row}
use Rattle.lbm_space.proofs.RowStarts.{row_start_rises, row_start_inside}
use Rattle.lbm_space.proofs.Slabs.{bounds_rise}
use Rattle.lbm_grid.specs.Strips.{room_of, rooms_of}
use Rattle.lbm_grid.proofs.Rooms.{rooms_next}
use Rattle.lbm_grid.proofs.strips.deal.Goals as goal

pub overflow_sub-places : goal.overflow_sub-places
overflow_sub-places g c =
    let t = c.args.space.now in let known = c.slab-rows.ensures.known in let some = c.slab-rows.ensures.some in let whole = c.requires.cutting in
    let up = row_start_rises t c.row_start.ensures.valid c.slab-rows.result.0 c.slab-rows.result.1 (omega (arith, some)) (omega (arith, known, whole)) in
    let from = c.row_start-in-loop-j.ensures.start in let to = c.row_start.ensures.start in omega (arith, up, from, to)

pub loop-j-preserved : goal.loop-j-preserved
loop-j-preserved g c =
    let t = c.args.space.now in let v = g.V.VelocitySet.stencil in let bounds = c.args.cut.now in let j = c.loop-j.j in let inv = c.loop-j.invariant in let begins = c.loop-j.begins in let width = c.loop-j.width in
    let cutting = c.slabs-j-end.ensures.cutting in let slab : j < slabs_of bounds = omega (arith, c.slabs-j-end.ensures.count, c.loop-j-test.true) in
    let a = c.slab-rows.ensures.first in let b = c.slab-rows.ensures.end in let known = c.slab-rows.ensures.known in let some = c.slab-rows.ensures.some in let whole = c.requires.cutting in
    let start_a = c.row_start-in-loop-j.ensures.start ∙ ap (row_start t) a in let start_b = c.row_start.ensures.start ∙ ap (row_start t) b in
    let up = row_start_rises t c.row_start.ensures.valid (first_row bounds j) (end_row bounds j) (omega (arith, some, a, b)) (omega (arith, known, whole, b)) in
    let far = c.reach-reach.ensures.value in
    let room : c.min-width.result ≡ room_of t v (first_row bounds j) (end_row bounds j) = c.min-width.ensures ∙ (λ i. min (start_b i - start_a i) (2 * far i)) in
    let here : c.slab-rows.result.0 < length begins = omega (arith, inv.count, known, some, whole) in
    record {
      count = length-set begins c.slab-rows.result.0 width ∙ inv.count;
      begin = λ i below. elim (cases_lt i j) [
        | inl front ↦ (
            let up' = bounds_rise bounds cutting (i + 1) j (omega (arith, front)) (omega (arith, slab)) in let rise = cutting.rises i (omega (arith, front, slab)) in
            let other : first_row bounds i ≢ c.slab-rows.result.0 = λ e. omega (arith, e, a, up', rise) in
            get_or-set_other begins c.slab-rows.result.0 (first_row bounds i) width 0 other ∙ inv.begin i front)
        | inr last ↦ (
            let one : i ≡ j = omega (arith, last, below) in
            ap (λ m. slice_index (slice_set begins c.slab-rows.result.0 width) (first_row bounds m)) one ∙ ap (slice_index (slice_set begins c.slab-rows.result.0 width)) (sym a)
            ∙ get_or-set_same begins c.slab-rows.result.0 width 0 here ∙ inv.all ∙ ap (rooms_of t v bounds) (sym one))
      ];
      all = (λ i. inv.all i + room i) ∙ sym (rooms_next t v bounds j);
      few = let before = inv.few in omega (arith, before, room, up);
    }

pub returns-clause-few : goal.returns-clause-few
returns-clause-few g c =
    let t = c.args.space.now in let bounds = c.args.cut.now in let few = c.loop-j.invariant.few in let valid = c.reach-reach.ensures.valid in
    let all : c.loop-j.j ≡ slabs_of bounds = omega (arith, c.slabs-j-end.ensures.count, c.loop-j-test.false, c.loop-j.auto.j-end) in
    let end = ap (λ (m : ℕ). row_start t (first_row bounds m)) all in let whole = ap (row_start t) c.requires.cutting in
    let inside = row_start_inside t valid (rows t) (omega arith) in let fits = valid.fits in omega (arith, few, end, whole, inside, fits)
