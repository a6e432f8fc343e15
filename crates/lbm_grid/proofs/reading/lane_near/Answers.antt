use Rattle.std.proofs.Common.{◌≡◌, ◌+◌, ◌≤◌, ◌⊎◌, pos, slice_index_or, w64, to_z, of_z, inl, inr, sym, ap, ◌∙◌, rules, arith}
use Rattle.lbm_cell.specs.Rows.{entry}
use Rattle.lbm_grid.specs.Near.{read_place}
use Rattle.lbm_grid.proofs.Seen.{seen_off}
use Rattle.lbm_grid.proofs.Runs.{all_off, read_run}
use Rattle.lbm_grid.proofs.reading.lane_near.Goals.{else-reading-place-via-then-reading-place+else-place-reading, else-reading-place-via-else-reading-place}
use Rattle.lbm_grid.proofs.reading.lane_near.Goals as goal

pub load_at-requires-clause-run : goal.load_at-requires-clause-run
load_at-requires-clause-run g c =
    let a = c.args in let there = c.requires.there in
    let off : (a.place + 1 ≤ a.reading.first) ⊎ (a.reading.past ≤ a.place) = elim c.else-reading-place.branch [ else-reading-place-via-then-reading-place+else-place-reading w ↦ inr w.if-place-reading.false | else-reading-place-via-else-reading-place w ↦ (let low = w.if-reading-place.false in inl (omega (arith, low))) ] in
    (there.0, rw c.place_near.ensures (read_run g.W.Way.RISES a.saved.now a.loan.now a.slot there.0 a.reading a.place 1 there.1 (omega arith) (all_off a.reading a.place 1 off)))

pub returns : goal.returns
returns g c k is =
    let a = c.args in
    let off : (a.place + 1 ≤ a.reading.first) ⊎ (a.reading.past ≤ a.place) = elim c.else-reading-place.branch [ else-reading-place-via-then-reading-place+else-place-reading w ↦ inr w.if-place-reading.false | else-reading-place-via-else-reading-place w ↦ (let low = w.if-reading-place.false in inl (omega (arith, low))) ] in
    let at : c.place_near.result + 0 ≡ read_place g.W.Way.RISES a.reading.far a.place = let e = c.place_near.ensures in omega (arith, e) in
    let whole : to_z w64 (of_z w64 (slice_index_or c.load_at.result 0 (pos 0))) ≡ slice_index_or c.load_at.result 0 (pos 0) = search rules in
    whole ∙ c.load_at.ensures.slots k 0 (rw c.place_near.ensures (read_run g.W.Way.RISES a.saved.now a.loan.now a.slot k a.reading a.place 1 is (omega arith) (all_off a.reading a.place 1 off))) (omega arith)
    ∙ ap (entry a.loan.now.ranges k) at
    ∙ sym (seen_off g.W.Way.RISES a.saved.now a.loan.now.ranges k a.reading a.place (elim off [ inl low ↦ inl (omega (arith, low)) | inr high ↦ inr high ]))
