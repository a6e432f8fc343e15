use Rattle.std.proofs.Common.{ℕ, ◌+◌, ◌≤◌, ◌⊎◌, inl, inr, sym, ap, ◌∙◌}
use Rattle.lbm_cell.specs.Rows.{entry}
use Rattle.lbm_grid.proofs.Runs.{all_off, read_run, seen_run}
use Rattle.lbm_grid.proofs.reading.lanes_near.Goals as goal

pub load_at-requires-clause-run : goal.load_at-requires-clause-run
load_at-requires-clause-run g c =
    let a = c.args in let there = c.requires.there in
    let off : (a.at + a.n ≤ a.reading.first) ⊎ (a.reading.past ≤ a.at) = elim c.if-reading-at.either [ inl low ↦ inl low | inr high ↦ inr high.1 ] in
    (there.0, rw c.place_near.ensures (read_run g.W.Way.RISES a.saved.now a.loan.now a.slot there.0 a.reading a.at a.n there.1 c.requires.some (all_off a.reading a.at a.n off)))

pub returns-then-reading-at-clause-cells : goal.returns-then-reading-at-clause-cells
returns-then-reading-at-clause-cells g c k j is lane =
    let a = c.args in
    let off : (a.at + a.n ≤ a.reading.first) ⊎ (a.reading.past ≤ a.at) = elim c.if-reading-at.either [ inl low ↦ inl low | inr high ↦ inr high.1 ] in
    c.load_at.ensures.slots k j (rw c.place_near.ensures (read_run g.W.Way.RISES a.saved.now a.loan.now a.slot k a.reading a.at a.n is c.requires.some (all_off a.reading a.at a.n off))) lane
    ∙ ap (λ (p : ℕ). entry a.loan.now.ranges k (p + j)) c.place_near.ensures
    ∙ sym (seen_run g.W.Way.RISES a.saved.now a.loan.now a.slot k a.reading a.at a.n is c.requires.some (all_off a.reading a.at a.n off) j lane)
