use Rattle.std.proofs.Common.{ℕ, ◌+◌, length, slice_index, sym, ap, ◌∙◌, arith}
use Rattle.lbm_cell.specs.Rows.{entry}
use Rattle.lbm_grid.specs.Near.{reading_at}
use Rattle.lbm_grid.proofs.Runs.{outside_off, read_few, read_low, read_run, read_within, seen_run}
use Rattle.lbm_grid.proofs.near.PlacesNearTaking.take_clear.Goals as goal

pub place_near-place-requires-clause-low : goal.place_near-place-requires-clause-low
place_near-place-requires-clause-low g c =
    let w = c.args.self.now in let loan = c.args.loan.now in let at = c.args.at in let q = g.V.VelocitySet.stencil.directions in let dir = c.args.dir in let r = reading_at w.readings dir in let within = c.requires.within in let fit = c.requires.fitting.1 in
    let is = read_within g.W.Way.RISES q (length w.saved.now) loan w.readings (slice_index w.to dir) dir at 8 within fit.2 c.requires.known (fit.1 dir c.requires.known) in
    let off = outside_off q w.least w.most w.readings dir at 8 fit.3 c.requires.known c.requires.clear in
    read_low g.W.Way.RISES w.saved.now loan (slice_index w.to dir) dir r at 8 is within.some off

pub place_near-place-requires-clause-high : goal.place_near-place-requires-clause-high
place_near-place-requires-clause-high g c =
    let w = c.args.self.now in let loan = c.args.loan.now in let at = c.args.at in let q = g.V.VelocitySet.stencil.directions in let dir = c.args.dir in let r = reading_at w.readings dir in let within = c.requires.within in let fit = c.requires.fitting.1 in
    let is = read_within g.W.Way.RISES q (length w.saved.now) loan w.readings (slice_index w.to dir) dir at 8 within fit.2 c.requires.known (fit.1 dir c.requires.known) in
    let off = outside_off q w.least w.most w.readings dir at 8 fit.3 c.requires.known c.requires.clear in
    let few = read_few g.W.Way.RISES w.saved.now loan (slice_index w.to dir) dir r at 8 is within.some off in omega (arith, few)

pub load_block-requires : goal.load_block-requires
load_block-requires g c =
    let w = c.args.self.now in let loan = c.args.loan.now in let at = c.args.at in let q = g.V.VelocitySet.stencil.directions in let dir = c.args.dir in let r = reading_at w.readings dir in let within = c.requires.within in let fit = c.requires.fitting.1 in
    let is = read_within g.W.Way.RISES q (length w.saved.now) loan w.readings (slice_index w.to dir) dir at 8 within fit.2 c.requires.known (fit.1 dir c.requires.known) in
    let off = outside_off q w.least w.most w.readings dir at 8 fit.3 c.requires.known c.requires.clear in
    (dir, rw c.place_near-place.ensures (read_run g.W.Way.RISES w.saved.now loan (slice_index w.to dir) dir r at 8 is within.some off))

pub returns : goal.returns
returns g c j lane =
    let w = c.args.self.now in let loan = c.args.loan.now in let at = c.args.at in let q = g.V.VelocitySet.stencil.directions in let dir = c.args.dir in let r = reading_at w.readings dir in let within = c.requires.within in let fit = c.requires.fitting.1 in
    let is = read_within g.W.Way.RISES q (length w.saved.now) loan w.readings (slice_index w.to dir) dir at 8 within fit.2 c.requires.known (fit.1 dir c.requires.known) in
    let off = outside_off q w.least w.most w.readings dir at 8 fit.3 c.requires.known c.requires.clear in
    c.load_block.ensures dir j (rw c.place_near-place.ensures (read_run g.W.Way.RISES w.saved.now loan (slice_index w.to dir) dir r at 8 is within.some off)) lane
    ∙ ap (λ (p : ℕ). entry loan.ranges dir (p + j)) c.place_near-place.ensures
    ∙ sym (seen_run g.W.Way.RISES w.saved.now loan (slice_index w.to dir) dir r at 8 is within.some off j lane)
