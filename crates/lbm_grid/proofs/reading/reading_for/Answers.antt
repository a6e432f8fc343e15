use Rattle.std.proofs.Common.{◌≡◌, w64, to_z, of_z, rules, arith}
use Rattle.std.proofs.lemmas.Int.{ints}
use Rattle.lbm_space.proofs.Offsets.{reach_below}
use Rattle.lbm_grid.proofs.There.{strip_from}
use Rattle.lbm_grid.proofs.reading.reading_for.Goals as goal

pub taker-requires-clause-low : goal.taker-requires-clause-low
taker-requires-clause-low g c =
    let a = c.args in let r = c.requires in let off = c.offset-off.ensures in let value = off.value in
    let whole : to_z w64 (of_z w64 c.offset-off.result) ≡ c.offset-off.result = search rules in
    let from = (strip_from a.space.now off.valid g.V.VelocitySet.stencil g.met.V.VelocitySet.laws r.dimension a.rows.0 a.rows.1 r.rows.0 r.rows.1 a.k r.direction c.rises.result).0 in
    let first = c.strip-first.ensures.first in let start = c.row_start-start.ensures.start in
    rw whole (omega (arith, ints, from, first, start, value))

pub taker-requires-clause-high : goal.taker-requires-clause-high
taker-requires-clause-high g c =
    let a = c.args in let r = c.requires in let off = c.offset-off.ensures in let high = off.high in let space = off.valid.fits in
    let whole : to_z w64 (of_z w64 c.offset-off.result) ≡ c.offset-off.result = search rules in
    let below = reach_below a.space.now off.valid g.V.VelocitySet.stencil g.met.V.VelocitySet.laws r.dimension in
    let order = c.strip-first.ensures.order in let inside = c.strip-first.ensures.inside in
    rw whole (omega (arith, ints, high, space, below, order, inside))

pub taker-requires-2-clause-low : goal.taker-requires-2-clause-low
taker-requires-2-clause-low g c =
    let a = c.args in let r = c.requires in let off = c.offset-off.ensures in let value = off.value in
    let whole : to_z w64 (of_z w64 c.offset-off.result) ≡ c.offset-off.result = search rules in
    let from = (strip_from a.space.now off.valid g.V.VelocitySet.stencil g.met.V.VelocitySet.laws r.dimension a.rows.0 a.rows.1 r.rows.0 r.rows.1 a.k r.direction c.rises.result).1 in
    let past = c.strip-first.ensures.past in let start = c.row_start-start.ensures.start in
    rw whole (omega (arith, ints, from, past, start, value))

pub taker-requires-2-clause-high : goal.taker-requires-2-clause-high
taker-requires-2-clause-high g c =
    let a = c.args in let r = c.requires in let off = c.offset-off.ensures in let high = off.high in let space = off.valid.fits in
    let whole : to_z w64 (of_z w64 c.offset-off.result) ≡ c.offset-off.result = search rules in
    let below = reach_below a.space.now off.valid g.V.VelocitySet.stencil g.met.V.VelocitySet.laws r.dimension in
    let inside = c.strip-first.ensures.inside in
    rw whole (omega (arith, ints, high, space, below, inside))
