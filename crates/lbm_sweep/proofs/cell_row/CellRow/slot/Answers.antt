use Rattle.std.proofs.Common.{arith}
use Rattle.lbm_sweep.proofs.CellRows.{place_is}
use Rattle.lbm_sweep.proofs.cell_row.CellRow.slot.Goals as goal

pub returns-clause-place : goal.returns-clause-place
returns-clause-place g c = place_is g.V.VelocitySet.stencil c.args.self.now c.requires.row c.args.x c.args.dir c.round.result c.requires.x c.requires.direction c.round.ensures.value

pub returns-clause-inside : goal.returns-clause-inside
returns-clause-inside g c =
    let places = c.requires.row.places c.args.dir c.requires.direction in
    omega (arith, places.inside, c.requires.row.width, c.round.ensures.known)

pub round-requires-clause-ahead : goal.round-requires-clause-ahead
round-requires-clause-ahead g c = let places = c.requires.row.places c.args.dir c.requires.direction in omega (arith, places.known, c.requires.row.width)

pub round-requires-clause-few : goal.round-requires-clause-few
round-requires-clause-few g c = omega (arith, c.requires.row.width, c.requires.row.valid.space.few_x)
