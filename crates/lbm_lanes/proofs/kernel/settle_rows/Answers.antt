use Rattle.std.proofs.Common.{arith, eqb, replicate, pos}
use Rattle.std.specs.Prelude.{not}
use Rattle.lbm_lanes.specs.Cells.{after}
use Rattle.lbm_lanes.proofs.Advancing.{progress_start}
use Rattle.lbm_lanes.proofs.Collided.{zero_lane}
use Rattle.lbm_lanes.proofs.kernel.settle_rows.Goals as goal

pub nine_pairs-first-requires-clause-progress : goal.nine_pairs-first-requires-clause-progress
nine_pairs-first-requires-clause-progress g c =
    let v = g.V.VelocitySet.stencil in let R = g.R.Rows in let rows = c.args.rows.now in let k = c.args.fluid.now.flags in
    let h = c.requires.begun.0 in let cells = c.requires.begun.1 in let b = c.requires.begun.2 in
    let A = after v c.args.run.now.rates c.args.run.now.force (not (eqb g.row.MIXED 0)) k.colliding k.turning h in
    let p0 = progress_start v (R.count rows) A h (R.there rows) (R.sent rows) (replicate 8 (pos 0)) b.taken b.past zero_lane in
    (h, cells, p0)

pub nine_pairs-second-requires-clause-progress : goal.nine_pairs-second-requires-clause-progress
nine_pairs-second-requires-clause-progress g c =
    let v = g.V.VelocitySet.stencil in let R = g.R.Rows in let rows = c.args.rows.now in let k = c.args.fluid.now.flags in
    let h = c.requires.begun.0 in let cells = c.requires.begun.1 in let b = c.requires.begun.2 in
    let A = after v c.args.run.now.rates c.args.run.now.force (not (eqb g.row.MIXED 0)) k.colliding k.turning h in
    let p0 = progress_start v (R.count rows) A h (R.there rows) (R.sent rows) (replicate 8 (pos 0)) b.taken b.past zero_lane in
    let p1 = c.nine_pairs-first.ensures.progress h cells p0 in
    (h, cells, p1)

pub nine_pairs-third-requires-clause-progress : goal.nine_pairs-third-requires-clause-progress
nine_pairs-third-requires-clause-progress g c =
    let v = g.V.VelocitySet.stencil in let R = g.R.Rows in let rows = c.args.rows.now in let k = c.args.fluid.now.flags in
    let h = c.requires.begun.0 in let cells = c.requires.begun.1 in let b = c.requires.begun.2 in
    let A = after v c.args.run.now.rates c.args.run.now.force (not (eqb g.row.MIXED 0)) k.colliding k.turning h in
    let p0 = progress_start v (R.count rows) A h (R.there rows) (R.sent rows) (replicate 8 (pos 0)) b.taken b.past zero_lane in
    let p1 = c.nine_pairs-first.ensures.progress h cells p0 in
    let p2 = c.nine_pairs-second.ensures.progress h cells p1 in
    (h, cells, p2)

pub rest-requires-clause-progress : goal.rest-requires-clause-progress
rest-requires-clause-progress g c =
    let v = g.V.VelocitySet.stencil in let R = g.R.Rows in let rows = c.args.rows.now in let k = c.args.fluid.now.flags in
    let h = c.requires.begun.0 in let cells = c.requires.begun.1 in let b = c.requires.begun.2 in
    let A = after v c.args.run.now.rates c.args.run.now.force (not (eqb g.row.MIXED 0)) k.colliding k.turning h in
    let p0 = progress_start v (R.count rows) A h (R.there rows) (R.sent rows) (replicate 8 (pos 0)) b.taken b.past zero_lane in
    let p1 = c.nine_pairs-first.ensures.progress h cells p0 in
    let p2 = c.nine_pairs-second.ensures.progress h cells p1 in
    let p3 = c.nine_pairs-third.ensures.progress h cells p2 in
    (h, cells, p3)

pub returns-clause-sent : goal.returns-clause-sent
returns-clause-sent g c h cells b = λ k' j known cell.
    let v = g.V.VelocitySet.stencil in let R = g.R.Rows in let rows = c.args.rows.now in let k = c.args.fluid.now.flags in
    let A = after v c.args.run.now.rates c.args.run.now.force (not (eqb g.row.MIXED 0)) k.colliding k.turning h in
    let p0 = progress_start v (R.count rows) A h (R.there rows) (R.sent rows) (replicate 8 (pos 0)) b.taken b.past zero_lane in
    let p1 = c.nine_pairs-first.ensures.progress h cells p0 in
    let p2 = c.nine_pairs-second.ensures.progress h cells p1 in
    let p3 = c.nine_pairs-third.ensures.progress h cells p2 in
    c.rest.ensures.sent h cells p3 k' j known (omega (arith, cell, c.nine_pairs-first.ensures.count, c.nine_pairs-second.ensures.count, c.nine_pairs-third.ensures.count))
