use Rattle.std.proofs.Common.{length, slice_index}
use Rattle.lbm_grid.proofs.Runs.{read_within}
use Rattle.lbm_grid.proofs.near.PlacesNearTaking.take.Goals as goal

pub lanes_near-requires-clause-there : goal.lanes_near-requires-clause-there
lanes_near-requires-clause-there g c =
    let w = c.args.self.now in let known = c.requires.known in let fit = c.requires.fitting.1 in
    (c.args.dir, read_within g.W.Way.RISES g.V.VelocitySet.stencil.directions (length w.saved.now) c.args.loan.now w.readings (slice_index w.to c.args.dir) c.args.dir c.args.at c.args.n c.requires.within fit.2 known (fit.1 c.args.dir known))

pub returns-clause-cells : goal.returns-clause-cells
returns-clause-cells g c j lane =
    let w = c.args.self.now in let known = c.requires.known in let fit = c.requires.fitting.1 in
    c.lanes_near.ensures.cells c.args.dir j (read_within g.W.Way.RISES g.V.VelocitySet.stencil.directions (length w.saved.now) c.args.loan.now w.readings (slice_index w.to c.args.dir) c.args.dir c.args.at c.args.n c.requires.within fit.2 known (fit.1 c.args.dir known)) lane
