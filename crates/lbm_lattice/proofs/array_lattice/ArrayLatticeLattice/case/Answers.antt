use Rattle.lbm_sweep.proofs.Lattices.{IsStateOf-state_in}
use Rattle.lbm_lattice.proofs.array_lattice.ArrayLatticeLattice.case.Goals as goal

pub returns-clause-sizes : goal.returns-clause-sizes
returns-clause-sizes g c none = let l = c.args.self.now in IsStateOf-state_in l.case (g.P.Propagation.layout l.case l.time) l.slots
