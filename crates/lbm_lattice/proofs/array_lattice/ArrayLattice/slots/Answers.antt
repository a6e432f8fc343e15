use Rattle.std.proofs.Common.{List, ℤ, ap, ◌∙◌}
use Rattle.lbm_model.specs.Layout.{population_in}
use Rattle.lbm_sweep.specs.Lattices.{Lattice}
use Rattle.lbm_sweep.proofs.Lattices.{stands_in-state_in}
use Rattle.lbm_lattice.proofs.array_lattice.ArrayLattice.slots.Goals as goal

pub returns-clause-layout : goal.returns-clause-layout
returns-clause-layout g c x i here known =
    let l = c.args.self.now in let layout = g.P.Propagation.layout l.case l.time in
    ap (λ (s : List ℤ). population_in l.case layout s x i) (c.slots.ensures.value ∙ ap (λ (m : Lattice). m.slots) c.self.view_is) ∙ stands_in-state_in l.case layout l.slots x i here known
