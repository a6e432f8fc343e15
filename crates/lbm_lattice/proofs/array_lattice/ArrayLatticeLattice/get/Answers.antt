use Rattle.std.proofs.Common.{◌≡◌, ◌<◌, FitsSigned, w32, w64, sym, ap, subst, ◌∙◌, rules}
use Rattle.std.specs.Prelude.{None}
use Rattle.std.proofs.lemmas.Int.{to_z-of_z}
use Rattle.lbm_space.specs.Torus.{cells}
use Rattle.lbm_model.specs.declared.layout.Layout.{Layout}
use Rattle.lbm_model.specs.Layout.{population_in}
use Rattle.lbm_sweep.specs.Lattices.{Lattice}
use Rattle.lbm_sweep.proofs.Lattices.{population-state_in, small_fits}
use Rattle.lbm_lattice.proofs.array_lattice.ArrayLatticeLattice.get.Given as given
use Rattle.lbm_lattice.proofs.array_lattice.ArrayLatticeLattice.get.Goals as goal

-- what stands in the slot, by the layout of the time
found : (g : given.Over) (c : goal.After-population_at g)
    → c.population_at.result ≡ population_in c.self.inside.case (g.P.Propagation.layout c.self.inside.case c.self.inside.time) c.self.inside.region.slots c.args.cell c.args.dir
found g c = let p = c.self.inside in c.population_at.ensures.slot ∙ ap (λ (l : Layout). population_in p.case l p.region.slots c.args.cell c.args.dir) c.layout_at-layout.ensures.value

pub returns-clause-value : goal.returns-clause-value
returns-clause-value g c =
    let l = c.args.self.now in let layout = g.P.Propagation.layout in
    let fits : FitsSigned w64 c.population_at.result = search rules in
    to_z-of_z w64 c.population_at.result fits ∙ found g c ∙ ap (λ (m : Lattice). population_in m.case (layout m.case m.time) m.slots c.args.cell c.args.dir) c.self.view_is
    ∙ sym (population-state_in l.case (layout l.case l.time) l.slots c.args.cell c.args.dir c.requires.cell c.requires.direction)

pub returns-clause-fits : goal.returns-clause-fits
returns-clause-fits g c =
    let d = c.self.inside in
    let fits : FitsSigned w64 c.population_at.result = search rules in
    let free : c.args.self.now.spent ≡ None = search rules in
    let here = subst (λ (m : Lattice). c.args.cell < cells m.case.torus) (sym c.self.view_is) c.requires.cell in
    let known = subst (λ (m : Lattice). c.args.dir < m.case.stencil.directions) (sym c.self.view_is) c.requires.direction in
    subst (FitsSigned w32) (sym (to_z-of_z w64 c.population_at.result fits ∙ found g c))
    (small_fits d.case (g.P.Propagation.layout d.case d.time) d.region.slots (c.self.invariant.0.small (ap (λ (m : Lattice). m.spent) c.self.view_is ∙ free)) c.args.cell c.args.dir here known)
