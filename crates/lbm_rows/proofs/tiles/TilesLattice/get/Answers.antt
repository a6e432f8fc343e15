use Rattle.std.proofs.Common.{List, ℤ, ◌≡◌, ◌<◌, FitsSigned, w32, w64, sym, ap, subst, ◌∙◌, rules}
use Rattle.std.specs.Prelude.{None}
use Rattle.std.proofs.lemmas.Int.{to_z-of_z}
use Rattle.lbm_space.specs.Torus.{cells}
use Rattle.lbm_model.proofs.States.{population-state_by}
use Rattle.lbm_rows.specs.Kept.{population_kept}
use Rattle.lbm_rows.specs.Tiles.{KeptLattice}
use Rattle.lbm_rows.proofs.KeptStates.{kept_fits}
use Rattle.lbm_rows.proofs.tiles.TilesLattice.get.Goals as goal

pub returns-clause-value : goal.returns-clause-value
returns-clause-value g c =
    let l = c.args.self.now in let p = c.self.inside in
    let fits : FitsSigned w64 c.population_at.result = search rules in
    to_z-of_z w64 c.population_at.result fits ∙ c.population_at.ensures ∙ ap (λ (ks : List (List ℤ)). population_kept p.case p.time ks c.args.cell c.args.dir) c.as_slice.ensures.value
    ∙ ap (λ (m : KeptLattice). population_kept m.case m.time m.kept c.args.cell c.args.dir) c.self.view_is
    ∙ sym (population-state_by l.case (population_kept l.case l.time l.kept) c.args.cell c.args.dir c.requires.cell c.requires.direction)

pub returns-clause-fits : goal.returns-clause-fits
returns-clause-fits g c =
    let p = c.self.inside in
    let fits : FitsSigned w64 c.population_at.result = search rules in
    let free : c.args.self.now.spent ≡ None = search rules in
    let here = subst (λ (m : KeptLattice). c.args.cell < cells m.case.torus) (sym c.self.view_is) c.requires.cell in
    let known = subst (λ (m : KeptLattice). c.args.dir < m.case.stencil.directions) (sym c.self.view_is) c.requires.direction in
    subst (FitsSigned w32) (sym (to_z-of_z w64 c.population_at.result fits ∙ c.population_at.ensures ∙ ap (λ (ks : List (List ℤ)). population_kept p.case p.time ks c.args.cell c.args.dir) c.as_slice.ensures.value))
    (kept_fits p.case p.time p.kept.items (c.self.invariant.0.small (ap (λ (m : KeptLattice). m.spent) c.self.view_is ∙ free)) c.args.cell c.args.dir here known)
