use Rattle.std.proofs.Common.{◌≡◌, ◌<◌, pos, slice_index_or, FitsSigned, w32, w64, sym, ap, subst, ◌∙◌, rules}
use Rattle.std.specs.Prelude.{None}
use Rattle.std.proofs.lemmas.Int.{to_z-of_z}
use Rattle.lbm_space.specs.Stencil.{Stencil}
use Rattle.lbm_space.specs.Torus.{cells}
use Rattle.lbm_model.specs.Standing.{Standing}
use Rattle.lbm_model.specs.State.{population}
use Rattle.lbm_plain.proofs.Readings.{small_fits}
use Rattle.lbm_plain.proofs.plain.PlainLattice.get.Given as given
use Rattle.lbm_plain.proofs.plain.PlainLattice.get.Goals as goal

-- the direction is one of the case's set, and what is read of the cell is its population
module _ (g : given.Over) (c : goal.After-result-1 g) where
  known : c.args.dir < c.self.inside.case.stencil.directions
  known = subst (λ (m : Standing). c.args.dir < m.case.stencil.directions) (sym c.self.view_is) c.requires.direction

  read : slice_index_or c.pops_at.result.f c.args.dir (pos 0) ≡ population c.self.inside.state c.args.cell c.args.dir
  read = c.pops_at.ensures c.args.dir (subst (λ (v : Stencil). c.args.dir < v.directions) c.self.invariant.set known)

pub returns-clause-value : goal.returns-clause-value
returns-clause-value g c =
    let fits : FitsSigned w64 (slice_index_or c.pops_at.result.f c.args.dir (pos 0)) = search rules in
    to_z-of_z w64 (slice_index_or c.pops_at.result.f c.args.dir (pos 0)) fits ∙ read g c ∙ ap (λ (m : Standing). population m.state c.args.cell c.args.dir) c.self.view_is

pub returns-clause-fits : goal.returns-clause-fits
returns-clause-fits g c =
    let p = c.self.inside in
    let fits : FitsSigned w64 (slice_index_or c.pops_at.result.f c.args.dir (pos 0)) = search rules in
    let free : c.args.self.now.spent ≡ None = search rules in
    let here = subst (λ (m : Standing). c.args.cell < cells m.case.torus) (sym c.self.view_is) c.requires.cell in
    subst (FitsSigned w32) (sym (to_z-of_z w64 (slice_index_or c.pops_at.result.f c.args.dir (pos 0)) fits ∙ read g c))
    (small_fits p.case p.state (c.self.invariant.small (ap (λ (m : Standing). m.spent) c.self.view_is ∙ free)) c.args.cell c.args.dir here (known g c))
