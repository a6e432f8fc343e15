use Rattle.std.proofs.Common.{◌≡◌, ℕ, ◌+◌, ◌*◌, ◌<◌, length, pos, slice_index_or, sym, ap, subst, ◌∙◌, rules}
use Rattle.std.specs.Prelude.{None}
use Rattle.lbm_space.specs.Torus.{rows}
use Rattle.lbm_model.specs.declared.layout.Layout.{Layout}
use Rattle.lbm_model.specs.Layout.{population_in}
use Rattle.lbm_sweep.specs.Lattices.{Lattice, standing_by}
use Rattle.lbm_lattice.specs.Rows.{IsRead}
use Rattle.lbm_lattice.proofs.Rows.{read-standing}
use Rattle.lbm_lattice.proofs.array_lattice.ArrayLatticePattern.read_row.Goals as goal

pub returns : goal.returns
returns g c =
    let d = c.self.inside in let layout = g.P.Propagation.layout in let row = c.args.row in let i = c.args.dir in let pops = c.read_row.new.pops in
    let l : Lattice = record { case = d.case; time = d.time; spent = d.spent; slots = d.region.slots } in
    let kept = c.self.invariant.0 in
    let free : c.args.self.now.spent ≡ None = search rules in
    let read : (x : ℕ) → x < d.case.torus.nx → slice_index_or pops x (pos 0) ≡ population_in d.case (layout d.case d.time) d.region.slots (row * d.case.torus.nx + x) i =
    λ x below. c.read_row.ensures.value x below ∙ ap (λ (m : Layout). population_in d.case m d.region.slots (row * d.case.torus.nx + x) i) c.layout_at-layout.ensures.value in
    subst (λ (m : Lattice). IsRead (standing_by (layout m.case) m) row i pops) c.self.view_is
    (read-standing layout l row i pops kept.valid (kept.small (ap (λ (m : Lattice). m.spent) c.self.view_is ∙ free))
    (subst (λ (m : Lattice). row < rows m.case.torus) (sym c.self.view_is) c.requires.row)
    (subst (λ (m : Lattice). i < m.case.stencil.directions) (sym c.self.view_is) c.requires.direction)
    (c.read_row.ensures.room ∙ subst (λ (m : Lattice). length c.args.pops.now ≡ m.case.torus.nx) (sym c.self.view_is) c.requires.room) read)
