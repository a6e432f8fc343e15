use Rattle.std.proofs.Common.{◌≡◌, ◌+◌, subst}
use Rattle.std.specs.Prelude.{None}
use Rattle.lbm_model.specs.Standing.{stopped_at, stepped}
use Rattle.lbm_sweep.specs.Lattices.{Lattice, standing_by}
use Rattle.lbm_sweep.proofs.Lattices.{stopped_at-step, standing-step}
use Rattle.lbm_lattice.proofs.Steps.{kept-stepped}
use Rattle.lbm_lattice.proofs.array_lattice.ArrayLatticePattern.step_by.Goals as goal

pub invariant_of-self-2 : goal.invariant_of-self-2
invariant_of-self-2 g c =
    let p = c.self.inside in let done = c.in_default-answer.ensures in let layout = g.P.Propagation.layout p.case in let last = c.advance-answer.new.region in
    (kept-stepped g.V.VelocitySet.stencil (layout p.time) (layout (p.time + 1)) p.case p.spent p.region last p.cut c.self.invariant.0 done.same (g.P.Propagation.still_laid p.case p.time last) c.in_default.is done.step, done.own)

pub returns : goal.returns
returns g c =
    let p = c.self.inside in let last = c.advance-answer.new.region.slots in let layout = g.P.Propagation.layout p.case in
    let now : Lattice = record { case = p.case; time = p.time; spent = p.spent; slots = p.region.slots } in let step = c.in_default-answer.ensures.step in
    subst (λ (l : Lattice). (stopped_at (standing_by (g.P.Propagation.layout l.case) l) ≡ None) × (standing_by layout (record now { time = p.time + 1; slots = last }) ≡ stepped (standing_by (g.P.Propagation.layout l.case) l))) c.self.view_is
    (stopped_at-step layout now (layout (p.time + 1)) last None c.in_default.is step, standing-step layout now last step)
