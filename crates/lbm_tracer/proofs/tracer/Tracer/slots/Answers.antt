use Rattle.std.proofs.Common.{List, ℤ, sym, ap, ◌∙◌}
use Rattle.lbm_tracer.specs.Carried.{TracerLattice, amount_in}
use Rattle.lbm_tracer.proofs.States.{amount-state}
use Rattle.lbm_tracer.proofs.tracer.Tracer.slots.Goals as goal

pub returns-clause-layout : goal.returns-clause-layout
returns-clause-layout g c x k here known =
    let l = c.args.self.now in
    ap (λ (s : List ℤ). amount_in l.torus l.time s x k) (c.slots.ensures.value ∙ ap (λ (m : TracerLattice). m.slots) c.self.view_is) ∙ sym (amount-state l.torus (amount_in l.torus l.time l.slots) x k here known)
