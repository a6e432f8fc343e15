use Rattle.std.proofs.Common.{◌≡◌, ◌<◌, FitsSigned, w64, sym, ap, subst, ◌∙◌, rules}
use Rattle.std.proofs.lemmas.Int.{to_z-of_z}
use Rattle.lbm_space.specs.Stencil.{Stencil}
use Rattle.lbm_space.specs.Torus.{cells}
use Rattle.lbm_cell.specs.Moments.{populations, density}
use Rattle.lbm_model.specs.State.{population}
use Rattle.lbm_tracer.specs.Tracing.{set_in}
use Rattle.lbm_tracer.specs.Carried.{TracerLattice, carried, amount_in, tracer_state_in}
use Rattle.lbm_tracer.proofs.States.{cell-state}
use Rattle.lbm_tracer.proofs.tracer.Tracer.amount.Goals as goal

pub returns-clause-value : goal.returns-clause-value
returns-clause-value g c =
    let d = c.self.inside in let x = c.args.cell in let a = populations c.amounts_at-amounts.result in
    let here : x < cells d.space = subst (λ (m : TracerLattice). x < cells m.torus) (sym c.self.view_is) c.requires.cell in
    let base : c.sum_of.result ≡ density (set_in d.space) (population (tracer_state_in d.space d.time d.region.slots) x) =
    c.sum_of.ensures.value ∙ ap (λ (v : Stencil). density v a) c.of.ensures ∙ cell-state d.space (amount_in d.space d.time d.region.slots) x a here c.amounts_at-amounts.ensures in
    let fits : FitsSigned w64 c.sum_of.result = search rules in
    to_z-of_z w64 c.sum_of.result fits ∙ subst (λ (m : TracerLattice). c.sum_of.result ≡ density (set_in m.torus) (population (carried m).state x)) c.self.view_is base
