use Rattle.std.proofs.Common.{◌≡◌, ◌<◌, false, sym, ap, subst, ◌∙◌}
use Rattle.lbm_space.specs.Stencil.{Stencil}
use Rattle.lbm_space.specs.Torus.{Torus, cells}
use Rattle.lbm_cell.specs.Moments.{populations}
use Rattle.lbm_model.specs.State.{population}
use Rattle.lbm_model.specs.Case.{is_solid}
use Rattle.lbm_tracer.specs.Collision.{in_tracer_limits}
use Rattle.lbm_tracer.specs.Tracing.{set_in}
use Rattle.lbm_tracer.specs.Carried.{TracerLattice, carried, amount_in, tracer_state_in}
use Rattle.lbm_tracer.proofs.Agreement.{limits-same}
use Rattle.lbm_tracer.proofs.States.{amount-state}
use Rattle.lbm_tracer.proofs.tracer.Tracer.is_sound.Goals as goal

pub returns : goal.returns
returns g c =
    let d = c.self.inside in let x = c.args.cell in let a = populations c.amounts_at-amounts.result in
    let here : x < cells d.space = subst (λ (m : TracerLattice). x < cells m.torus) (sym c.self.view_is) c.requires.cell in
    let fluid : is_solid c.args.case.now x ≡ false = sym c.is_solid.ensures.value ∙ c.if-is_solid.false in
    let s = tracer_state_in d.space d.time d.region.slots in
    let base : c.in_limits.result ≡ in_tracer_limits (set_in d.space) (population s x) =
    c.in_limits.ensures ∙ ap (λ (v : Stencil). in_tracer_limits v a) c.of.ensures
    ∙ limits-same (set_in d.space) a (population s x) (λ k known. c.amounts_at-amounts.ensures k known ∙ sym (amount-state d.space (amount_in d.space d.time d.region.slots) x k here known)) in
    rw fluid (subst (λ (m : TracerLattice). c.in_limits.result ≡ in_tracer_limits (set_in m.torus) (population (carried m).state x)) c.self.view_is base
    ∙ ap (λ (t : Torus). in_tracer_limits (set_in t) (population (carried c.args.self.now).state x)) (sym c.requires.space))
