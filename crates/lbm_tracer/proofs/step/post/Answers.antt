use Rattle.std.proofs.Common.{◌≡◌, ℕ, ◌<◌, ◌≤◌, true, false, unsigned_abs, sym, subst, ◌∙◌}
use Rattle.lbm_space.specs.Stencil.{Stencil}
use Rattle.lbm_cell.specs.Moments.{populations}
use Rattle.lbm_model.specs.Case.{is_solid}
use Rattle.lbm_tracer.specs.Limits.{amount_bound}
use Rattle.lbm_tracer.specs.Collision.{tracer_collision, momentum_of, in_tracer_limits}
use Rattle.lbm_tracer.specs.Tracing.{set_in}
use Rattle.lbm_tracer.proofs.Making.{makes-collided, flow-out}
use Rattle.lbm_tracer.proofs.step.post.Goals as goal

pub returns-then-not-is_flow_moment : goal.returns-then-not-is_flow_moment
returns-then-not-is_flow_moment c =
    let case = c.args.case.now in
    let fluid : is_solid case c.args.cell ≡ false = sym c.is_solid.ensures.value ∙ c.if-is_solid.false in
    flow-out case c.args.rates c.args.flow.now c.args.cell (populations c.args.amounts.now) fluid c.is_solid.ensures.valid.set (c.is_flow_moment.ensures.other c.if-not-is_flow_moment.true)

pub collide-requires-clause-small : goal.collide-requires-clause-small
collide-requires-clause-small c = subst (λ (v : Stencil). (k : ℕ) → k < v.directions → unsigned_abs (populations c.args.amounts.now k) ≤ amount_bound) (sym c.requires.set) c.requires.few

pub returns : goal.returns
returns c =
    let case = c.args.case.now in let flow = c.args.flow.now in let a = populations c.args.amounts.now in let v = set_in case.torus in
    let fluid : is_solid case c.args.cell ≡ false = sym c.is_solid.ensures.value ∙ c.if-is_solid.false in
    let limits : in_tracer_limits v a ≡ true = subst (λ (u : Stencil). in_tracer_limits u a ≡ true) c.requires.set (sym c.in_limits.ensures ∙ c.if-not-in_limits.false) in
    let collided = subst (λ (u : Stencil). (k : ℕ) → k < u.directions → populations c.collide.result k ≡ tracer_collision u c.args.rates flow.rho (momentum_of flow) a k) c.requires.set c.collide.ensures.value in
    let small = subst (λ (u : Stencil). (k : ℕ) → k < u.directions → unsigned_abs (populations c.collide.result k) ≤ amount_bound) c.requires.set c.collide.ensures.size in
    makes-collided case c.args.rates flow c.args.cell a c.collide.result fluid limits collided small
