use Rattle.std.proofs.Common.{◌≡◌, false, sym, ◌∙◌}
use Rattle.lbm_cell.specs.Moments.{populations}
use Rattle.lbm_model.specs.Case.{is_solid}
use Rattle.lbm_model.proofs.SmallStates.{post_small, is_post-fluid}
use Rattle.lbm_model.proofs.cell.post.Goals as goal

pub returns-then-is_solid-clause-small : goal.returns-then-is_solid-clause-small
returns-then-is_solid-clause-small g c =
    let case = c.args.case.now in
    let f = populations c.args.f.now.f in
    λ i known.
    rw (c.reflected.ensures.post i known)
    (post_small case c.args.cell i f c.is_solid.ensures.valid c.requires.sound (λ k known_k. c.requires.small k (rw (← c.requires.set) known_k)) (rw c.requires.set known))

pub returns-else-is_solid-clause-post : goal.returns-else-is_solid-clause-post
returns-else-is_solid-clause-post g c =
    let fluid : is_solid c.args.case.now c.args.cell ≡ false = sym c.is_solid.ensures.value ∙ c.if-is_solid.false in
    λ i known.
    is_post-fluid c.args.case.now c.args.cell (populations c.args.f.now.f) i g.V.VelocitySet.stencil c.rates.result c.force.result (populations c.collide.result.f i) c.requires.set c.rates.ensures.value c.force.ensures.value fluid (c.collide.ensures.post i known)

pub returns-else-is_solid-clause-small : goal.returns-else-is_solid-clause-small
returns-else-is_solid-clause-small g c =
    let case = c.args.case.now in
    let f = populations c.args.f.now.f in
    λ i known.
    rw (returns-else-is_solid-clause-post g c i known)
    (post_small case c.args.cell i f c.is_solid.ensures.valid c.requires.sound (λ k known_k. c.requires.small k (rw (← c.requires.set) known_k)) (rw c.requires.set known))
