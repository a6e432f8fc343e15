use Rattle.std.proofs.Common.{◌≡◌, ◌<◌, pos, slice_index_or, FitsSigned, w32, w64, sym, ap, subst, ◌∙◌, rules, arith}
use Rattle.std.proofs.lemmas.Int.{to_z-of_z}
use Rattle.lbm_space.specs.Stencil.{Stencil, velocity}
use Rattle.lbm_space.specs.Torus.{Torus, cells, back}
use Rattle.lbm_cell.specs.Moments.{populations}
use Rattle.lbm_cell.proofs.Least.{least_failing-none}
use Rattle.lbm_model.specs.State.{population}
use Rattle.lbm_model.specs.Case.{source, target}
use Rattle.lbm_model.specs.Flow.{is_sound, post}
use Rattle.lbm_model.proofs.States.{population-state_by}
use Rattle.lbm_plain.proofs.Readings.{read_sound, read_post, limit_fits}
use Rattle.lbm_plain.proofs.plain.pulled.Goals as goal

pub post-requires-clause-sound : goal.post-requires-clause-sound
post-requires-clause-sound g c =
    let case = c.args.case.now in let s = c.args.state.now in let y = c.back-source.result in
    let there = subst (λ (t : Torus). y < cells t) c.space.ensures.value c.back-source.ensures.known in
    read_sound case g.V.VelocitySet.stencil c.requires.set s y (populations c.pops_at.result.f) c.pops_at.ensures
    ∙ least_failing-none (cells case.torus) (λ x. is_sound case x (population s x)) c.requires.sound y there

pub post-requires-clause-small : goal.post-requires-clause-small
post-requires-clause-small g c i known =
    let there = subst (λ (t : Torus). c.back-source.result < cells t) c.space.ensures.value c.back-source.ensures.known in
    rw (c.pops_at.ensures i known) (c.requires.small.within c.back-source.result i there (subst (λ (v : Stencil). i < v.directions) (sym c.requires.set) known))

pub returns-clause-value : goal.returns-clause-value
returns-clause-value g c =
    let case = c.args.case.now in let s = c.args.state.now in let i = c.args.dir in
    let known = subst (λ (v : Stencil). i < v.directions) (sym c.requires.set) c.requires.direction in
    let behind : c.back-source.result ≡ source case c.args.cell i = c.back-source.ensures.cell ∙ (λ j. back (c.space.ensures.value j) (velocity (sym c.requires.set j) i) c.args.cell) in
    let fits : FitsSigned w64 (slice_index_or c.post.result.f i (pos 0)) = search rules in
    to_z-of_z w64 (slice_index_or c.post.result.f i (pos 0)) fits ∙ c.post.ensures.post i c.requires.direction
    ∙ read_post case g.V.VelocitySet.stencil c.requires.set s c.back-source.result (populations c.pops_at.result.f) c.pops_at.ensures i c.space.ensures.valid known
    ∙ (λ j. post case (behind j) (population s (behind j)) i)
    ∙ sym (population-state_by case (λ x k. post case (source case x k) (population s (source case x k)) k) c.args.cell i c.requires.cell known)

pub returns-clause-fits : goal.returns-clause-fits
returns-clause-fits g c =
    let case = c.args.case.now in let i = c.args.dir in
    let fits : FitsSigned w64 (slice_index_or c.post.result.f i (pos 0)) = search rules in
    subst (FitsSigned w32) (sym (to_z-of_z w64 (slice_index_or c.post.result.f i (pos 0)) fits))
    (limit_fits case (target case c.back-source.result i) (slice_index_or c.post.result.f i (pos 0)) (c.post.ensures.small i c.requires.direction))
