use Rattle.std.proofs.Common.{◌≡◌, ◌∙◌, false, sym, subst}
use Rattle.lbm_cell.specs.Moments.{populations}
use Rattle.lbm_model.specs.Case.{is_solid}
use Rattle.lbm_model.specs.State.{flow_state, population}
use Rattle.lbm_answer.specs.Reports.{IsSmallMoment}
use Rattle.lbm_answer.proofs.SmallMoments.{moment_of-small}
use Rattle.lbm_answer.proofs.SameMoments.{moment-parts, moment_of-same}
use Rattle.lbm_answer.proofs.measures.printed_moment.Goals as goal

pub moment-requires : goal.moment-requires
moment-requires g c = λ i known. c.populations_of.ensures.fits i

pub returns-clause-value : goal.returns-clause-value
returns-clause-value g c =
    let m = c.moment.ensures in
    let v = g.V.VelocitySet.stencil in
    let f = populations c.populations_of.result.f in
    let s = population (flow_state v.directions c.args.pops.now) c.args.cell in
    let fluid : is_solid c.args.case.now c.args.cell ≡ false = sym c.is_solid.ensures.value ∙ c.if-is_solid.false in
    rw (fluid, c.requires.set) (moment-parts _ v f m.density m.momentum_x m.momentum_y m.momentum_z ∙ moment_of-same v f s c.populations_of.ensures.known)

pub returns-clause-small : goal.returns-clause-small
returns-clause-small g c =
    let m = c.moment.ensures in
    let v = g.V.VelocitySet.stencil in
    let f = populations c.populations_of.result.f in
    subst IsSmallMoment (sym (moment-parts _ v f m.density m.momentum_x m.momentum_y m.momentum_z)) (moment_of-small v f g.met.V.VelocitySet.laws (λ i known. c.populations_of.ensures.fits i))
