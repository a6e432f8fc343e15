use Rattle.std.proofs.Common.{◌≡◌, false, FitsSigned, rules, refl, ap, sym, ◌∙◌, to_z, of_z}
use Rattle.std.specs.Int.{w64}
use Rattle.lbm_space.specs.Stencil.{Stencil, velocity}
use Rattle.lbm_space.specs.Torus.{Torus, back}
use Rattle.lbm_cell.specs.Moments.{populations}
use Rattle.lbm_cell.proofs.Sizes.{clean}
use Rattle.lbm_model.specs.Case.{is_solid, source}
use Rattle.lbm_model.specs.Flow.{fluid_first}
use Rattle.lbm_model.proofs.FirstLemmas.{wall_first-fluid}
use Rattle.lbm_model.proofs.first.wall_first.Goals as goal

pub returns-else-is_solid : goal.returns-else-is_solid
returns-else-is_solid g c =
    let case = c.args.case.now in
    let from = c.back-source.result in
    let source_is : from ≡ source case c.args.cell c.args.i =
    c.back-source.ensures.cell ∙ ap (λ (t : Torus). back t (velocity g.V.VelocitySet.stencil c.args.i) c.args.cell) c.space.ensures.value ∙ ap (λ (s : Stencil). back case.torus (velocity s c.args.i) c.args.cell) (sym c.requires.set) in
    let fluid : is_solid case from ≡ false = sym c.is_solid.ensures.value ∙ c.if-is_solid.false in
    let fits : FitsSigned w64 (populations c.fluid_first.result.f c.args.i) = search rules in
    let machine : to_z w64 (of_z w64 (populations c.fluid_first.result.f c.args.i)) ≡ fluid_first case from c.args.i = clean (populations c.fluid_first.result.f c.args.i) _ fits (c.fluid_first.ensures.first c.args.i c.requires.known) in
    record {
      first = machine ∙ sym (wall_first-fluid case c.args.cell c.args.i from source_is fluid);
      small = rw (clean (populations c.fluid_first.result.f c.args.i) _ fits refl) (c.fluid_first.ensures.small c.args.i);
    }
