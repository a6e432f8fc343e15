use Rattle.std.proofs.Common.{◌≡◌, ◌≢◌, ◌≤◌, ℤ, pos, true, List, FitsSigned, unsigned_abs, arith, rules, ap, sym, subst, ◌∙◌, to_z, of_z}
use Rattle.std.specs.Int.{w64}
use Rattle.std.proofs.lemmas.Int.{ints}
use Rattle.std.proofs.lemmas.Bool.{eq-eqb}
use Rattle.lbm_space.specs.Stencil.{Stencil, part}
use Rattle.lbm_cell.specs.Collision.{first_population}
use Rattle.lbm_cell.proofs.Sizes.{clean}
use Rattle.lbm_model.specs.Case.{first_density, is_solid}
use Rattle.lbm_model.proofs.first.fluid_first.Goals as goal

pub first_pops-requires-clause-density_above : goal.first_pops-requires-clause-density_above
first_pops-requires-clause-density_above g c =
    let case = c.args.case.now in
    let d = c.density.result in
    let some : d ≢ 0 = λ none. (let solid : is_solid case c.args.cell ≡ true = eq-eqb (first_density case c.args.cell) 0 (sym c.density.ensures.value ∙ none) in let fluid = c.requires.fluid in absurd cc) in
    let thin : 442368 ≤ d = c.density.ensures.not_thin some in
    let fits : FitsSigned w64 c.from.result = search rules in
    let rho : to_z w64 (of_z w64 c.from.result) ≡ pos d = clean c.from.result _ fits c.from.ensures in
    rw rho (omega (arith, ints))

pub first_pops-requires-clause-density_at_most : goal.first_pops-requires-clause-density_at_most
first_pops-requires-clause-density_at_most g c =
    let fits : FitsSigned w64 c.from.result = search rules in
    let rho : to_z w64 (of_z w64 c.from.result) ≡ pos c.density.result = clean c.from.result _ fits c.from.ensures in
    let dense = c.density.ensures.not_dense in
    rw rho (omega (arith, ints, dense))

pub first_pops-requires-clause-momentum : goal.first_pops-requires-clause-momentum
first_pops-requires-clause-momentum g c a axis = subst (λ (u : List ℤ). unsigned_abs (part u a) ≤ 884736) (sym c.momentum-j.ensures.value) (c.momentum-j.ensures.valid.momentum.small a axis)

pub first_pops-requires-clause-flat : goal.first_pops-requires-clause-flat
first_pops-requires-clause-flat g c a axis past =
    let past' = subst (λ (s : Stencil). s.dimension ≤ a) (sym c.requires.set) past in
    subst (λ (u : List ℤ). part u a ≡ pos 0) (sym c.momentum-j.ensures.value) (c.momentum-j.ensures.valid.momentum.flat a axis past')

pub returns-clause-first : goal.returns-clause-first
returns-clause-first g c =
    let case = c.args.case.now in
    let j = c.momentum-j.result in
    let fits : FitsSigned w64 c.from.result = search rules in
    let rho : to_z w64 (of_z w64 c.from.result) ≡ pos (first_density case c.args.cell) = clean c.from.result _ fits (c.from.ensures ∙ ap pos c.density.ensures.value) in
    λ i known.
    c.first_pops.ensures.first i known
    ∙ ap (λ (r : ℤ). first_population g.V.VelocitySet.stencil r j i) rho
    ∙ ap (λ (u : List ℤ). first_population g.V.VelocitySet.stencil (pos (first_density case c.args.cell)) u i) c.momentum-j.ensures.value
    ∙ ap (λ (s : Stencil). first_population s (pos (first_density case c.args.cell)) case.momentum i) (sym c.requires.set)

pub returns-clause-small : goal.returns-clause-small
returns-clause-small g c =
    let case = c.args.case.now in
    let d = c.density.result in
    let some : d ≢ 0 = λ none. (let solid : is_solid case c.args.cell ≡ true = eq-eqb (first_density case c.args.cell) 0 (sym c.density.ensures.value ∙ none) in let fluid = c.requires.fluid in absurd cc) in
    let thin : 442368 ≤ d = c.density.ensures.not_thin some in
    let fits : FitsSigned w64 c.from.result = search rules in
    let rho : to_z w64 (of_z w64 c.from.result) ≡ pos d = clean c.from.result _ fits c.from.ensures in
    c.first_pops.ensures.small (rw rho (omega (arith, ints)))
