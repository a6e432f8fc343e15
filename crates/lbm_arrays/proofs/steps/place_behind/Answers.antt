use Rattle.std.proofs.Common.{ℤ, pos, ◌-ℤ◌, w64, ap, ◌∙◌, arith, rules}
use mir.Val.{SFits}
use Rattle.std.proofs.lemmas.Int.{ints, to_z-of_z}
use Rattle.lbm_arrays.proofs.Behind.{interior_behind}
use Rattle.lbm_arrays.proofs.steps.place_behind.Goals as goal

pub before-requires : goal.before-requires
before-requires g c =
    let fits : SFits w64 c.offset.result = search rules in let off = to_z-of_z w64 c.offset.result fits ∙ c.offset.ensures.value in
    let here = interior_behind c.args.space.now c.offset.ensures.valid g.V.VelocitySet.stencil g.met.V.VelocitySet.laws c.requires.dimension c.args.k c.requires.direction c.args.place c.requires.cell in
    let low = here.0 in let high = here.1 in let few = c.offset.ensures.valid.fits in
    rw off (omega (arith, ints, low, high, few))

pub as_place-requires-clause-low : goal.as_place-requires-clause-low
as_place-requires-clause-low g c =
    let fits : SFits w64 c.offset.result = search rules in let off = to_z-of_z w64 c.offset.result fits ∙ c.offset.ensures.value in
    let here = interior_behind c.args.space.now c.offset.ensures.valid g.V.VelocitySet.stencil g.met.V.VelocitySet.laws c.requires.dimension c.args.k c.requires.direction c.args.place c.requires.cell in
    let low = here.0 in let high = here.1 in let few = c.offset.ensures.valid.fits in
    let fits' : SFits w64 c.before-2.result = search rules in
    let value = to_z-of_z w64 c.before-2.result fits' ∙ c.before-2.ensures.value ∙ ap (λ (z : ℤ). pos c.args.place -ℤ z) off in
    rw value low

pub as_place-requires-clause-high : goal.as_place-requires-clause-high
as_place-requires-clause-high g c =
    let fits : SFits w64 c.offset.result = search rules in let off = to_z-of_z w64 c.offset.result fits ∙ c.offset.ensures.value in
    let here = interior_behind c.args.space.now c.offset.ensures.valid g.V.VelocitySet.stencil g.met.V.VelocitySet.laws c.requires.dimension c.args.k c.requires.direction c.args.place c.requires.cell in
    let low = here.0 in let high = here.1 in let few = c.offset.ensures.valid.fits in
    let fits' : SFits w64 c.before-2.result = search rules in
    let value = to_z-of_z w64 c.before-2.result fits' ∙ c.before-2.ensures.value ∙ ap (λ (z : ℤ). pos c.args.place -ℤ z) off in
    rw value (omega (arith, ints, high, few))

pub returns-clause-place : goal.returns-clause-place
returns-clause-place g c =
    let fits : SFits w64 c.offset.result = search rules in let off = to_z-of_z w64 c.offset.result fits ∙ c.offset.ensures.value in
    let here = interior_behind c.args.space.now c.offset.ensures.valid g.V.VelocitySet.stencil g.met.V.VelocitySet.laws c.requires.dimension c.args.k c.requires.direction c.args.place c.requires.cell in
    let low = here.0 in let high = here.1 in let few = c.offset.ensures.valid.fits in
    let fits' : SFits w64 c.before-2.result = search rules in
    let value = to_z-of_z w64 c.before-2.result fits' ∙ c.before-2.ensures.value ∙ ap (λ (z : ℤ). pos c.args.place -ℤ z) off in
    c.as_place.ensures ∙ value

pub returns-clause-inside : goal.returns-clause-inside
returns-clause-inside g c =
    let fits : SFits w64 c.offset.result = search rules in let off = to_z-of_z w64 c.offset.result fits ∙ c.offset.ensures.value in
    let here = interior_behind c.args.space.now c.offset.ensures.valid g.V.VelocitySet.stencil g.met.V.VelocitySet.laws c.requires.dimension c.args.k c.requires.direction c.args.place c.requires.cell in
    let low = here.0 in let high = here.1 in let few = c.offset.ensures.valid.fits in
    let fits' : SFits w64 c.before-2.result = search rules in
    let value = to_z-of_z w64 c.before-2.result fits' ∙ c.before-2.ensures.value ∙ ap (λ (z : ℤ). pos c.args.place -ℤ z) off in
    let is = c.as_place.ensures ∙ value in omega (arith, ints, is, high)
