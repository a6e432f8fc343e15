use Rattle.std.proofs.Common.{◌≡◌, ℕ, ◌<◌, inl, inr, slice_index, slice_set, sym, ap, ◌∙◌, arith}
use Rattle.std.proofs.lemmas.Bool.{cases_eq}
use Rattle.std.proofs.lemmas.List.{get_or-set_same, get_or-set_other, length-set}
use Rattle.lbm_model.specs.Layout.{array_of, aa_layout}
use Rattle.lbm_rows.specs.Lending.{lent_number}
use Rattle.lbm_rows.proofs.Touching.{array_known}
use Rattle.lbm_rows.proofs.reading.numbers_of.Goals as goal

pub lent_number-requires-clause-array : goal.lent_number-requires-clause-array
lent_number-requires-clause-array g c =
    let v = g.V.VelocitySet.stencil in let i = c.loop-i.i in
    let known : i < v.directions = omega (arith, g.met.V.VelocitySet.constants.0, c.Q-i-end.ensures, c.loop-i-test.true) in
    let is = c.requires.ways.takes i known in let below = array_known v g.met.V.VelocitySet.laws c.args.time i known in omega (arith, is, below)

pub loop-i-preserved : goal.loop-i-preserved
loop-i-preserved g c =
    let v = g.V.VelocitySet.stencil in let i = c.loop-i.i in let numbers = c.loop-i.numbers in let number = c.lent_number.result in let long = c.loop-i.invariant.long in
    let known : i < v.directions = omega (arith, g.met.V.VelocitySet.constants.0, c.Q-i-end.ensures, c.loop-i-test.true) in
    let few = g.met.V.VelocitySet.laws.few_directions in
    let is : slice_index c.args.ways.now.takes i ≡ array_of v (aa_layout c.args.time) i = (let e = c.requires.ways.takes i known in omega (arith, e)) in
    record {
      long = length-set numbers i number ∙ long;
      numbers_are = λ j more. elim (cases_eq j i) [
        | inl same ↦ ap (slice_index (slice_set numbers i number)) same ∙ get_or-set_same numbers i number 0 (omega (arith, known, few, long)) ∙ c.lent_number.ensures.value
            ∙ ap (λ (k : ℕ). lent_number c.args.case.now c.args.time k c.args.row) is ∙ ap (λ (k : ℕ). lent_number c.args.case.now c.args.time (array_of v (aa_layout c.args.time) k) c.args.row) (sym same)
        | inr ne ↦ get_or-set_other numbers i j number 0 ne ∙ c.loop-i.invariant.numbers_are j (omega arith)
      ];
    }
