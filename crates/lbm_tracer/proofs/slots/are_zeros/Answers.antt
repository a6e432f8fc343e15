use Rattle.std.proofs.Common.{◌≡◌, ◌≤◌, ℤ, pos, FitsSigned, to_z, of_z, w64, bit_or, slice_index_or, below_more, sym, ap, ◌∙◌, arith, rules}
use Rattle.std.proofs.lemmas.Int.{to_z-of_z}
use Rattle.std.proofs.lemmas.Nat.{le_or_l, le_or_r}
use Rattle.lbm_tracer.proofs.slots.are_zeros.Goals as goal

pub loop-x-preserved : goal.loop-x-preserved
loop-x-preserved c =
    let any = c.loop-x.any in let word = c.cast_unsigned-any.result in let z = slice_index_or c.args.run.now c.loop-x.x (pos 0) in
    let fits : FitsSigned w64 z = search rules in
    record {
      zeros = λ none.
          let any_zero : any ≡ 0 = (let le : any ≤ bit_or any word = le_or_l any word in omega (arith, le, none)) in
          let word_zero : word ≡ 0 = (let le : word ≤ bit_or any word = le_or_r any word in omega (arith, le, none)) in
          let same : to_z w64 (of_z w64 z) ≡ z = to_z-of_z w64 z fits in
          let zero : z ≡ pos 0 = sym same ∙ ap (λ (y : ℤ). to_z w64 (of_z w64 y)) (sym same) ∙ ap (to_z w64) (sym c.cast_unsigned-any.ensures ∙ word_zero) in
          below_more _ _ (c.loop-x.invariant.zeros any_zero) zero;
    }
