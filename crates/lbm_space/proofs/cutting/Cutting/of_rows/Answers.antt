use Rattle.std.proofs.Common.{◌≡◌, ℕ, ◌<◌, ◌++◌, ◌∷◌, [], Option, IfNone, length, ◌∙◌, subst, arith, length-append}
use Rattle.lbm_space.specs.Cuttings.{IsGoodCut}
use Rattle.lbm_space.proofs.RowStarts.{some_row}
use Rattle.lbm_space.proofs.Slabs.{rows_below_padded, cutting_from_rows, rows_from_rows}
use Rattle.lbm_space.proofs.cutting.Cutting.of_rows.Goals as goal

pub invariant_of-result : goal.invariant_of-result
invariant_of-result c =
    let t = c.args.space.now in let valid = c.rows-count.ensures.valid in let total = c.rows-count.ensures.count in let fits = rows_below_padded t valid in
    let entries = c.args.rows.now in let some = some_row t valid in
    let items : c.push-2.new.self.items ≡ 0 ∷ entries ++ c.rows-count.result ∷ [] =
    c.in_ok-push-2.ensures.items ∙ (λ i. (c.in_ok-extend_from_slice.ensures.items ∙ (λ j. (c.in_ok-push.ensures.items ∙ (λ k. c.new-bounds.ensures.items k ++ 0 ∷ [])) j ++ entries)) i ++ c.rows-count.result ∷ []) in
    let good : (k : ℕ) → k < length entries → IsGoodCut c.rows-count.result entries k =
    subst (λ (r : Option ℕ). IfNone r ((k : ℕ) → k < length entries → IsGoodCut c.rows-count.result entries k)) c.in_default.is c.first_bad_cut.ensures.none in
    let long = length-append entries (c.rows-count.result ∷ []) in let few = c.requires in let whole = rows_from_rows c.rows-count.result entries in
    rw items (cutting_from_rows c.rows-count.result entries (omega arith) good, omega arith, omega (arith, valid.fits))
