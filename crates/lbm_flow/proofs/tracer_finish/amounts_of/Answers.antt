use Rattle.std.proofs.Common.{◌≡◌, ◌∙◌, ℕ, ◌+◌, List, [], ◌∷◌, ◌++◌, ℤ, FitsSigned, ap, sym, arith, rules}
use Rattle.std.specs.Int.{w64}
use Rattle.std.proofs.lemmas.Int.{to_z-of_z}
use Rattle.std.proofs.lemmas.List.FromFn.{map-range_with_len_more}
use Rattle.lbm_space.specs.Torus.{Torus, cells}
use Rattle.lbm_space.specs.Sum.{list_below}
use Rattle.lbm_tracer.specs.Carried.{carried}
use Rattle.lbm_answer.specs.Reports.{printed_amount}
use Rattle.lbm_flow.proofs.tracer_finish.amounts_of.Goals as goal

-- one more number behind those of the first n
one_more : (f : ℕ → ℤ) (n : ℕ) (all more : List ℤ) (last : ℤ) → more ≡ all ++ last ∷ [] → all ≡ list_below n f → last ≡ f n → more ≡ list_below (n + 1) f
one_more f n all more last pushed before value =
    pushed ∙ ap (λ xs. xs ++ last ∷ []) before ∙ ap (λ z. list_below n f ++ z ∷ []) value ∙ sym (map-range_with_len_more f 0 n n (omega arith))

pub loop-cell-preserved : goal.loop-cell-preserved
loop-cell-preserved g c =
    let amount = printed_amount c.args.case.now (carried c.args.tracer.now).state in
    let fits : FitsSigned w64 c.amount_of.result = search rules in
    one_more amount c.loop-cell.cell _ _ _ c.in_ok-push.ensures.items c.loop-cell.invariant (to_z-of_z w64 _ fits ∙ c.amount_of.ensures)

pub returns : goal.returns
returns g c =
    let amount = printed_amount c.args.case.now (carried c.args.tracer.now).state in
    let count = c.cells-cells.ensures.count ∙ ap (λ (t : Torus). cells t) c.space.ensures.value in
    let whole : c.loop-cell.cell ≡ cells c.args.case.now.torus = omega (arith, count) in
    c.loop-cell.invariant ∙ ap (λ n. list_below n amount) whole
