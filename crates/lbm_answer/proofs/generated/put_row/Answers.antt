use Rattle.std.proofs.Common.{◌≡◌, ◌∙◌, ℕ, ◌+◌, List, [], ◌∷◌, ◌++◌, ap, sym, append_assoc, arith}
use Rattle.std.specs.Prelude.{codes}
use Rattle.std.proofs.lemmas.List.FromFn.{map-range_with_len_more}
use Rattle.lbm_space.specs.Sum.{list_below}
use Rattle.lbm_answer.specs.Gen.{gen_cell}
use Rattle.lbm_answer.proofs.generated.put_row.Goals as goal

pub loop-x-preserved : goal.loop-x-preserved
loop-x-preserved c =
    let x = c.loop-x.x in
    let f = λ (x : ℕ). gen_cell c.args.n x c.args.y in
    let front = c.args.text.now.items ++ codes "\"" in
    let more : list_below (x + 1) f ≡ list_below x f ++ f x ∷ [] = map-range_with_len_more f 0 x x (omega arith) in
    c.in_ok-push-2.ensures.items
    ∙ ap (λ (z : ℕ). c.loop-x.text.items ++ z ∷ []) c.cell.ensures
    ∙ ap (λ (xs : List ℕ). xs ++ f x ∷ []) c.loop-x.invariant
    ∙ append_assoc front (list_below x f) (f x ∷ [])
    ∙ ap (λ (xs : List ℕ). front ++ xs) (sym more)

pub returns : goal.returns
returns c =
    let f = λ (x : ℕ). gen_cell c.args.n x c.args.y in
    let text = c.args.text.now.items in
    let quote = codes "\"" in
    let end = codes "\",\n" in
    let cells = list_below 128 f in
    let last : c.loop-x.x ≡ 128 = omega arith in
    let whole : c.loop-x.text.items ≡ text ++ quote ++ cells = c.loop-x.invariant ∙ ap (λ (k : ℕ). text ++ quote ++ list_below k f) last in
    c.in_ok-extend_from_slice.ensures.items
    ∙ ap (λ (xs : List ℕ). xs ++ end) whole
    ∙ append_assoc (text ++ quote) cells end
    ∙ append_assoc text quote (cells ++ end)
    ∙ ap (λ (xs : List ℕ). text ++ xs) (sym (append_assoc quote cells end))
