use Rattle.std.proofs.Common.{rules, ◌≡◌, ℕ, ◌+◌, ◌*◌, ◌<◌, ◌^◌, pos, FitsSigned, w64, get_or, ap, sym, ◌∙◌, subst, arith, inl, inr}
use Rattle.std.specs.Prelude.{slice_index_or}
use Rattle.std.proofs.lemmas.Bool.{cases_eq}
use Rattle.std.proofs.lemmas.Int.{to_z-of_z}
use Rattle.lbm_space.specs.Torus.{Torus, cells, rows}
use Rattle.lbm_walk.proofs.Places.{width, few_cells, row_end}
use Rattle.lbm_rows.specs.Kept.{placed}
use Rattle.lbm_rows.proofs.KeptStates.{slot_in_front, slot_at_end}
use Rattle.lbm_rows.proofs.standing.make_row.Goals as goal

pub overflow_mul-row : goal.overflow_mul-row
overflow_mul-row g c =
    let t = c.space.result.now in let row = c.args.row in
    let here : row < rows t = subst (λ (u : Torus). row < rows u) (sym c.space.ensures.value) c.requires.row in
    let few = few_cells t c.sides.ensures.valid row here in let whole = ap (λ (n : ℕ). row * n) (width t c.sides.result c.sides.ensures.value) in
    let small : row * get_or c.sides.result 0 0 < 2 ^ 32 = omega (arith, few, whole) in
    search (rules, small)

pub overflow_add-row : goal.overflow_add-row
overflow_add-row g c =
    let t = c.space.result.now in let row = c.args.row in let wide = width t c.sides.result c.sides.ensures.value in
    let here : row < rows t = subst (λ (u : Torus). row < rows u) (sym c.space.ensures.value) c.requires.row in
    let few = few_cells t c.sides.ensures.valid row here in let whole = ap (λ (n : ℕ). row * n) wide in
    let small : row * get_or c.sides.result 0 0 + c.loop-x.x < 2 ^ 32 = omega (arith, few, whole, wide, c.loop-x-test.true) in
    search (rules, small)

pub number_at-requires-clause-cell : goal.number_at-requires-clause-cell
number_at-requires-clause-cell g c =
    let t = c.space.result.now in let row = c.args.row in let wide = width t c.sides.result c.sides.ensures.value in
    let here : row < rows t = subst (λ (u : Torus). row < rows u) (sym c.space.ensures.value) c.requires.row in
    let end = row_end t c.sides.ensures.valid row here in let whole = ap (λ (n : ℕ). row * n) wide in let same = ap cells c.space.ensures.value in
    omega (arith, end, whole, wide, same, c.loop-x-test.true)

pub loop-x-preserved : goal.loop-x-preserved
loop-x-preserved g c =
    let case = c.args.case.now in let inv = c.loop-x.invariant in let row = c.args.row in
    let wide : get_or c.sides.result 0 0 ≡ case.torus.nx = width c.space.result.now c.sides.result c.sides.ensures.value ∙ ap (λ (u : Torus). u.nx) c.space.ensures.value in
    let fits : FitsSigned w64 c.number_at.result = search rules in
    let pushed = c.push_reserved-in-loop-x.ensures.items in record {
      long = search rules;
      space = search rules;
      slots = λ x below. elim (cases_eq x c.loop-x.x) [
        | inl same ↦ (λ z. slice_index_or (pushed z) (1 + x) (pos 0)) ∙ slot_at_end _ _ (1 + x) (omega (arith, inv.long, same)) ∙ to_z-of_z w64 c.number_at.result fits ∙ c.number_at.ensures
            ∙ (λ z. placed case c.args.t c.args.state.now c.args.k (row * wide z + sym same z))
        | inr ne ↦ (λ z. slice_index_or (pushed z) (1 + x) (pos 0)) ∙ slot_in_front _ _ (1 + x) (omega (arith, inv.long)) ∙ inv.slots x (omega arith)
      ];
    }

pub returns-clause-slots : goal.returns-clause-slots
returns-clause-slots g c = λ x here.
    let inv = c.loop-x.invariant in let past = c.loop-x-test.false in let end = c.loop-x.auto.x-end in
    let wide : get_or c.sides.result 0 0 ≡ c.args.case.now.torus.nx = width c.space.result.now c.sides.result c.sides.ensures.value ∙ ap (λ (u : Torus). u.nx) c.space.ensures.value in
    let below : x < c.loop-x.x = omega (arith, past, end, wide, here) in
    (λ z. slice_index_or ((c.new.ensures ∙ c.push_reserved-2.ensures.items) z) (1 + x) (pos 0)) ∙ slot_in_front _ _ (1 + x) (omega (arith, inv.long, below)) ∙ inv.slots x below
