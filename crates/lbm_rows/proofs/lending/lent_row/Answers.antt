use Rattle.std.proofs.Common.{rules, ℕ, ◌*◌, ◌/◌, ◌<◌, ◌^◌, get_or, sym, ap, subst, arith}
use Rattle.lbm_space.specs.Torus.{Torus, rows}
use Rattle.lbm_walk.proofs.Places.{width, few_cells, row_end, row_known}
use Rattle.lbm_rows.proofs.LentRows.{lent_even}
use Rattle.lbm_rows.proofs.lending.lent_row.Goals as goal

pub returns-then-t-eq0-clause-value : goal.returns-then-t-eq0-clause-value
returns-then-t-eq0-clause-value g c = sym (lent_even c.args.case.now c.requires.valid c.args.t c.args.k c.args.row c.if-t-eq0.true)

pub overflow_mul-row : goal.overflow_mul-row
overflow_mul-row g c =
    let t = c.space-space.result.now in let row = c.args.row in
    let here : row < rows t = subst (λ (u : Torus). row < rows u) (sym c.space-space.ensures.value) c.requires.row in
    let few = few_cells t c.sides.ensures.valid row here in let whole = ap (λ (n : ℕ). row * n) (width t c.sides.result c.sides.ensures.value) in
    let small : row * get_or c.sides.result 0 0 < 2 ^ 32 = omega (arith, few, whole) in
    search (rules, small)

pub back-requires-clause-cell : goal.back-requires-clause-cell
back-requires-clause-cell g c =
    let t = c.space-space.result.now in let row = c.args.row in
    let here : row < rows t = subst (λ (u : Torus). row < rows u) (sym c.space-space.ensures.value) c.requires.row in
    let end = row_end t c.sides.ensures.valid row here in let whole = ap (λ (n : ℕ). row * n) (width t c.sides.result c.sides.ensures.value) in let some = c.sides.ensures.valid.some_x in
    omega (arith, end, whole, some)

pub returns-clause-known : goal.returns-clause-known
returns-clause-known g c =
    let t = c.space-space.result.now in
    subst (λ (p : ℕ × Torus). c.back.result / p.0 < rows p.1) (λ j. (sym (width t c.sides.result c.sides.ensures.value) j, c.space-space.ensures.value j)) (row_known t c.sides.ensures.valid c.back.result c.back.ensures.known)
