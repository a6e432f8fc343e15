use Rattle.std.proofs.Common.{◌≡◌, ℕ, ◌+◌, ◌-◌, ◌/◌, ◌%◌, ◌<◌, ◌≤◌, List, get_or, sym, ap, ◌∙◌, arith}
use Rattle.lbm_space.specs.Torus.{Torus, IsSpace, cells, rows}
use Rattle.lbm_space.specs.Padded.{padded_index, place_before, row_start}
use Rattle.lbm_space.proofs.RowStarts.{row_start-row, row_start-end, row_start_inside, padded_index-row}
use Rattle.lbm_space.proofs.space.Space.row_start.Goals as goal

-- the place of a cell, by the row in which it lies
cells_of_row : (t : Torus) → IsSpace t → (row start : ℕ) → start ≡ row_start t row → (cell : ℕ) → cell < cells t → cell / t.nx ≡ row → padded_index t cell ≡ start + 1 + cell % t.nx
cells_of_row t space row start is cell known here =
    let from : row_start t (cell / t.nx) ≡ start = ap (row_start t) here ∙ sym is in
    padded_index-row t space cell known ∙ ap (λ (n : ℕ). n + 1 + cell % t.nx) from

pub returns-then-row-rows-clause-start : goal.returns-then-row-rows-clause-start
returns-then-row-rows-clause-start c =
    let t = c.args.self.now in let here = c.if-row-rows.true in let count = c.rows.ensures.count in
    c.place_before.ensures.place ∙ sym (row_start-row t c.rows.ensures.valid c.args.row (omega (arith, here, count)))

pub returns-then-row-rows-clause-inside : goal.returns-then-row-rows-clause-inside
returns-then-row-rows-clause-inside c =
    let is = returns-then-row-rows-clause-start c in let room = row_start_inside c.args.self.now c.rows.ensures.valid c.args.row c.requires in omega (arith, is, room)

pub returns-then-row-rows-clause-cells : goal.returns-then-row-rows-clause-cells
returns-then-row-rows-clause-cells c = cells_of_row c.args.self.now c.rows.ensures.valid c.args.row c.place_before.result (returns-then-row-rows-clause-start c)

-- the place at which the last row ends
end_is : (t : Torus) → IsSpace t → (row : ℕ) → row ≤ rows t → rows t ≤ row → place_before t (row - 1) + t.nx + 2 ≡ row_start t row
end_is t space row low high =
    let same : row ≡ rows t = omega arith in let end = row_start-end t space in
    rw same (omega (arith, end))

pub returns-clause-start : goal.returns-clause-start
returns-clause-start c =
    let t = c.args.self.now in let past = c.if-row-rows.false in let count = c.rows.ensures.count in
    (λ i. c.place_before-2.ensures.place i + get_or (c.sides.ensures.value i) 0 0 + 2) ∙ end_is t c.rows.ensures.valid c.args.row c.requires (omega (arith, past, count))

pub returns-clause-inside : goal.returns-clause-inside
returns-clause-inside c =
    let is = returns-clause-start c in let room = row_start_inside c.args.self.now c.rows.ensures.valid c.args.row c.requires in omega (arith, is, room)

pub returns-clause-cells : goal.returns-clause-cells
returns-clause-cells c = cells_of_row c.args.self.now c.rows.ensures.valid c.args.row (c.place_before-2.result + get_or c.sides.result 0 0 + 2) (returns-clause-start c)

pub overflow_add-result : goal.overflow_add-result
overflow_add-result c =
    let side : get_or c.sides.result 0 0 ≡ c.args.self.now.nx = ap (λ (l : List ℕ). get_or l 0 0) c.sides.ensures.value in let space = c.rows.ensures.valid in let known = c.place_before-2.ensures.known in
    record { fits = omega (arith, space.fits, space.few_x) }

pub overflow_add-result-2 : goal.overflow_add-result-2
overflow_add-result-2 c =
    let side : get_or c.sides.result 0 0 ≡ c.args.self.now.nx = ap (λ (l : List ℕ). get_or l 0 0) c.sides.ensures.value in let space = c.rows.ensures.valid in let known = c.place_before-2.ensures.known in
    record { fits = omega (arith, space.fits, space.few_x) }
