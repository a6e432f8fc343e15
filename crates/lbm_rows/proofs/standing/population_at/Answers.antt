use Rattle.std.proofs.Common.{rules, FitsSigned, w64, ◌≡◌, ℕ, ◌+◌, ◌*◌, ◌/◌, ◌%◌, ◌<◌, get_or, ap, sym, subst, ◌∙◌, arith}
use Rattle.std.proofs.lemmas.Int.{to_z-of_z}
use Rattle.std.proofs.lemmas.Nat.{mul-add-lt, mod_below}
use Rattle.lbm_space.specs.Stencil.{Stencil}
use Rattle.lbm_space.specs.Torus.{Torus, cells, rows}
use Rattle.lbm_cell.specs.Rows.{entry}
use Rattle.lbm_walk.proofs.Places.{width, row_known}
use Rattle.lbm_rows.proofs.standing.population_at.Goals as goal

pub row_number-row-requires-clause-row : goal.row_number-row-requires-clause-row
row_number-row-requires-clause-row g c =
    let t = c.space-space.result.now in
    let here : c.place_of-k.result.1 < cells t = subst (λ (u : Torus). c.place_of-k.result.1 < cells u) (sym c.space-space.ensures.value) c.place_of-k.ensures.known.1 in
    subst (λ (w : ℕ). c.place_of-k.result.1 / w < rows t) (sym (width t c.sides.result c.sides.ensures.value)) (row_known t c.sides.ensures.valid c.place_of-k.result.1 here)

pub slot_in-requires-clause-row : goal.slot_in-requires-clause-row
slot_in-requires-clause-row g c =
    let case = c.args.case.now in let at = c.place_of-k.result.1 in let k = c.place_of-k.result.0 in
    let of_set : k < case.stencil.directions = subst (λ (v : Stencil). k < v.directions) (sym c.requires.set) c.place_of-k.ensures.known.0 in
    let w : get_or c.sides.result 0 0 ≡ case.torus.nx = width c.space-space.result.now c.sides.result c.sides.ensures.value ∙ ap (λ (u : Torus). u.nx) c.space-space.ensures.value in
    let row : c.row_number-row.result ≡ k * rows case.torus + at / case.torus.nx = c.row_number-row.ensures ∙ (λ z. k * rows (c.space-space.ensures.value z) + at / w z) in
    let e = mul-add-lt k (rows case.torus) (at / case.torus.nx) case.stencil.directions of_set (row_known case.torus c.requires.valid.space at c.place_of-k.ensures.known.1) in
    omega (arith, e, row, c.requires.kept.count)

pub slot_in-requires-clause-inside : goal.slot_in-requires-clause-inside
slot_in-requires-clause-inside g c =
    let case = c.args.case.now in let at = c.place_of-k.result.1 in let k = c.place_of-k.result.0 in
    let of_set : k < case.stencil.directions = subst (λ (v : Stencil). k < v.directions) (sym c.requires.set) c.place_of-k.ensures.known.0 in
    let w : get_or c.sides.result 0 0 ≡ case.torus.nx = width c.space-space.result.now c.sides.result c.sides.ensures.value ∙ ap (λ (u : Torus). u.nx) c.space-space.ensures.value in
    let row : c.row_number-row.result ≡ k * rows case.torus + at / case.torus.nx = c.row_number-row.ensures ∙ (λ z. k * rows (c.space-space.ensures.value z) + at / w z) in
    let e = mul-add-lt k (rows case.torus) (at / case.torus.nx) case.stencil.directions of_set (row_known case.torus c.requires.valid.space at c.place_of-k.ensures.known.1) in
    let long = c.requires.kept.lengths c.row_number-row.result (omega (arith, e, row)) in
    let column : at % get_or c.sides.result 0 0 < case.torus.nx = subst (λ (n : ℕ). at % n < case.torus.nx) (sym w) (mod_below at case.torus.nx c.requires.valid.space.some_x) in
    omega (arith, long, column)

pub returns : goal.returns
returns g c =
    let case = c.args.case.now in let at = c.place_of-k.result.1 in let k = c.place_of-k.result.0 in
    let w : get_or c.sides.result 0 0 ≡ case.torus.nx = width c.space-space.result.now c.sides.result c.sides.ensures.value ∙ ap (λ (u : Torus). u.nx) c.space-space.ensures.value in
    let placed = c.place_of-k.ensures in
    let row : c.row_number-row.result ≡ k * rows case.torus + at / case.torus.nx = c.row_number-row.ensures ∙ (λ z. k * rows (c.space-space.ensures.value z) + at / w z) in
    let fits : FitsSigned w64 c.slot_in.result = search rules in
    to_z-of_z w64 c.slot_in.result fits ∙ c.slot_in.ensures ∙ (λ z. entry c.args.kept.now (row z) (1 + at % w z)) ∙ (λ z. entry c.args.kept.now (placed.array z * rows case.torus + placed.place z / case.torus.nx) (1 + placed.place z % case.torus.nx))
