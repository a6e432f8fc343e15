use Rattle.std.proofs.Common.{◌≡◌, ℕ, ◌+◌, ◌*◌, ◌/◌, ◌%◌, ◌<◌, ◌≤◌, List, slice_index_or, sym, ap, subst, ◌∙◌, arith}
use Rattle.std.proofs.lemmas.Nat.{div_below}
use Rattle.lbm_space.specs.Stencil.{Stencil}
use Rattle.lbm_space.specs.Torus.{Torus, cells, rows, padded}
use Rattle.lbm_space.specs.Padded.{row_start}
use Rattle.lbm_model.specs.Layout.{stands_at, IsRound}
use Rattle.lbm_model.proofs.Sizes.{few_cells}
use Rattle.lbm_model.proofs.RowPlaces.{first_in_row, goes_round}
use Rattle.lbm_model.proofs.layout.Layout.row.Given as given
use Rattle.lbm_model.proofs.layout.Layout.row.Goals as goal

width : (g : given.Over) (c : goal.After-sides g) → slice_index_or c.sides.result 0 0 ≡ c.args.case.now.torus.nx
width g c = ap (λ (s : List ℕ). slice_index_or s 0 0) c.sides.ensures.value ∙ ap (λ (t : Torus). t.nx) c.space-space.ensures.value

known : (g : given.Over) (c : goal.After-sides g) → c.args.dir < c.args.case.now.stencil.directions
known g c = subst (λ (v : Stencil). c.args.dir < v.directions) (sym c.requires.set) c.requires.direction

-- the row's first cell
first : (g : given.Over) (c : goal.After-sides g) → c.args.row * slice_index_or c.sides.result 0 0 < cells c.args.case.now.torus
first g c = rw (width g c) (first_in_row c.args.case.now c.space-space.ensures.valid c.args.row c.args.dir c.requires.row (known g c))

pub overflow_mul-row : goal.overflow_mul-row
overflow_mul-row g c =
    let few = few_cells c.args.case.now.torus c.space-space.ensures.valid.space in let below = first g c in record { fits = omega (arith, few, below) }

pub stands_at-at-requires-clause-cell : goal.stands_at-at-requires-clause-cell
stands_at-at-requires-clause-cell g c = first g c

pub row_start-requires : goal.row_start-requires
row_start-requires g c =
    let t = c.args.case.now.torus in let at = c.stands_at-at.result in
    let wide : slice_index_or c.sides.result 0 0 ≡ t.nx = ap (λ (s : List ℕ). slice_index_or s 0 0) c.sides.ensures.value ∙ ap (λ (t : Torus). t.nx) c.space-space.ensures.value in
    let row : at / t.nx < rows t = div_below at t.nx (rows t) c.space-space.ensures.valid.space.some_x (omega (arith, c.stands_at-at.ensures.known)) in
    subst (λ (w : ℕ × Torus). at / w.0 ≤ rows w.1) (λ j. (sym wide j, sym c.space-space.ensures.value j)) (omega (arith, row))

pub returns : goal.returns
returns g c =
    let case = c.args.case.now in let layout = c.args.self in let row = c.args.row in let i = c.args.dir in let at = c.stands_at-at.result in
    let wide : slice_index_or c.sides.result 0 0 ≡ case.torus.nx = ap (λ (s : List ℕ). slice_index_or s 0 0) c.sides.ensures.value ∙ ap (λ (t : Torus). t.nx) c.space-space.ensures.value in
    let is : at ≡ stands_at case layout (row * case.torus.nx) i = c.stands_at-at.ensures.cell ∙ ap (λ (w : ℕ). stands_at case layout (row * w) i) wide in
    let start : c.row_start.result ≡ row_start case.torus (at / case.torus.nx) = c.row_start.ensures.start ∙ (λ j. row_start (c.space-space.ensures.value j) (at / wide j)) in
    let ends : row_start case.torus (at / case.torus.nx) + case.torus.nx + 2 ≤ padded case.torus =
    subst (λ (w : ℕ × Torus). w.0 + w.1.nx + 2 ≤ padded w.1) (λ j. (start j, c.space-space.ensures.value j)) c.row_start.ensures.inside in
    subst (λ (w : ℕ × ℕ). IsRound case layout row i (layout.base + w.0 + 1, at % w.1)) (λ j. (sym start j, sym wide j))
    (goes_round case c.space-space.ensures.valid row i c.requires.row (subst (λ (v : Stencil). i < v.directions) (sym c.requires.set) c.requires.direction) layout at c.requires.base ends is)
