use Rattle.std.proofs.Common.{◌≡◌, ℕ, ◌+◌, ◌*◌, ◌/◌, ◌%◌, ◌<◌, ◌≤◌, List, slice_index_or, refl, sym, ap, subst, ◌∙◌, arith}
use Rattle.std.proofs.lemmas.Nat.{div_below}
use Rattle.lbm_space.specs.Stencil.{Stencil}
use Rattle.lbm_space.specs.Torus.{rows, padded}
use Rattle.lbm_space.specs.Padded.{row_start}
use Rattle.lbm_model.specs.declared.layout.Layout.{Layout}
use Rattle.lbm_model.specs.Layout.{IsRound, array_of}
use Rattle.lbm_model.proofs.Sizes.{few_cells}
use Rattle.lbm_lattice.specs.InPlace.{own_layout, turned_layout}
use Rattle.lbm_aa.proofs.Steps.{aa_layout-even, aa_layout-odd}
use Rattle.lbm_tracer.specs.Tracing.{set_in, tracer_source}
use Rattle.lbm_tracer.specs.Carried.{places_of}
use Rattle.lbm_tracer.proofs.RowPlaces.{first_in_row, first_line, first_column, goes_round}
use Rattle.lbm_tracer.proofs.slots.round.Goals as goal

pub overflow_mul-row : goal.overflow_mul-row
overflow_mul-row c =
    let t = c.args.space.now in let wide : slice_index_or c.sides.result 0 0 ≡ t.nx = ap (λ (s : List ℕ). slice_index_or s 0 0) c.sides.ensures.value in
    let below = first_in_row t c.sides.ensures.valid c.args.row c.requires.row in let few = few_cells t c.sides.ensures.valid in
    rw wide (record { fits = omega (arith, below, few) })

pub source-behind-requires-clause-cell : goal.source-behind-requires-clause-cell
source-behind-requires-clause-cell c =
    let t = c.args.space.now in let wide : slice_index_or c.sides.result 0 0 ≡ t.nx = ap (λ (s : List ℕ). slice_index_or s 0 0) c.sides.ensures.value in
    rw wide (first_in_row t c.sides.ensures.valid c.args.row c.requires.row)

pub row_start-requires-else-time-eq0 : goal.row_start-requires-else-time-eq0
row_start-requires-else-time-eq0 c =
    let t = c.args.space.now in let at = c.source-behind.result in
    let wide : slice_index_or c.sides.result 0 0 ≡ t.nx = ap (λ (s : List ℕ). slice_index_or s 0 0) c.sides.ensures.value in
    let row : at / t.nx < rows t = div_below at t.nx (rows t) c.sides.ensures.valid.some_x (omega (arith, c.source-behind.ensures.known)) in
    rw wide (omega (arith, row))

pub returns-then-time-eq0 : goal.returns-then-time-eq0
returns-then-time-eq0 c =
    let t = c.args.space.now in let row = c.args.row in let k = c.args.k in let space = c.row_start.ensures.valid in
    let l = aa_layout-even c.args.time c.if-time-eq0.true in
    let start : row_start t (row * t.nx / t.nx) ≡ c.row_start.result = ap (row_start t) (first_line t space row c.requires.row) ∙ sym c.row_start.ensures.start in
    let ends : row_start t (row * t.nx / t.nx) + t.nx + 2 ≤ padded t = rw start c.row_start.ensures.inside in
    let base : IsRound (places_of t) own_layout row k (1 + row_start t (row * t.nx / t.nx) + 1, row * t.nx % t.nx) = goes_round t space row k c.requires.row c.requires.direction own_layout (row * t.nx) (omega arith) ends refl in
    let round : IsRound (places_of t) own_layout row k (1 + c.row_start.result + 1, 0) = subst (λ (w : ℕ × ℕ). IsRound (places_of t) own_layout row k (1 + w.0 + 1, w.1)) (λ j. (start j, first_column t space row c.requires.row j)) base in
    record {
      is_array = ap (λ (m : Layout). array_of (set_in t) m k) (sym l.0);
      array_known = c.requires.direction;
      round = subst (λ (m : Layout). IsRound (places_of t) m row k (1 + c.row_start.result + 1, 0)) (sym l.0) round;
    }

pub returns-else-time-eq0 : goal.returns-else-time-eq0
returns-else-time-eq0 c =
    let t = c.args.space.now in let row = c.args.row in let k = c.args.k in let space = c.sides.ensures.valid in let at = c.source-behind.result in
    let l = aa_layout-odd c.args.time c.if-time-eq0.false in
    let wide : slice_index_or c.sides.result 0 0 ≡ t.nx = ap (λ (s : List ℕ). slice_index_or s 0 0) c.sides.ensures.value in
    let start : row_start t (at / t.nx) ≡ c.row_start-else-time-eq0.result = ap (λ (w : ℕ). row_start t (at / w)) (sym wide) ∙ sym c.row_start-else-time-eq0.ensures.start in
    let ends : row_start t (at / t.nx) + t.nx + 2 ≤ padded t = rw start c.row_start-else-time-eq0.ensures.inside in
    let is : at ≡ tracer_source t (row * t.nx) k = c.source-behind.ensures.value ∙ ap (λ (w : ℕ). tracer_source t (row * w) k) wide in
    let base : IsRound (places_of t) turned_layout row k (1 + row_start t (at / t.nx) + 1, at % t.nx) = goes_round t space row k c.requires.row c.requires.direction turned_layout at (omega arith) ends is in
    let round : IsRound (places_of t) turned_layout row k (1 + c.row_start-else-time-eq0.result + 1, at % slice_index_or c.sides.result 0 0) = subst (λ (w : ℕ × ℕ). IsRound (places_of t) turned_layout row k (1 + w.0 + 1, at % w.1)) (λ j. (start j, sym wide j)) base in
    let array : c.opposite-array.result ≡ array_of (set_in t) turned_layout k = c.opposite-array.ensures.value ∙ ap (λ (v : Stencil). array_of v turned_layout k) c.of.ensures in
    record {
      is_array = array ∙ ap (λ (m : Layout). array_of (set_in t) m k) (sym l.0);
      array_known = subst (λ (v : Stencil). c.opposite-array.result < v.directions) c.of.ensures c.opposite-array.ensures.known;
      round = subst (λ (m : Layout). IsRound (places_of t) m row k (1 + c.row_start-else-time-eq0.result + 1, at % slice_index_or c.sides.result 0 0)) (sym l.0) round;
    }
