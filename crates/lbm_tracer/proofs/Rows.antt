-- The cells of a row, and where their amounts stand.
use Rattle.std.proofs.Common.{◌≡◌, ℕ, ◌+◌, ◌*◌, ◌/◌, ◌%◌, ◌<◌, ◌≤◌, pos, length, slice_index, slice_index_or, refl, sym, ap, subst, ◌∙◌, arith}
use Rattle.std.proofs.Math.Nat.{mod-add-div}
use Rattle.std.proofs.lemmas.Nat.{div_below, mod_below}
use Rattle.lbm_space.specs.Torus.{Torus, IsSpace, cells, rows, padded}
use Rattle.lbm_model.specs.Layout.{place_of, aa_layout}
use Rattle.lbm_arrays.specs.Arrays.{Arrays, IsRegion, slot_at}
use Rattle.lbm_arrays.proofs.Slots.{up_to}
use Rattle.lbm_tracer.specs.declared.slots.TracerRow.{TracerRow}
use Rattle.lbm_tracer.specs.Tracing.{set_in}
use Rattle.lbm_tracer.specs.Carried.{places_of, amount_in, IsTracerRegion}
use Rattle.lbm_tracer.specs.Rows.{cell_at, IsTracerRow}
use Rattle.lbm_tracer.proofs.RowPlaces.{in_row}
use Rattle.lbm_tracer.proofs.Places.{layout_room, slot_is}

module _ (r : TracerRow) (is : IsTracerRow r) where
  -- a row's cells are cells of the box
  pub cell_known : (x : ℕ) → x < r.width → cell_at r x < cells r.space
  cell_known x below =
      subst (λ (w : ℕ). r.number * w + x < cells r.space) (sym is.wide) (in_row r.space is.space r.number is.number_known x (subst (λ (w : ℕ). x < w) is.wide below))

  -- where an amount stands
  pub place_is : (x k p : ℕ) → x < r.width → k < (set_in r.space).directions → p ≡ (x + slice_index r.aheads k) % r.width → slice_index r.firsts k + p ≡ place_of (places_of r.space) (aa_layout r.time) (cell_at r x) k
  place_is x k p below known is_p =
      let at = (is.along k known).round.place x (subst (λ (w : ℕ). x < w) is.wide below) in
      ap (λ (q : ℕ). slice_index r.firsts k + q) (is_p ∙ ap (λ (w : ℕ). (x + slice_index r.aheads k) % w) is.wide) ∙ sym at
      ∙ ap (λ (w : ℕ). place_of (places_of r.space) (aa_layout r.time) (r.number * w + x) k) (sym is.wide)

  pub ahead_known : (k : ℕ) → k < (set_in r.space).directions → slice_index r.aheads k < r.width
  ahead_known k known = rw is.wide (is.along k known).round.known

  pub place_inside : (k p : ℕ) → k < (set_in r.space).directions → p < r.width → slice_index r.firsts k + p < 2 + padded r.space
  place_inside k p known below = let inside = (is.along k known).round.inside in let margin = (layout_room r.time).0 in omega (arith, inside, margin, below, is.wide)

-- the amounts of a direction are those of a run of its array
module _ (r : TracerRow) (is : IsTracerRow r) (region : Arrays) (laid : IsTracerRegion r.space region) (valid : IsRegion region) (k : ℕ) (known : k < (set_in r.space).directions) where
  abbrev first : ℕ
  first = slice_index r.arrays k * (2 + padded r.space) + slice_index r.firsts k

  pub run_inside : first + r.width ≤ length region.slots
  run_inside =
      let size = 2 + padded r.space in let q = (set_in r.space).directions in let inside = (is.along k known).round.inside in
      let ends : slice_index r.arrays k * size + size ≤ q * size = up_to (slice_index r.arrays k) q size (is.along k known).array_known in
      let all : length region.slots ≡ q * size = valid.whole ∙ (λ j. laid.count j * (laid.margin j + padded (laid.space j))) in
      omega (arith, ends, inside, (layout_room r.time).0, is.wide, all)

  run_has : (x : ℕ) → x < r.width → amount_in r.space r.time region.slots (cell_at r x) k ≡ slice_index_or region.slots (first + (x + slice_index r.aheads k) % r.width) (pos 0)
  run_has x below =
      let p = (x + slice_index r.aheads k) % r.width in let at = slice_index r.firsts k + p in
      let slot = slot_is r.space is.space region laid valid r.time (cell_at r x) k (slice_index r.arrays k) at (is.along k known).is_array (place_is r is x k p below known refl) in
      let start : slot_at region.space region.margin (slice_index r.arrays k) at ≡ first + p = (λ j. slice_index r.arrays k * (laid.margin j + padded (laid.space j)) + at) ∙ omega arith in
      ap (λ (s : ℕ). slice_index_or region.slots s (pos 0)) (sym slot ∙ start)

  pub run_zero : ((y : ℕ) → y < r.width → slice_index_or region.slots (first + y) (pos 0) ≡ pos 0) → (x : ℕ) → x < r.width → amount_in r.space r.time region.slots (cell_at r x) k ≡ pos 0
  run_zero zeros x below = run_has x below ∙ zeros ((x + slice_index r.aheads k) % r.width) (mod_below (x + slice_index r.aheads k) r.width (omega (arith, below)))

-- the row of a cell, and its place there
pub row_known : (t : Torus) (cell : ℕ) → IsSpace t → cell < cells t → cell / t.nx < rows t
row_known t cell space here = div_below cell t.nx (rows t) space.some_x (omega (arith, here))

pub column_known : (t : Torus) (cell : ℕ) → IsSpace t → cell % t.nx < t.nx
column_known t cell space = mod_below cell t.nx space.some_x

pub row_cell : (r : TracerRow) (t : Torus) (w cell : ℕ) → IsTracerRow r → r.space ≡ t → w ≡ t.nx → r.number ≡ cell / w → cell_at r (cell % w) ≡ cell
row_cell r t w cell is space w_is number =
    let wide : r.width ≡ w = is.wide ∙ ap (λ (u : Torus). u.nx) space ∙ sym w_is in
    (λ j. number j * wide j + cell % w) ∙ (let whole = mod-add-div cell w in omega (arith, whole))
