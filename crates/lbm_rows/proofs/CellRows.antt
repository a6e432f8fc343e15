-- What the cells of a row have in the kept rows.
use Rattle.std.proofs.Common.{◌≡◌, ℕ, ◌+◌, ◌*◌, ◌/◌, ◌%◌, ◌<◌, ◌≤◌, List, ℤ, slice_index, ap, sym, subst, ◌∙◌, arith}
use Rattle.std.proofs.lemmas.Nat.{div-mul-add, mod-mul-add, mul-add-lt}
use Rattle.lbm_space.specs.Stencil.{Stencil}
use Rattle.lbm_space.specs.Torus.{cells, rows, x_of}
use Rattle.lbm_walk.proofs.Places.{row_end}
use Rattle.lbm_cell.specs.Rows.{entry}
use Rattle.lbm_model.specs.Case.{FlowCase, IsCase}
use Rattle.lbm_model.specs.Layout.{array_of, aa_layout}
use Rattle.lbm_rows.specs.declared.reading.CellRow.{CellRow}
use Rattle.lbm_rows.specs.Kept.{slot_of_cell, population_kept}
use Rattle.lbm_rows.specs.Lending.{lent_row, lent_number}
use Rattle.lbm_rows.specs.CellRows.{cell_at, IsRow}
use Rattle.lbm_rows.specs.TileRows.{around, start}
use Rattle.lbm_rows.proofs.Touching.{array_known, start_few, touched_slot}
use Rattle.lbm_rows.proofs.LentRows.{lent_known, row_of_touched}
use Rattle.lbm_rows.proofs.KeptSteps.{stands_touched}

-- where a population stands
pub population_slot : (case : FlowCase) (allowed : IsCase case) (time : ℕ) (kept : List (List ℤ)) (x i : ℕ) → i < case.stencil.directions
    → population_kept case time kept x i ≡ entry kept (lent_number case time (array_of case.stencil (aa_layout time) i) (x / case.torus.nx)) (around case.torus.nx (start case.stencil time (array_of case.stencil (aa_layout time) i)) (x_of case.torus x))
population_slot case allowed time kept x i known =
    let k : ℕ = array_of case.stencil (aa_layout time) i in let known_k = array_known case.stencil allowed.set time i known in
    ap (slot_of_cell case.torus kept k) (stands_touched case allowed time x i known)
    ∙ (λ j. entry kept (k * rows case.torus + row_of_touched case allowed time k x known_k j) (touched_slot case allowed time k x known_k j))

-- a row is one of its own set
pub own_set : (v : Stencil) (r : CellRow) → IsRow v r → IsRow r.case.now.stencil r
own_set v r row = subst (λ (w : Stencil). IsRow w r) (sym row.set) row

module _ (r : CellRow) (row : IsRow r.case.now.stencil r) where
  at_x : (x : ℕ) → cell_at r x ≡ r.number * r.case.now.torus.nx + x
  at_x x = ap (λ (w : ℕ). r.number * w + x) row.width

  inside : (x : ℕ) → x < r.width → x < r.case.now.torus.nx
  inside x below = subst (λ (w : ℕ). x < w) row.width below

  pub cell_known : (x : ℕ) → x < r.width → cell_at r x < cells r.case.now.torus
  cell_known x below = let e = row_end r.case.now.torus row.valid.space r.number row.known in let b = inside x below in omega (arith, e, b, at_x x)

  row_is : (x : ℕ) → x < r.width → cell_at r x / r.case.now.torus.nx ≡ r.number
  row_is x below = ap (λ (n : ℕ). n / r.case.now.torus.nx) (at_x x) ∙ div-mul-add r.number r.case.now.torus.nx x (inside x below)

  column_is : (x : ℕ) → x < r.width → x_of r.case.now.torus (cell_at r x) ≡ x
  column_is x below = ap (λ (n : ℕ). n % r.case.now.torus.nx) (at_x x) ∙ mod-mul-add r.number r.case.now.torus.nx x (inside x below)

  pub number_known : (i : ℕ) → i < r.case.now.stencil.directions → slice_index r.numbers i < r.case.now.stencil.directions * rows r.case.now.torus
  number_known i known =
      let case : FlowCase = r.case.now in let k : ℕ = array_of case.stencil (aa_layout r.time) i in let known_k = array_known case.stencil row.valid.set r.time i known in
      let e = mul-add-lt k (rows case.torus) (lent_row case r.time k r.number) case.stencil.directions known_k (lent_known case row.valid r.time k r.number known_k row.known) in
      omega (arith, e, row.numbers i known)

  pub start_known : (i : ℕ) → i < r.case.now.stencil.directions → slice_index r.starts i ≤ 2
  start_known i known =
      let case : FlowCase = r.case.now in let k : ℕ = array_of case.stencil (aa_layout r.time) i in
      let few = start_few case.stencil row.valid.set r.time k (array_known case.stencil row.valid.set r.time i known) in omega (arith, few, row.starts i known)

  -- a population is read where it stands
  pub read_is : (kept : List (List ℤ)) (x i : ℕ) → x < r.width → i < r.case.now.stencil.directions
      → entry kept (slice_index r.numbers i) (around r.width (slice_index r.starts i) x) ≡ population_kept r.case.now r.time kept (cell_at r x) i
  read_is kept x i below known =
      let case : FlowCase = r.case.now in let k : ℕ = array_of case.stencil (aa_layout r.time) i in let first : ℕ = start case.stencil r.time k in
      (λ j. entry kept (row.numbers i known j) (around (row.width j) (row.starts i known j) x))
      ∙ (λ j. entry kept (lent_number case r.time k (sym (row_is x below) j)) (around case.torus.nx first (sym (column_is x below) j)))
      ∙ sym (population_slot case row.valid r.time kept (cell_at r x) i known)
