-- Kept rows before a step and after it, by the tiles that were lent and came back.
use Rattle.std.proofs.Common.{◌≡◌, ℕ, ◌+◌, ◌-◌, ◌*◌, ◌/◌, ◌%◌, ◌<◌, nat_eq, Bool, true, false, not, List, [], ℤ, pos, refl, ap, sym, ◌∙◌, subst, arith}
use Rattle.std.specs.Prelude.{if◌then◌else◌, slice_index_or}
use Rattle.std.proofs.lemmas.Nat.{div-mul-add, mod-mul-add, mul-add-lt}
use Rattle.lbm_space.specs.Torus.{cells, rows, x_of}
use Rattle.lbm_model.specs.Case.{FlowCase, IsCase, source, target}
use Rattle.lbm_model.specs.Layout.{array_of, stands_at, aa_layout, swap_layout}
use Rattle.lbm_model.specs.declared.layout.Layout.{Layout}
use Rattle.lbm_model.proofs.Neighbours.{source-target}
use Rattle.lbm_rows.specs.Kept.{slot_of_cell, population_kept}
use Rattle.lbm_rows.specs.Lending.{TileModel, height, touched, lent_row, lent_number, entry_number, IsLent, InTile, taken, sent}
use Rattle.lbm_rows.proofs.Touching.{array_known, parity_next}
use Rattle.lbm_rows.proofs.LentRows.{row_of_touched}

abbrev pub layout_when : Bool → Layout
layout_when even = if even then swap_layout else record { margin = 2; base = 1; turned = true; behind = true }

module _ (case : FlowCase) (allowed : IsCase case) where
  stands_by : (even : Bool) (x i : ℕ) → i < case.stencil.directions → stands_at case (layout_when even) x i ≡ (if even then x else target case x (array_of case.stencil (layout_when even) i))
  stands_by true x i known = refl
  stands_by false x i known = ap (source case x) (sym (allowed.set.opposite_twice i known))

  read_by : (even : Bool) (x i : ℕ) → x < cells case.torus → i < case.stencil.directions → stands_at case (layout_when (not even)) (target case x i) i ≡ (if even then x else target case x (array_of case.stencil (layout_when (not even)) i))
  read_by true x i here known = source-target case x i allowed here known
  read_by false x i here known = refl

  module _ (time : ℕ) where
    -- a cell takes its populations from the slots that it touches
    pub stands_touched : (x i : ℕ) → i < case.stencil.directions → stands_at case (aa_layout time) x i ≡ touched case time (array_of case.stencil (aa_layout time) i) x
    stands_touched x i known = stands_by (nat_eq (time % 2) 0) x i known

    -- and what it sends stands there
    read_touched : (x i : ℕ) → x < cells case.torus → i < case.stencil.directions → stands_at case (aa_layout (time + 1)) (target case x i) i ≡ touched case time (array_of case.stencil (aa_layout (time + 1)) i) x
    read_touched x i here known =
        subst (λ (b : Bool). stands_at case (layout_when b) (target case x i) i ≡ (if nat_eq (time % 2) 0 then x else target case x (array_of case.stencil (layout_when b) i))) (sym (parity_next time)) (read_by (nat_eq (time % 2) 0) x i here known)

    module _ (tile : TileModel) where
      same_row : (x : ℕ) → InTile case tile x → tile.first + (x / case.torus.nx - tile.first) ≡ x / case.torus.nx
      same_row x at = let low = at.low in omega arith

      row_inside : (x : ℕ) → InTile case tile x → x / case.torus.nx - tile.first < height tile
      row_inside x at = let low = at.low in let high = at.high in omega arith

      -- a tile has what the kept rows had
      pub taken_kept : (kept : List (List ℤ)) → IsLent case time kept tile → (x i : ℕ) → InTile case tile x → i < case.stencil.directions → taken case time tile x i ≡ population_kept case time kept x i
      taken_kept kept lent x i at known =
          let k : ℕ = array_of case.stencil (aa_layout time) i in let n : ℕ = x / case.torus.nx - tile.first in let known_k = array_known case.stencil allowed.set time i known in
          ap (λ (r : List ℤ). slice_index_or r (1 + x_of case.torus (touched case time k x)) (pos 0)) (lent.lent k n known_k (row_inside x at))
          ∙ (λ j. slice_index_or (slice_index_or kept (k * rows case.torus + (ap (lent_row case time k) (same_row x at) ∙ sym (row_of_touched case allowed time k x known_k)) j) []) (1 + x_of case.torus (touched case time k x)) (pos 0))
          ∙ ap (slot_of_cell case.torus kept k) (sym (stands_touched x i known))

      -- and the kept rows have what came back
      pub sent_kept : (new : List (List ℤ)) → ((j : ℕ) → j < case.stencil.directions * height tile → slice_index_or new (entry_number case time (tile.first, tile.end) j) [] ≡ slice_index_or tile.kept j [])
          → (x i : ℕ) → x < cells case.torus → InTile case tile x → i < case.stencil.directions → population_kept case (time + 1) new (target case x i) i ≡ sent case time tile x i
      sent_kept new back x i here at known =
          let k : ℕ = array_of case.stencil (aa_layout (time + 1)) i in let n : ℕ = x / case.torus.nx - tile.first in let known_k = array_known case.stencil allowed.set (time + 1) i known in
          let inside = row_inside x at in let less = mul-add-lt k (height tile) n case.stencil.directions known_k inside in
          ap (slot_of_cell case.torus new k) (read_touched x i here known)
          ∙ (λ j. slice_index_or (slice_index_or new (k * rows case.torus + (row_of_touched case allowed time k x known_k ∙ ap (lent_row case time k) (sym (same_row x at))) j) []) (1 + x_of case.torus (touched case time k x)) (pos 0))
          ∙ (λ j. slice_index_or (slice_index_or new (lent_number case time (sym (div-mul-add k (height tile) n inside) j) (tile.first + sym (mod-mul-add k (height tile) n inside) j)) []) (1 + x_of case.torus (touched case time k x)) (pos 0))
          ∙ ap (λ (r : List ℤ). slice_index_or r (1 + x_of case.torus (touched case time k x)) (pos 0)) (back (k * height tile + n) (omega (arith, less)))
