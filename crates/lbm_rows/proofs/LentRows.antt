-- A step lends each kept row once.
use Rattle.std.proofs.Common.{◌≡◌, ℕ, ◌+◌, ◌*◌, ◌/◌, ◌%◌, ◌<◌, ◌≤◌, nat_eq, Bool, true, false, List, ℤ, pos, ◌-ℤ◌, unsigned_abs, refl, ap, sym, ◌∙◌, arith, lit<, ◌-◌}
use Rattle.std.specs.Prelude.{if◌then◌else◌}
use Rattle.std.proofs.lemmas.Nat.{div-mul-add, div_below, mod_below, mul-add-lt}
use Rattle.std.proofs.Math.Nat.{mod-add-div}
use Rattle.lbm_space.specs.Stencil.{part, velocity, opposite}
use Rattle.lbm_space.specs.Torus.{cells, rows, x_of, modulo, back}
use Rattle.lbm_space.proofs.Back.{modulo_below, line_of-cell_number}
use Rattle.lbm_walk.proofs.Places.{row_known, row_end}
use Rattle.lbm_model.specs.Case.{FlowCase, IsCase, source, target}
use Rattle.lbm_model.proofs.Neighbours.{target_known, source-target}
use Rattle.lbm_rows.specs.Lending.{touched, lent_row, entry_number}
use Rattle.lbm_rows.proofs.Touching.{same_quotient}

module _ (case : FlowCase) (allowed : IsCase case) where
  -- the cells behind those of a row are a row
  back_row : (c : List ℤ) (x y : ℕ) → unsigned_abs (part c 0) ≤ 1 → x / case.torus.nx ≡ y / case.torus.nx → back case.torus c x / case.torus.nx ≡ back case.torus c y / case.torus.nx
  back_row c x y unit same =
      let t = case.torus in let some = allowed.space.some_x in
      line_of-cell_number t _ _ _ (modulo_below t.nx (x_of t x) (part c 0) (mod_below x t.nx some) unit)
      ∙ (λ j. modulo (pos (same j / t.ny) -ℤ part c 2) t.nz * t.ny + modulo (pos (same j % t.ny) -ℤ part c 1) t.ny)
      ∙ sym (line_of-cell_number t _ _ _ (modulo_below t.nx (x_of t y) (part c 0) (mod_below y t.nx some) unit))

  first_of_row : (r : ℕ) → r * case.torus.nx / case.torus.nx ≡ r
  first_of_row r = let e : r * case.torus.nx ≡ r * case.torus.nx + 0 = omega arith in ap (λ (n : ℕ). n / case.torus.nx) e ∙ div-mul-add r case.torus.nx 0 allowed.space.some_x

  row_by : (even : Bool) (k x y : ℕ) → k < case.stencil.directions → x / case.torus.nx ≡ y / case.torus.nx → (if even then x else target case x k) / case.torus.nx ≡ (if even then y else target case y k) / case.torus.nx
  row_by true k x y known same = same
  row_by false k x y known same =
      let o : ℕ = opposite case.stencil k in back_row (velocity case.stencil o) x y (allowed.set.unit_parts o 0 (allowed.set.opposite_exists k known) (lit< tt)) same

  known_by : (even : Bool) (k x : ℕ) → k < case.stencil.directions → x < cells case.torus → (if even then x else target case x k) < cells case.torus
  known_by true k x known here = here
  known_by false k x known here = target_known case x k allowed here known

  twice_by : (even : Bool) (k x : ℕ) → k < case.stencil.directions → x < cells case.torus
      → (if even then (if even then x else target case x k) else target case (if even then x else target case x k) (opposite case.stencil k)) ≡ x
  twice_by true k x known here = refl
  twice_by false k x known here =
      ap (λ (i : ℕ). source case (target case x k) i) (allowed.set.opposite_twice k known) ∙ source-target case x k allowed here known

  -- at even times each row is lent its own
  pub lent_even : (time k r : ℕ) → time % 2 ≡ 0 → lent_row case time k r ≡ r
  lent_even time k r even = (λ j. (if nat_eq (even j) 0 then r * case.torus.nx else target case (r * case.torus.nx) k) / case.torus.nx) ∙ first_of_row r

  module _ (time : ℕ) where
    pub touched_known : (k x : ℕ) → k < case.stencil.directions → x < cells case.torus → touched case time k x < cells case.torus
    touched_known k x known here = known_by (nat_eq (time % 2) 0) k x known here

    -- the cells of a row touch those of one row
    pub row_of_touched : (k x : ℕ) → k < case.stencil.directions → touched case time k x / case.torus.nx ≡ lent_row case time k (x / case.torus.nx)
    row_of_touched k x known = row_by (nat_eq (time % 2) 0) k x (x / case.torus.nx * case.torus.nx) known (sym (first_of_row (x / case.torus.nx)))

    row_cell : (r : ℕ) → r < rows case.torus → r * case.torus.nx < cells case.torus
    row_cell r here = let e = row_end case.torus allowed.space r here in let some = allowed.space.some_x in omega arith

    pub lent_known : (k r : ℕ) → k < case.stencil.directions → r < rows case.torus → lent_row case time k r < rows case.torus
    lent_known k r known here = row_known case.torus allowed.space (touched case time k (r * case.torus.nx)) (touched_known k (r * case.torus.nx) known (row_cell r here))

    -- and the opposite direction leads back to it
    pub lent_back : (k r : ℕ) → k < case.stencil.directions → r < rows case.torus → lent_row case time (opposite case.stencil k) (lent_row case time k r) ≡ r
    lent_back k r known here =
        let x : ℕ = r * case.torus.nx in
        sym (row_of_touched (opposite case.stencil k) (touched case time k x) (allowed.set.opposite_exists k known))
        ∙ ap (λ (n : ℕ). n / case.torus.nx) (twice_by (nat_eq (time % 2) 0) k x known (row_cell r here))
        ∙ first_of_row r

    pub lent_once : (k r s : ℕ) → k < case.stencil.directions → r < rows case.torus → s < rows case.torus → lent_row case time k r ≡ lent_row case time k s → r ≡ s
    lent_once k r s known here here' same = sym (lent_back k r known here) ∙ ap (lent_row case time (opposite case.stencil k)) same ∙ lent_back k s known here'

    -- the kept rows of the entries of a tile differ
    module _ (bounds : ℕ × ℕ) (some : bounds.0 < bounds.1) (inside : bounds.1 ≤ rows case.torus) where
      abbrev tall : ℕ
      tall = bounds.1 - bounds.0

      pub entry_array : (j : ℕ) → j < case.stencil.directions * tall → j / tall < case.stencil.directions
      entry_array j below = div_below j tall case.stencil.directions (omega arith) below

      pub entry_row : (j : ℕ) → bounds.0 + j % tall < rows case.torus
      entry_row j = let m = mod_below j tall (omega arith) in omega arith

      pub entry_known : (j : ℕ) → j < case.stencil.directions * tall → entry_number case time bounds j < case.stencil.directions * rows case.torus
      entry_known j below =
          let k = entry_array j below in let r = lent_known (j / tall) (bounds.0 + j % tall) k (entry_row j) in
          let e = mul-add-lt (j / tall) (rows case.torus) (lent_row case time (j / tall) (bounds.0 + j % tall)) case.stencil.directions k r in omega (arith, e)

      pub entry_once : (i j : ℕ) → i < case.stencil.directions * tall → j < case.stencil.directions * tall → entry_number case time bounds i ≡ entry_number case time bounds j → i ≡ j
      entry_once i j below below' same =
          let k = entry_array i below in let k' = entry_array j below' in
          let parts = same_quotient (i / tall) (j / tall) (rows case.torus) (lent_row case time (i / tall) (bounds.0 + i % tall)) (lent_row case time (j / tall) (bounds.0 + j % tall))
          (lent_known (i / tall) (bounds.0 + i % tall) k (entry_row i)) (lent_known (j / tall) (bounds.0 + j % tall) k' (entry_row j)) same in
          let row : lent_row case time (i / tall) (bounds.0 + i % tall) ≡ lent_row case time (i / tall) (bounds.0 + j % tall) = parts.1 ∙ (λ z. lent_row case time (sym parts.0 z) (bounds.0 + j % tall)) in
          let rest = lent_once (i / tall) (bounds.0 + i % tall) (bounds.0 + j % tall) k (entry_row i) (entry_row j) row in
          let a = mod-add-div i tall in let b = mod-add-div j tall in let e = ap (λ (n : ℕ). tall * n) parts.0 in omega (arith, a, b, e)

    -- nor do those of two tiles meet
    pub entry_apart : (a b : ℕ × ℕ) → a.0 < a.1 → b.0 < b.1 → a.1 ≤ b.0 → b.1 ≤ rows case.torus → (i j : ℕ) → i < case.stencil.directions * (a.1 - a.0) → j < case.stencil.directions * (b.1 - b.0)
        → entry_number case time a i ≡ entry_number case time b j → ⊥
    entry_apart a b some some' order inside i j below below' same =
        let tall_a : ℕ = a.1 - a.0 in let tall_b : ℕ = b.1 - b.0 in let within : a.1 ≤ rows case.torus = omega arith in
        let k = entry_array a some within i below in let k' = entry_array b some' inside j below' in let r = entry_row a some within i in let r' = entry_row b some' inside j in
        let parts = same_quotient (i / tall_a) (j / tall_b) (rows case.torus) (lent_row case time (i / tall_a) (a.0 + i % tall_a)) (lent_row case time (j / tall_b) (b.0 + j % tall_b))
        (lent_known (i / tall_a) (a.0 + i % tall_a) k r) (lent_known (j / tall_b) (b.0 + j % tall_b) k' r') same in
        let row : lent_row case time (i / tall_a) (a.0 + i % tall_a) ≡ lent_row case time (i / tall_a) (b.0 + j % tall_b) = parts.1 ∙ (λ z. lent_row case time (sym parts.0 z) (b.0 + j % tall_b)) in
        let rest = lent_once (i / tall_a) (a.0 + i % tall_a) (b.0 + j % tall_b) k r r' row in let m = mod_below i tall_a (omega arith) in absurd (omega (arith, rest, m))

    -- and each kept row is lent to some row
    pub lent_to : (k r : ℕ) → k < case.stencil.directions → r < rows case.torus → lent_row case time k (lent_row case time (opposite case.stencil k) r) ≡ r
    lent_to k r known here =
        (λ z. lent_row case time (sym (allowed.set.opposite_twice k known) z) (lent_row case time (opposite case.stencil k) r)) ∙ lent_back (opposite case.stencil k) r (allowed.set.opposite_exists k known) here
