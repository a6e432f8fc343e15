-- The places of the populations of a row's cells.
use Rattle.std.proofs.Common.{◌≡◌, ℕ, ◌+◌, ◌*◌, ◌/◌, ◌%◌, ◌<◌, ◌≤◌, List, ℤ, pos, ◌-ℤ◌, unsigned_abs, Bool, true, false, refl, sym, ap, ◌∙◌, arith, lit<}
use Rattle.std.specs.Prelude.{if◌then◌else◌}
use Rattle.std.proofs.Math.Nat.{add-mod-mod, mod-eq_of_lt}
use Rattle.std.proofs.lemmas.Int.{ints, int_rem_euclid_is}
use Rattle.std.proofs.lemmas.Nat.{div-mul-add, mod-mul-add, mod_below, mul-add-lt}
use Rattle.lbm_space.specs.Stencil.{part, velocity}
use Rattle.lbm_space.specs.Torus.{Torus, cells, rows, padded, modulo, back}
use Rattle.lbm_space.specs.Padded.{row_start}
use Rattle.lbm_space.proofs.Back.{line_of-cell_number, x_of-cell_number, modulo_below}
use Rattle.lbm_space.proofs.RowStarts.{padded_index-row}
use Rattle.lbm_model.specs.declared.layout.Layout.{Layout}
use Rattle.lbm_model.specs.Case.{FlowCase, IsCase, source}
use Rattle.lbm_model.specs.Layout.{stands_at, IsRound}
use Rattle.lbm_model.proofs.Neighbours.{source_known}

-- a step back on a ring of n places, counted from that of place 0
step_along : (n x : ℕ) (c : ℤ) → 0 < n → unsigned_abs c ≤ 1 → modulo (pos x -ℤ c) n ≡ (x + modulo (pos 0 -ℤ c) n) % n
step_along n x c some unit =
    let s = unsigned_abs (pos n -ℤ c) in
    let here : modulo (pos x -ℤ c) n ≡ (x + s) % n = ap unsigned_abs (int_rem_euclid_is (pos x -ℤ c) (pos n) n 1 (x + s) some refl (omega (arith, ints, some, unit))) in
    let first : modulo (pos 0 -ℤ c) n ≡ s % n = ap unsigned_abs (int_rem_euclid_is (pos 0 -ℤ c) (pos n) n 1 s some refl (omega (arith, ints, some, unit))) in
    here ∙ sym (add-mod-mod x s n) ∙ ap (λ (m : ℕ). (x + m) % n) (sym first)

-- the cell behind another one lies in a row that the other's row decides, and in a column that the other's column decides
back_column : (t : Torus) (c : List ℤ) (y : ℕ) → 0 < t.nx → unsigned_abs (part c 0) ≤ 1 → back t c y % t.nx ≡ modulo (pos (y % t.nx) -ℤ part c 0) t.nx
back_column t c y some unit = x_of-cell_number t _ _ _ (modulo_below t.nx (y % t.nx) (part c 0) (mod_below y t.nx some) unit)

abbrev row_back : Torus → List ℤ → ℕ → ℕ
row_back t c line = modulo (pos (line / t.ny) -ℤ part c 2) t.nz * t.ny + modulo (pos (line % t.ny) -ℤ part c 1) t.ny

back_row : (t : Torus) (c : List ℤ) (y : ℕ) → 0 < t.nx → unsigned_abs (part c 0) ≤ 1 → back t c y / t.nx ≡ row_back t c (y / t.nx)
back_row t c y some unit = line_of-cell_number t _ _ _ (modulo_below t.nx (y % t.nx) (part c 0) (mod_below y t.nx some) unit)

module _ (case : FlowCase) (allowed : IsCase case) (row i : ℕ) (row_known : row < rows case.torus) (known : i < case.stencil.directions) where
  abbrev n : ℕ
  n = case.torus.nx

  some : 0 < n
  some = allowed.space.some_x

  unit : unsigned_abs (part (velocity case.stencil i) 0) ≤ 1
  unit = allowed.set.unit_parts i 0 known (lit< tt)

  pub in_row : (x : ℕ) → x < n → row * n + x < cells case.torus
  in_row x x_known = let inside = mul-add-lt row n x (rows case.torus) row_known x_known in omega (arith, inside)

  pub first_in_row : row * n < cells case.torus
  first_in_row = let inside = in_row 0 some in omega (arith, inside)

  column : (x : ℕ) → x < n → (row * n + x) % n ≡ x
  column x x_known = mod-mul-add row n x x_known

  line : (x : ℕ) → x < n → (row * n + x) / n ≡ row
  line x x_known = div-mul-add row n x x_known

  first_column : row * n % n ≡ 0
  first_column = ap (λ (y : ℕ). y % n) (omega arith) ∙ column 0 some

  first_line : row * n / n ≡ row
  first_line = ap (λ (y : ℕ). y / n) (omega arith) ∙ line 0 some

  -- where the populations of a row's cells stand, by where that of its first cell does
  along : (behind : Bool) (x : ℕ) → x < n
      → ((if behind then source case (row * n + x) i else row * n + x) / n ≡ (if behind then source case (row * n) i else row * n) / n)
      × ((if behind then source case (row * n + x) i else row * n + x) % n ≡ (x + (if behind then source case (row * n) i else row * n) % n) % n)
  along false x x_known = (
    line x x_known ∙ sym first_line,
    column x x_known ∙ sym (mod-eq_of_lt x_known) ∙ ap (λ (m : ℕ). m % n) (omega (arith, first_column)),
  )
  along true x x_known =
      let t = case.torus in let c = velocity case.stencil i in (
        back_row t c (row * n + x) some unit ∙ ap (row_back t c) (line x x_known ∙ sym first_line) ∙ sym (back_row t c (row * n) some unit),
        back_column t c (row * n + x) some unit ∙ ap (λ (y : ℕ). modulo (pos y -ℤ part c 0) n) (column x x_known)
            ∙ step_along n x (part c 0) some unit
            ∙ ap (λ (y : ℕ). (x + modulo (pos y -ℤ part c 0) n) % n) (sym first_column) ∙ ap (λ (y : ℕ). (x + y) % n) (sym (back_column t c (row * n) some unit)),
      )

  stands_known : (behind : Bool) (y : ℕ) → y < cells case.torus → (if behind then source case y i else y) < cells case.torus
  stands_known true y here = source_known case y i allowed here known
  stands_known false y here = here

  -- they go round
  pub goes_round : (layout : Layout) (at : ℕ) → layout.base ≤ layout.margin → row_start case.torus (at / n) + n + 2 ≤ padded case.torus → at ≡ stands_at case layout (row * n) i → IsRound case layout row i (layout.base + row_start case.torus (at / n) + 1, at % n)
  goes_round layout at base ends is = record {
    known = mod_below at n some;
    inside = omega (arith, base, ends);
    place = λ x x_known.
        let both = along layout.behind x x_known in
        let place = padded_index-row case.torus allowed.space (stands_at case layout (row * n + x) i) (stands_known layout.behind (row * n + x) (in_row x x_known)) in
        let start : row_start case.torus (stands_at case layout (row * n + x) i / n) ≡ row_start case.torus (at / n) = ap (row_start case.torus) (both.0 ∙ ap (λ (y : ℕ). y / n) (sym is)) in
        let shift : stands_at case layout (row * n + x) i % n ≡ (x + at % n) % n = both.1 ∙ ap (λ (y : ℕ). (x + y % n) % n) (sym is) in
        omega (arith, place, start, shift);
  }
