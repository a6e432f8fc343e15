-- The places of the amounts of a row's cells.
use Rattle.std.proofs.Common.{◌≡◌, ℕ, ◌+◌, ◌*◌, ◌/◌, ◌%◌, ◌<◌, ◌≤◌, List, ℤ, pos, ◌-ℤ◌, unsigned_abs, Bool, true, false, refl, sym, ap, ◌∙◌, arith, lit<}
use Rattle.std.specs.Prelude.{if◌then◌else◌}
use Rattle.std.proofs.Math.Nat.{add-mod-mod, mod-eq_of_lt}
use Rattle.std.proofs.lemmas.Int.{ints, int_rem_euclid_is}
use Rattle.std.proofs.lemmas.Nat.{div-mul-add, mod-mul-add, mod_below, mul-add-lt}
use Rattle.lbm_space.specs.Stencil.{part, velocity}
use Rattle.lbm_space.specs.Torus.{Torus, IsSpace, cells, rows, padded, modulo, back}
use Rattle.lbm_space.specs.Padded.{row_start}
use Rattle.lbm_space.proofs.Back.{line_of-cell_number, x_of-cell_number, modulo_below}
use Rattle.lbm_space.proofs.RowStarts.{padded_index-row}
use Rattle.lbm_model.specs.declared.layout.Layout.{Layout}
use Rattle.lbm_model.specs.Layout.{stands_at, IsRound}
use Rattle.lbm_tracer.specs.Tracing.{set_in, tracer_source}
use Rattle.lbm_tracer.specs.Carried.{places_of}
use Rattle.lbm_tracer.proofs.Neighbours.{facts, source_known}

-- a step back on a ring of n places, counted from that of place 0
step_along : (n x : ℕ) (c : ℤ) → 0 < n → unsigned_abs c ≤ 1 → modulo (pos x -ℤ c) n ≡ (x + modulo (pos 0 -ℤ c) n) % n
step_along n x c some unit =
    let s = unsigned_abs (pos n -ℤ c) in
    let here : modulo (pos x -ℤ c) n ≡ (x + s) % n = ap unsigned_abs (int_rem_euclid_is (pos x -ℤ c) (pos n) n 1 (x + s) some refl (omega (arith, ints, some, unit))) in
    let first : modulo (pos 0 -ℤ c) n ≡ s % n = ap unsigned_abs (int_rem_euclid_is (pos 0 -ℤ c) (pos n) n 1 s some refl (omega (arith, ints, some, unit))) in
    here ∙ sym (add-mod-mod x s n) ∙ ap (λ (m : ℕ). (x + m) % n) (sym first)

-- the cell behind another one lies in a row that the other's row decides, and in a column that the other's column decides
back_column : (t : Torus) (c : List ℤ) (y : ℕ) → 0 < t.nx → unsigned_abs (part c 0) ≤ 1 → back t c y % t.nx ≡ modulo (pos (y % t.nx) -ℤ part c 0) t.nx
back_column t c y some unit = x_of-cell_number t _ _ _ (modulo_below t.nx (y % t.nx) (part c 0) (mod_below y t.nx some) unit)

abbrev row_back : Torus → List ℤ → ℕ → ℕ
row_back t c line = modulo (pos (line / t.ny) -ℤ part c 2) t.nz * t.ny + modulo (pos (line % t.ny) -ℤ part c 1) t.ny

back_row : (t : Torus) (c : List ℤ) (y : ℕ) → 0 < t.nx → unsigned_abs (part c 0) ≤ 1 → back t c y / t.nx ≡ row_back t c (y / t.nx)
back_row t c y some unit = line_of-cell_number t _ _ _ (modulo_below t.nx (y % t.nx) (part c 0) (mod_below y t.nx some) unit)

module _ (t : Torus) (space : IsSpace t) (row : ℕ) (row_known : row < rows t) where
  abbrev n : ℕ
  n = t.nx

  pub in_row : (x : ℕ) → x < n → row * n + x < cells t
  in_row x x_known = let inside = mul-add-lt row n x (rows t) row_known x_known in omega (arith, inside)

  pub first_in_row : row * n < cells t
  first_in_row = let inside = in_row 0 space.some_x in omega (arith, inside)

  column : (x : ℕ) → x < n → (row * n + x) % n ≡ x
  column x x_known = mod-mul-add row n x x_known

  line : (x : ℕ) → x < n → (row * n + x) / n ≡ row
  line x x_known = div-mul-add row n x x_known

  pub first_column : row * n % n ≡ 0
  first_column = ap (λ (y : ℕ). y % n) (omega arith) ∙ column 0 space.some_x

  pub first_line : row * n / n ≡ row
  first_line = ap (λ (y : ℕ). y / n) (omega arith) ∙ line 0 space.some_x

module _ (t : Torus) (space : IsSpace t) (row k : ℕ) (row_known : row < rows t) (known : k < (set_in t).directions) where
  unit : unsigned_abs (part (velocity (set_in t) k) 0) ≤ 1
  unit = (facts t space).unit_parts k 0 known (lit< tt)

  -- where the amounts of a row's cells stand, by where that of its first cell does
  along : (behind : Bool) (x : ℕ) → x < t.nx
      → ((if behind then tracer_source t (row * t.nx + x) k else row * t.nx + x) / t.nx ≡ (if behind then tracer_source t (row * t.nx) k else row * t.nx) / t.nx)
      × ((if behind then tracer_source t (row * t.nx + x) k else row * t.nx + x) % t.nx ≡ (x + (if behind then tracer_source t (row * t.nx) k else row * t.nx) % t.nx) % t.nx)
  along false x x_known = (
    line t space row row_known x x_known ∙ sym (first_line t space row row_known),
    column t space row row_known x x_known ∙ sym (mod-eq_of_lt x_known) ∙ ap (λ (m : ℕ). m % t.nx) (omega (arith, first_column t space row row_known)),
  )
  along true x x_known =
      let c = velocity (set_in t) k in (
        back_row t c (row * t.nx + x) space.some_x unit ∙ ap (row_back t c) (line t space row row_known x x_known ∙ sym (first_line t space row row_known)) ∙ sym (back_row t c (row * t.nx) space.some_x unit),
        back_column t c (row * t.nx + x) space.some_x unit ∙ ap (λ (y : ℕ). modulo (pos y -ℤ part c 0) t.nx) (column t space row row_known x x_known)
            ∙ step_along t.nx x (part c 0) space.some_x unit
            ∙ ap (λ (y : ℕ). (x + modulo (pos y -ℤ part c 0) t.nx) % t.nx) (sym (first_column t space row row_known)) ∙ ap (λ (y : ℕ). (x + y) % t.nx) (sym (back_column t c (row * t.nx) space.some_x unit)),
      )

  stands_known : (behind : Bool) (y : ℕ) → y < cells t → (if behind then tracer_source t y k else y) < cells t
  stands_known true y here = source_known t space y k here known
  stands_known false y here = here

  -- they go round
  pub goes_round : (layout : Layout) (at : ℕ) → layout.base ≤ layout.margin → row_start t (at / t.nx) + t.nx + 2 ≤ padded t → at ≡ stands_at (places_of t) layout (row * t.nx) k
      → IsRound (places_of t) layout row k (layout.base + row_start t (at / t.nx) + 1, at % t.nx)
  goes_round layout at base ends is = record {
    known = mod_below at t.nx space.some_x;
    inside = omega (arith, base, ends);
    place = λ x x_known.
        let both = along layout.behind x x_known in
        let place = padded_index-row t space (stands_at (places_of t) layout (row * t.nx + x) k) (stands_known layout.behind (row * t.nx + x) (in_row t space row row_known x x_known)) in
        let start : row_start t (stands_at (places_of t) layout (row * t.nx + x) k / t.nx) ≡ row_start t (at / t.nx) = ap (row_start t) (both.0 ∙ ap (λ (y : ℕ). y / t.nx) (sym is)) in
        let shift : stands_at (places_of t) layout (row * t.nx + x) k % t.nx ≡ (x + at % t.nx) % t.nx = both.1 ∙ ap (λ (y : ℕ). (x + y % t.nx) % t.nx) (sym is) in
        omega (arith, place, start, shift);
  }
