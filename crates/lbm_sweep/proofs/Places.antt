-- The places of a slab.
use Rattle.std.proofs.Common.{◌≡◌, ℕ, ◌+◌, ◌-◌, ◌*◌, ◌/◌, ◌<◌, ◌≤◌, inl, inr, pos, ◌-ℤ◌, ap, ◌∙◌, arith}
use Rattle.std.proofs.lemmas.Bool.{cases_lt}
use Rattle.std.proofs.lemmas.Int.{ints}
use Rattle.std.proofs.lemmas.Nat.{mod_below}
use Rattle.std.proofs.Math.Nat.{mul-le-mul_right, mod-add-div}
use Rattle.lbm_space.specs.Stencil.{Stencil, IsVelocitySet, velocity}
use Rattle.lbm_space.specs.Torus.{Torus, IsSpace, cells, padded, rows as row_count}
use Rattle.lbm_space.specs.Padded.{padded_index, offset, row_start, IsInterior}
use Rattle.lbm_space.proofs.RowStarts.{row_start_rises, row_start_step, row_start-row, row_start-end}
use Rattle.lbm_arrays.specs.Steps.{IsPlace}
use Rattle.lbm_arrays.proofs.Behind.{behind_inside}
use Rattle.lbm_walk.specs.Places.{InRows}
use Rattle.lbm_walk.proofs.Places.{place_in_row}

module _ (t : Torus) (space : IsSpace t) where
  -- its cells
  pub cells_between : (rows : ℕ × ℕ) (x : ℕ) → InRows t rows x → (rows.0 * t.nx ≤ x) × (x < rows.1 * t.nx)
  cells_between rows x here =
      let whole = mod-add-div x t.nx in let rest = mod_below x t.nx space.some_x in
      let low : rows.0 * t.nx ≤ (x / t.nx) * t.nx = mul-le-mul_right t.nx here.low in
      let high : (x / t.nx + 1) * t.nx ≤ rows.1 * t.nx = mul-le-mul_right t.nx (let h = here.high in omega (arith, h)) in
      (omega (arith, whole, low), omega (arith, whole, rest, high))

  -- it has a place before its first cell, the place of that, and one behind its last cell
  pub slab_wide : (a b : ℕ) → a < b → b ≤ row_count t → 2 < row_start t b - row_start t a
  slab_wide a b some inside =
      let step = row_start_step t space a (omega arith) in let rise = row_start_rises t space (a + 1) b (omega arith) inside in let wide = space.some_x in
      omega (arith, step, rise, wide)

  -- the place of the first cell of a row
  first_place : (a : ℕ) → a < row_count t → (a * t.nx + 0 < cells t) × (padded_index t (a * t.nx + 0) ≡ row_start t a + 1)
  first_place a known =
      let up : (a + 1) * t.nx ≤ row_count t * t.nx = mul-le-mul_right t.nx (omega arith) in let wide = space.some_x in
      (omega (arith, up, wide), place_in_row t space a 0 known wide ∙ omega arith)

  pub first_interior : (a : ℕ) → a < row_count t → IsInterior t (row_start t a + 1)
  unfolding IsInterior
  first_interior a known = let first = first_place a known in (a * t.nx + 0, first.0, first.1)

  -- a cell at a place that is no less than those of all cells before row b
  late_place : (b : ℕ) → 0 < b → b ≤ row_count t → (cell : ℕ) × (cell < cells t) × (row_start t b ≤ padded_index t cell + 2)
  late_place b some inside = elim (cases_lt b (row_count t)) [
    | inl more ↦ (let first = first_place b more in let at = first.1 in (b * t.nx + 0, first.0, omega (arith, at)))
    | inr end ↦ (
        let wide = space.some_x in let last : b ≡ row_count t = omega arith in
        let up : (b - 1 + 1) * t.nx ≤ row_count t * t.nx = mul-le-mul_right t.nx (omega arith) in
        let at = place_in_row t space (b - 1) (t.nx - 1) (omega arith) (omega (arith, wide)) in
        let start = row_start-row t space (row_count t - 1) (omega arith) in let past = row_start-end t space in
        let same : b - 1 ≡ row_count t - 1 = omega arith in let e = ap (row_start t) same in let e' = ap (row_start t) last in
        ((b - 1) * t.nx + (t.nx - 1), omega (arith, up, wide), omega (arith, at, start, past, e, e', wide)))
  ]

  -- behind its places from the first cell's to the last cell's lie places of the box
  pub behind_between : (v : Stencil) → IsVelocitySet v → v.dimension ≡ t.dimension → (i a b p : ℕ) → i < v.directions → a < b → b ≤ row_count t → 0 < p → p + 1 < row_start t b - row_start t a
      → IsPlace (padded t) (pos (row_start t a + p) -ℤ offset t (velocity v i))
  behind_between v laws fits i a b p known some inside inner fit =
      let first = first_place a (omega arith) in let late = late_place b (omega arith) inside in
      let low = (behind_inside t space v laws fits i known (a * t.nx + 0) first.0).0 in let high = (behind_inside t space v laws fits i known late.0 late.1).1 in
      let at = first.1 in let past = late.2 in
      (omega (arith, ints, low, at, inner), omega (arith, ints, high, past, fit))
