-- The places of all rows, moved by an offset, pass the padded box by one place at most.
use Rattle.std.proofs.Common.{◌≡◌, ℕ, ◌+◌, ◌-◌, ◌*◌, ◌/◌, ◌%◌, ◌<◌, pos, ◌+ℤ◌, ◌≤ℤ◌, arith, refl, ◌∙◌}
use Rattle.std.proofs.lemmas.Int.{ints}
use Rattle.std.proofs.lemmas.Nat.{div-mul-add, mod-mul-add}
use Rattle.std.proofs.Math.Nat.{zero-mod, zero-div}
use Rattle.lbm_space.specs.Stencil.{Stencil, IsVelocitySet, velocity}
use Rattle.lbm_space.specs.Torus.{Torus, IsSpace, cells, rows, padded}
use Rattle.lbm_space.specs.Padded.{padded_index, offset, row_start}
use Rattle.lbm_space.proofs.Places.{some_cell}
use Rattle.lbm_space.proofs.RowStarts.{some_row, padded_index-row, row_start-row, row_start-end}
use Rattle.lbm_space.proofs.Offsets.{moved_low, moved_high}

module _ (t : Torus) (space : IsSpace t) where
  first_place : padded_index t 0 ≡ row_start t 0 + 1
  first_place = padded_index-row t space 0 (some_cell t space) ∙ rw (zero-div t.nx, zero-mod t.nx) (omega arith)

  -- the last cell, whose right pad ends the last row
  abbrev last_cell : ℕ
  last_cell = (rows t - 1) * t.nx + (t.nx - 1)

  last_known : last_cell < cells t
  last_known =
      let some = some_row t space in let wide = space.some_x in
      let whole : (rows t - 1 + 1) * t.nx ≡ rows t * t.nx = let e : rows t - 1 + 1 ≡ rows t = omega arith in rw e refl in
      omega arith

  last_place : padded_index t last_cell + 2 ≡ row_start t (rows t)
  last_place =
      let wide = space.some_x in let some = some_row t space in
      let row : last_cell / t.nx ≡ rows t - 1 = div-mul-add (rows t - 1) t.nx (t.nx - 1) (omega arith) in
      let column : last_cell % t.nx ≡ t.nx - 1 = mod-mul-add (rows t - 1) t.nx (t.nx - 1) (omega arith) in
      let place : padded_index t last_cell ≡ row_start t (rows t - 1) + 1 + (t.nx - 1) = padded_index-row t space last_cell last_known ∙ rw (row, column) refl in
      let before = row_start-row t space (rows t - 1) (omega arith) in let end = row_start-end t space in
      omega arith

module _ (t : Torus) (space : IsSpace t) (v : Stencil) (laws : IsVelocitySet v) (same : v.dimension ≡ t.dimension) (i : ℕ) (known : i < v.directions) where
  pub shifted_low : pos 0 ≤ℤ (pos (row_start t 0 + 1) +ℤ offset t (velocity v i))
  shifted_low = let low = moved_low t space v laws same i 0 known (some_cell t space) in let first = first_place t space in omega (arith, ints, low)

  pub shifted_high : (pos (row_start t (rows t)) +ℤ offset t (velocity v i)) ≤ℤ pos (padded t + 1)
  shifted_high = let high = moved_high t space v laws same i (last_cell t space) known (last_known t space) in let last = last_place t space in omega (arith, ints, high)
