-- Where the rows of cells start on the padded lattice.
use Rattle.std.proofs.Common.{◌≡◌, ℕ, zero, suc, ◌+◌, ◌-◌, ◌*◌, ◌/◌, ◌%◌, ◌<◌, ◌≤◌, refl, inl, inr, arith}
use Rattle.std.proofs.lemmas.Bool.{cases_lt, lt-ltb, le-ltb}
use Rattle.std.proofs.lemmas.Nat.{div-mul-add, mod-mul-add, mod_below, div_below, mul-le}
use Rattle.std.proofs.Math.Nat.{mod-add-div, mul-le-mul_left}
use Rattle.lbm_space.specs.Torus.{Torus, IsSpace, cells, rows, padded}
use Rattle.lbm_space.specs.Padded.{padded_box, pads_below, padded_index, place_before, row_start}
use Rattle.lbm_space.proofs.Places.{layers}

-- the next of the numbers that are counted by rows of n
next_in_row : (n r : ℕ) → r % n + 1 < n → ((r + 1) % n ≡ r % n + 1) × ((r + 1) / n ≡ r / n)
next_in_row n r more =
    let whole : r + 1 ≡ r / n * n + (r % n + 1) = let e = mod-add-div r n in omega arith in
    (rw whole (mod-mul-add (r / n) n (r % n + 1) more), rw whole (div-mul-add (r / n) n (r % n + 1) more))

next_row : (n r : ℕ) → r % n + 1 ≡ n → ((r + 1) % n ≡ 0) × ((r + 1) / n ≡ r / n + 1)
next_row n r last =
    let whole : r + 1 ≡ (r / n + 1) * n + 0 = let e = mod-add-div r n in omega arith in
    let some : 0 < n = omega arith in
    (rw whole (mod-mul-add (r / n + 1) n 0 some), rw whole (div-mul-add (r / n + 1) n 0 some))

module _ (t : Torus) (space : IsSpace t) where
  pub row_start-row : (row : ℕ) → row < rows t → row_start t row ≡ place_before t row
  unfolding row_start
  row_start-row row known = let on = lt-ltb row (rows t) known in rw on refl

  pub row_start-end : row_start t (rows t) ≡ place_before t (rows t - 1) + (t.nx + 2)
  unfolding row_start
  row_start-end = let off = le-ltb (rows t) (rows t) (omega arith) in rw off refl

  -- the cells of a row stand right of where it starts
  pub padded_index-row : (cell : ℕ) → cell < cells t → padded_index t cell ≡ row_start t (cell / t.nx) + 1 + cell % t.nx
  unfolding padded_index
  padded_index-row cell known =
      let row : cell / t.nx < rows t = div_below cell t.nx (rows t) space.some_x (omega arith) in
      rw (row_start-row (cell / t.nx) row) (omega arith)

  pub some_row : 0 < rows t
  some_row = mul-le 1 1 t.ny t.nz space.some_y space.some_z

  -- a row and its pads end before the next one starts, and where that lies in the same layer it starts there
  pub row_start-next : (row : ℕ) → row % t.ny + 1 < t.ny → row + 1 < rows t → row_start t (row + 1) ≡ row_start t row + (t.nx + 2)
  row_start-next row more known =
      let next = next_in_row t.ny row more in
      rw (row_start-row row (omega arith), row_start-row (row + 1) known, next.0, next.1) (omega arith)

  pub row_start_step : (row : ℕ) → row < rows t → row_start t row + (t.nx + 2) ≤ row_start t (row + 1)
  row_start_step row known = elim (cases_lt (row + 1) (rows t)) [
    | inl inside ↦ elim (cases_lt (row % t.ny + 1) t.ny) [
      | inl more ↦ rw (row_start-next row more inside) (omega arith)
      | inr last ↦ (
          let below = mod_below row t.ny space.some_y in
          let next = next_row t.ny row (omega arith) in
          let line : row % t.ny + 1 + (t.ny + 2) * (row / t.ny + pads_below t) + 1 ≤ 0 + 1 + (t.ny + 2) * (row / t.ny + 1 + pads_below t) = omega arith in
          rw (row_start-row row known, row_start-row (row + 1) inside, next.0, next.1) (omega (arith, mul-le-mul_left (t.nx + 2) line)))
    ]
    | inr end ↦ (let e : row + 1 ≡ rows t = omega arith in let e' : rows t - 1 ≡ row = omega arith in rw (row_start-row row known, e, row_start-end, e') (omega arith))
  ]

  -- rows start one behind the other
  pub row_start_rises : (a b : ℕ) → a ≤ b → b ≤ rows t → row_start t a + (b - a) * (t.nx + 2) ≤ row_start t b
  row_start_rises a zero up known = let same : a ≡ 0 = omega arith in rw same (omega arith)
  row_start_rises a (suc b) up known = elim (cases_lt b a) [
    | inl equal ↦ (let same : a ≡ suc b = omega arith in let none : suc b - suc b ≡ 0 = omega arith in rw (same, none) (omega arith))
    | inr more ↦ (
        let rest = row_start_rises a b more (omega arith) in
        let last = row_start_step b (omega arith) in
        let next : b + 1 ≡ suc b = omega arith in
        let count : suc b - a ≡ b - a + 1 = omega arith in
        rw (count, ← next) (omega arith))
  ]

  before_end : (row : ℕ) → row < rows t → place_before t row + 2 * (t.nx + 2) ≤ padded t
  before_end row known =
      let layer : row / t.ny < t.nz = div_below row t.ny t.nz space.some_y (omega arith) in
      let column = mod_below row t.ny space.some_y in
      let box = layers t space in
      let deep : row / t.ny + pads_below t + 1 ≤ (padded_box t).nz = omega arith in
      let line : row % t.ny + 1 + (t.ny + 2) * (row / t.ny + pads_below t) + 2 ≤ (t.ny + 2) * (padded_box t).nz = omega (arith, mul-le-mul_left (t.ny + 2) deep) in
      omega (arith, mul-le-mul_left (t.nx + 2) line)

  -- each row ends in the box, with room for one more
  pub row_start_inside : (row : ℕ) → row ≤ rows t → row_start t row + (t.nx + 2) ≤ padded t
  row_start_inside row known = elim (cases_lt row (rows t)) [
    | inl here ↦ (let room = before_end row here in rw (row_start-row row here) (omega arith))
    | inr end ↦ (let same : row ≡ rows t = omega arith in let some = some_row in let room = before_end (rows t - 1) (omega arith) in rw (same, row_start-end) (omega arith))
  ]

  -- the places of the cells of some rows lie between the starts of these rows
  pub cell_between : (a b cell : ℕ) → b ≤ rows t → cell < cells t → a ≤ cell / t.nx → cell / t.nx < b → (row_start t a < padded_index t cell) × (padded_index t cell + 1 < row_start t b)
  cell_between a b cell known here low high =
      let place = padded_index-row cell here in
      let column = mod_below cell t.nx space.some_x in
      let before = row_start_rises a (cell / t.nx) low (omega arith) in
      let after = row_start_rises (cell / t.nx + 1) b (omega arith) known in
      let step = row_start_step (cell / t.nx) (omega arith) in
      (omega arith, omega arith)
