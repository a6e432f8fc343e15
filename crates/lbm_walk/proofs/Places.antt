-- The places of cells in the ranges of a slab.
use Rattle.std.proofs.Common.{◌≡◌, ◌⊎◌, ℕ, ◌+◌, ◌-◌, ◌*◌, ◌/◌, ◌<◌, ◌≤◌, ℤ, Bool, true, false, inl, inr, List, [], ◌∷◌, get_or, refl, sym, ap, ◌∙◌, subst, arith}
use Rattle.std.proofs.lemmas.Bool.{cases_lt}
use Rattle.std.proofs.lemmas.Nat.{div-mul-add, mod-mul-add, mod_below, div_below, le-div}
use Rattle.std.proofs.Math.Nat.{mul-le-mul_left, mul-le-mul_right, mod-add-div}
use Rattle.lbm_space.specs.Torus.{Torus, IsSpace, cells, rows as row_count}
use Rattle.lbm_space.specs.Padded.{padded_index, row_start}
use Rattle.lbm_space.proofs.RowStarts.{row_start_rises, row_start_step, row_start_inside, padded_index-row, cell_between}
use Rattle.lbm_walk.specs.Places.{InRows, IsRow, local}
use Rattle.lbm_walk.specs.Walked.{AreTaken, IsPending}

-- a space's first side
pub width : (t : Torus) (sides : List ℕ) → sides ≡ t.nx ∷ t.ny ∷ t.nz ∷ [] → get_or sides 0 0 ≡ t.nx
width t sides are = ap (λ l. get_or l 0 0) are

module _ (t : Torus) (space : IsSpace t) where
  -- the row of a cell
  pub row_known : (cell : ℕ) → cell < cells t → cell / t.nx < row_count t
  row_known cell known = div_below cell t.nx (row_count t) space.some_x (omega arith)

  -- cells stand in order
  pub places_rise : (x y : ℕ) → x < y → y < cells t → padded_index t x < padded_index t y
  places_rise x y less known =
      let row_x = row_known x (omega arith) in let row_y = row_known y known in
      let whole_x = mod-add-div x t.nx in let whole_y = mod-add-div y t.nx in
      let rest_x = mod_below x t.nx space.some_x in let rest_y = mod_below y t.nx space.some_x in
      elim (cases_lt (x / t.nx) (y / t.nx)) [
        | inl lower ↦ (
            let at_x = cell_between t space (x / t.nx) (x / t.nx + 1) x (omega arith) (omega arith) (omega arith) (omega arith) in
            let at_y = cell_between t space (y / t.nx) (y / t.nx + 1) y (omega arith) known (omega arith) (omega arith) in
            let rise = row_start_rises t space (x / t.nx + 1) (y / t.nx) (omega arith) (omega arith) in
            let end = at_x.1 in let start = at_y.0 in omega (arith, rise, end, start))
        | inr h ↦ elim (cases_lt (y / t.nx) (x / t.nx)) [
          | inl higher ↦ (let more : (y / t.nx + 1) * t.nx ≤ (x / t.nx) * t.nx = mul-le-mul_right t.nx (omega arith) in absurd (omega arith))
          | inr h' ↦ (
              let same : x / t.nx ≡ y / t.nx = omega arith in let start = ap (row_start t) same in let before = ap (λ r. r * t.nx) same in
              let at_x = padded_index-row t space x (omega arith) in let at_y = padded_index-row t space y known in omega arith)
        ]
      ]

  -- the place of a cell in its row
  pub place_in_row : (row c : ℕ) → row < row_count t → c < t.nx → padded_index t (row * t.nx + c) ≡ row_start t row + 1 + c
  place_in_row row c known here =
      let up : (row + 1) * t.nx ≤ row_count t * t.nx = mul-le-mul_right t.nx (omega arith) in
      padded_index-row t space (row * t.nx + c) (omega arith) ∙ rw (div-mul-add row t.nx c here, mod-mul-add row t.nx c here) refl

  module _ (rows : ℕ × ℕ) (inside : rows.1 ≤ row_count t) where
    -- the place of a cell lies behind the start of the slab, and before its end
    pub local_within : (cell : ℕ) → InRows t rows cell → (0 < local t rows cell) × (row_start t rows.0 + local t rows cell ≡ padded_index t cell) × (local t rows cell + 1 < row_start t rows.1 - row_start t rows.0)
    local_within cell here =
        let at = cell_between t space rows.0 rows.1 cell inside here.known here.low here.high in let low = at.0 in let high = at.1 in
        (omega arith, omega arith, omega arith)

    pub local_rises : (x y : ℕ) → x < y → InRows t rows y → local t rows x < local t rows y
    local_rises x y less here = let at = local_within y here in let some = at.0 in let whole = at.1 in let rise = places_rise x y less here.known in omega arith

    pub local_distinct : (x y : ℕ) → InRows t rows x → InRows t rows y → local t rows x ≡ local t rows y → x ≡ y
    local_distinct x y here there same = elim (cases_lt x y) [
      | inl less ↦ (let rise = local_rises x y less there in absurd (omega arith))
      | inr h ↦ elim (cases_lt y x) [
        | inl more ↦ (let rise = local_rises y x more here in absurd (omega arith))
        | inr h' ↦ omega arith
      ]
    ]

  -- the cells of a row of the slab
  pub row_cells : (rows : ℕ × ℕ) (row x : ℕ) → rows.1 ≤ row_count t → rows.0 ≤ row → row < rows.1 → row * t.nx ≤ x → x < (row + 1) * t.nx → InRows t rows x
  row_cells rows row x inside low high from to =
      let up : (row + 1) * t.nx ≤ row_count t * t.nx = mul-le-mul_right t.nx (omega arith) in
      let c : ℕ = x - row * t.nx in let is : row * t.nx + c ≡ x = omega arith in let here : c < t.nx = omega arith in
      let in_row : x / t.nx ≡ row = ap (λ n. n / t.nx) (sym is) ∙ div-mul-add row t.nx c here in
      record { known = omega arith; low = omega arith; high = omega arith }

  -- the cells of some rows of the slab
  pub rows_cells : (rows : ℕ × ℕ) (a b x : ℕ) → rows.1 ≤ row_count t → rows.0 ≤ a → b ≤ rows.1 → a * t.nx ≤ x → x < b * t.nx → InRows t rows x
  rows_cells rows a b x inside low high from to =
      let up : b * t.nx ≤ row_count t * t.nx = mul-le-mul_right t.nx (omega arith) in
      let below : x / t.nx < b = div_below x t.nx b space.some_x (omega arith) in
      let above : a ≤ x / t.nx = le-div a x t.nx space.some_x (omega arith) in
      record { known = omega arith; low = omega arith; high = omega arith }

  -- a row ends no later than the cells do
  pub row_end : (row : ℕ) → row < row_count t → row * t.nx + t.nx ≤ cells t
  row_end row known = let up : (row + 1) * t.nx ≤ row_count t * t.nx = mul-le-mul_right t.nx (omega arith) in omega arith

  -- nor are there more cells up to its end than padded places
  pub few_cells : (row : ℕ) → row < row_count t → row * t.nx + t.nx ≤ 4194304
  few_cells row known =
      let start = row_start_rises t space 0 row (omega arith) (omega (arith, known)) in let end = row_start_inside t space row (omega (arith, known)) in let fits = space.fits in
      let whole : row - 0 ≡ row = omega arith in let more : row * t.nx ≤ row * (t.nx + 2) = mul-le-mul_left row (omega arith) in let same = ap (λ m. m * (t.nx + 2)) whole in
      omega (arith, start, end, fits, more, same)

  -- the numbers of the rows of cells that lie in rows
  pub rows_between : (a b x : ℕ) → a * t.nx ≤ x → x < b * t.nx → (a ≤ x / t.nx) × (x / t.nx < b)
  rows_between a b x from to = (le-div a x t.nx space.some_x from, div_below x t.nx b space.some_x (omega arith))

  module _ (rows : ℕ × ℕ) (row cell at width : ℕ) (is : IsRow t rows row cell at width) where
    row_is : row < row_count t
    row_is = omega (arith, is.high, is.inside)

    pub row_of : (x : ℕ) → x < width → (cell + x) / t.nx ≡ row
    row_of x here = let e : row * t.nx + x ≡ cell + x = omega (arith, is.first) in ap (λ n. n / t.nx) (sym e) ∙ div-mul-add row t.nx x (omega (arith, here, is.whole))

    pub row_here : (x : ℕ) → x < width → InRows t rows (cell + x)
    row_here x here = row_cells rows row (cell + x) is.inside is.low is.high (omega (arith, is.first)) (omega (arith, is.first, here, is.whole))

    pub row_local : (x : ℕ) → x < width → local t rows (cell + x) ≡ at + x
    row_local x here =
        let e : cell + x ≡ row * t.nx + x = omega (arith, is.first) in let place = ap (padded_index t) e in let there = place_in_row row x row_is (omega (arith, here, is.whole)) in
        omega (arith, place, there, is.begins)

    pub row_ends : cell + width ≡ (row + 1) * t.nx
    row_ends = omega (arith, is.first, is.whole)

    -- it ends within the cells, and in the ranges a place lies on either side of it
    pub row_known_all : cell + width ≤ cells t
    row_known_all = let end = row_end row row_is in omega (arith, end, is.first, is.whole)

    pub row_inside : (0 < at) × (at + width < row_start t rows.1 - row_start t rows.0)
    row_inside =
        let here = row_start_step t space row row_is in let rest = row_start_rises t space (row + 1) rows.1 (omega (arith, is.high)) is.inside in
        let first = row_start_rises t space rows.0 row is.low (omega (arith, row_is)) in (omega (arith, first, is.begins), omega (arith, here, rest, first, is.begins, is.whole))

    pub row_few : (cell + width ≤ 4194304) × (at + width ≤ 4194304)
    row_few =
        let cells_few = few_cells row row_is in let end = row_start_inside t space row (omega (arith, row_is)) in let fits = space.fits in
        (omega (arith, cells_few, is.first, is.whole), omega (arith, end, fits, is.begins, is.whole))

    -- cells of other rows stand before it or behind it
    other_row : (x : ℕ) → InRows t rows x → ((x / t.nx < row) → local t rows x < at) × ((row + 1 ≤ x / t.nx) → at + width ≤ local t rows x)
    other_row x here =
        let whole = (local_within rows is.inside x here).1 in (
          (λ less. let between = (cell_between t space rows.0 row x (omega (arith, row_is)) here.known here.low less).1 in omega (arith, between, whole, is.begins)),
          (λ more. let between = (cell_between t space (row + 1) rows.1 x is.inside here.known more here.high).0 in let step = row_start_step t space row row_is in
              omega (arith, between, step, whole, is.begins, is.whole)),
        )

    pub row_pending : (rises : Bool) (x : ℕ) → InRows t rows x → IsPending rises row 1 (x / t.nx) → IsPending rises at width (local t rows x)
    row_pending true x here later = (other_row x here).1 later
    row_pending false x here later = (other_row x here).0 later

    pub row_beside : (x : ℕ) → InRows t rows x → (x / t.nx < row) ⊎ (row + 1 ≤ x / t.nx) → (local t rows x < at) ⊎ (at + width ≤ local t rows x)
    row_beside x here apart = elim apart [ inl less ↦ inl ((other_row x here).0 less) | inr more ↦ inr ((other_row x here).1 more) ]

    -- a place at which no cell stands lies beside the row
    pub row_outside : (p : ℕ) → ((x : ℕ) → InRows t rows x → local t rows x ≡ p → ⊥) → (p < at) ⊎ (at + width ≤ p)
    row_outside p none = elim (cases_lt p at) [
      | inl less ↦ inl less
      | inr from ↦ elim (cases_lt p (at + width)) [
        | inl to ↦ (let x : ℕ = p - at in let here : x < width = omega (arith, from, to) in let e : at + x ≡ p = omega (arith, from) in absurd (none (cell + x) (row_here x here) (row_local x here ∙ e)))
        | inr more ↦ inr more
      ]
    ]

    -- what the cells of the row take
    module _ (q : ℕ) (now first : ℕ → ℕ → ℤ) (same : (i x : ℕ) → i < q → x < width → now i (local t rows (cell + x)) ≡ first i (local t rows (cell + x))) where
      pub row_taken : (f : ℕ → ℕ → ℤ) → ((i x : ℕ) → i < q → InRows t rows x → first i (local t rows x) ≡ f x i) → AreTaken q width (λ x. f (cell + x)) (λ i x. now i (at + x))
      row_taken f taken = λ i x known here. ap (now i) (sym (row_local x here)) ∙ same i x known here ∙ taken i (cell + x) known (row_here x here)

      pub row_small : (small : ℕ → ℤ → Type 0) → ((i x : ℕ) → i < q → InRows t rows x → small x (first i (local t rows x))) → (i x : ℕ) → i < q → x < width → small (cell + x) (now i (at + x))
      row_small small all = λ i x known here. subst (λ z. small (cell + x) z) (sym (ap (now i) (sym (row_local x here)) ∙ same i x known here)) (all i (cell + x) known (row_here x here))
