-- What a slab's ranges hold, slot by slot.
use Rattle.std.proofs.Common.{◌≡◌, ℕ, ◌+◌, ◌-◌, ◌*◌, ◌/◌, ◌<◌, ◌≤◌, List, [], length, get_or, slice_range, ℤ, pos, ◌+ℤ◌, unsigned_abs, ap, ◌∙◌, arith}
use Rattle.std.proofs.lemmas.Int.{ints}
use Rattle.std.proofs.lemmas.List.FromFn.{length-map-range_with_len, get_or-map-range_with_len}
use Rattle.lbm_space.specs.Stencil.{Stencil, IsVelocitySet}
use Rattle.lbm_space.specs.Torus.{Torus, IsSpace, cells, rows}
use Rattle.lbm_space.specs.Padded.{padded_index, row_start}
use Rattle.lbm_space.proofs.RowStarts.{row_start_rises, cell_between}
use Rattle.lbm_arrays.specs.Arrays.{array_size, held}
use Rattle.lbm_arrays.specs.LentRanges.{shift, range_start, lent, AreInside}
use Rattle.lbm_arrays.specs.declared.steps.Step.{Step}
use Rattle.lbm_arrays.specs.Steps.{shift_of, step_shifts, HasRoom, touched}
use Rattle.lbm_arrays.proofs.Slots.{up_to}
use Rattle.lbm_arrays.proofs.Ranges.{length-range, get-range}
use Rattle.lbm_arrays.proofs.LentOut.{start_at, ends_high}
use Rattle.lbm_arrays.proofs.Moves.{get-shifts, range_low}

module _ (t : Torus) (space : IsSpace t) (margin : ℕ) (shifts : List ℤ) (inside : AreInside t margin shifts) where
  pub length-lent : (row : ℕ × ℕ) (slots : List ℤ) → length (lent t margin shifts row slots) ≡ length shifts
  length-lent row slots = length-map-range_with_len (λ k. slice_range slots (range_start t margin shifts k row.0) (range_start t margin shifts k row.1)) 0 (length shifts)

  pub get-lent : (a b k : ℕ) (slots : List ℤ) → k < length shifts → get_or (lent t margin shifts (a, b) slots) k [] ≡ slice_range slots (range_start t margin shifts k a) (range_start t margin shifts k b)
  get-lent a b k slots known = get_or-map-range_with_len (λ j. slice_range slots (range_start t margin shifts j a) (range_start t margin shifts j b)) 0 (length shifts) k k [] known (omega arith)

  module _ (slots : List ℤ) (count : ℕ) (few : length shifts ≤ count) (whole : length slots ≡ count * array_size t margin) (a b k : ℕ) (known : k < length shifts) (up : a ≤ b) (here : b ≤ rows t) where
    range_ends : range_start t margin shifts k b ≤ length slots
    range_ends = let end = ends_high t space margin shifts inside k b known here in let next = up_to k count (array_size t margin) (omega (arith, known, few)) in omega (arith, end, next, whole)

    range_size : range_start t margin shifts k b - range_start t margin shifts k a ≡ row_start t b - row_start t a
    range_size =
        let at_a = start_at t space margin shifts inside k a known (omega (arith, up, here)) in let at_b = start_at t space margin shifts inside k b known here in
        let low = row_start_rises t space 0 a (omega arith) (omega (arith, up, here)) in let rise = row_start_rises t space a b up here in
        omega arith

    pub length-lent_range : length (get_or (lent t margin shifts (a, b) slots) k []) ≡ row_start t b - row_start t a
    length-lent_range = ap length (get-lent a b k slots known) ∙ length-range slots (range_start t margin shifts k a) (range_start t margin shifts k b) range_ends ∙ range_size

    -- place p of a range is the slot p behind where it starts
    pub get-lent_range : (p : ℕ) → p < row_start t b - row_start t a → get_or (get_or (lent t margin shifts (a, b) slots) k []) p (pos 0) ≡ held slots (range_start t margin shifts k a + p)
    get-lent_range p below =
        let size = range_size in
        ap (λ l. get_or l p (pos 0)) (get-lent a b k slots known) ∙ get-range slots (range_start t margin shifts k a) (range_start t margin shifts k b) p (pos 0) range_ends (omega (arith, below, size))

-- The cell at padded place x touches place x - row_start a of the range of a slab that begins at row a, whatever the step.
module _ (t : Torus) (space : IsSpace t) (v : Stencil) (laws : IsVelocitySet v) (fits : v.dimension ≡ t.dimension) (step : Step) (base margin : ℕ) (room : HasRoom t v step margin base) where
  pub touched_at : (a b cell k : ℕ) → b ≤ rows t → cell < cells t → a ≤ cell / t.nx → cell / t.nx < b → k < v.directions
      → range_start t margin (step_shifts t v step base) k a + (padded_index t cell - row_start t a) ≡ touched t margin base v step k cell
  touched_at a b cell k end here low high known =
      let between = cell_between t space a b cell end here low high in let after = between.0 in
      let start = range_low t space v laws fits step base margin a k room (omega arith) known in let value = get-shifts t space v laws fits step base k known in
      let moved : unsigned_abs (pos (row_start t a) +ℤ shift (step_shifts t v step base) k) + (padded_index t cell - row_start t a) ≡ unsigned_abs (pos (base + padded_index t cell) +ℤ shift_of t v step k) =
      omega (arith, ints, start, value) in
      omega arith
