-- The places of a row's populations, in two runs.
use Rattle.std.proofs.Common.{◌≡◌, ℕ, ◌+◌, ◌-◌, ◌*◌, ◌%◌, ◌<◌, ◌≤◌, List, ℤ, pos, slice_index_or, length, sym, ap, subst, ◌∙◌, inl, inr, arith}
use Rattle.std.proofs.lemmas.Bool.{cases_lt}
use Rattle.std.proofs.lemmas.Nat.{mod-mul-add}
use Rattle.std.proofs.Math.Nat.{mod-eq_of_lt, mul-le-mul_right}
use Rattle.lbm_space.specs.Torus.{padded, cells, rows}
use Rattle.lbm_model.specs.Case.{FlowCase, IsCase}
use Rattle.lbm_model.specs.declared.layout.Layout.{Layout}
use Rattle.lbm_model.specs.Layout.{array_of, IsRound, place_of, slot_of, population_in, state_in}
use Rattle.lbm_model.specs.Small.{IsSmall}
use Rattle.lbm_model.proofs.RowPlaces.{in_row}
use Rattle.lbm_sweep.specs.Lattices.{Lattice, standing_by}
use Rattle.lbm_sweep.proofs.Lattices.{population-state_in, small_fits}
use Rattle.lbm_lattice.specs.Rows.{IsRead}

-- going round a ring of n places from one on
round_before : (n x a : ℕ) → x < n - a → a < n → (x + a) % n ≡ x + a
round_before n x a below known = mod-eq_of_lt (omega (arith, below, known))

round_after : (n x a : ℕ) → n - a ≤ x → x < n → a < n → (x + a) % n ≡ x - (n - a)
round_after n x a above below known =
    let split : x + a ≡ 1 * n + (x - (n - a)) = omega (arith, above, below, known) in
    ap (λ (y : ℕ). y % n) split ∙ mod-mul-add 1 n (x - (n - a)) (omega (arith, above, below, known))

-- Populations that were copied in two runs, the second of which begins where the first has ended.
module _ (case : FlowCase) (layout : Layout) (row i start : ℕ) (round : ℕ × ℕ) (is : IsRound case layout row i round)
    (slots middle pops : List ℤ)
    (start_is : start ≡ array_of case.stencil layout i * (layout.margin + padded case.torus) + round.0)
    (first : (k : ℕ) → k < case.torus.nx - round.1 → slice_index_or middle (0 + k) (pos 0) ≡ slice_index_or slots (start + round.1 + k) (pos 0))
    (kept : (x : ℕ) → x < case.torus.nx - round.1 → slice_index_or pops x (pos 0) ≡ slice_index_or middle x (pos 0))
    (second : (k : ℕ) → k < round.1 → slice_index_or pops (case.torus.nx - round.1 + k) (pos 0) ≡ slice_index_or slots (start + k) (pos 0)) where
  abbrev n : ℕ
  n = case.torus.nx

  slot_at : (x p : ℕ) → x < n → (x + round.1) % n ≡ p → start + p ≡ slot_of case layout (row * n + x) i
  slot_at x p below turns = let place = is.place x below in omega (arith, place, turns, start_is)

  pub read_is : (x : ℕ) → x < n → slice_index_or pops x (pos 0) ≡ population_in case layout slots (row * n + x) i
  read_is x below = elim (cases_lt x (n - round.1)) [
    | inl front ↦
        (let zero : x ≡ 0 + x = omega arith in
        let at : start + round.1 + x ≡ slot_of case layout (row * n + x) i = omega (arith, slot_at x (x + round.1) below (round_before n x round.1 front is.known)) in
        kept x front ∙ ap (λ (y : ℕ). slice_index_or middle y (pos 0)) zero ∙ first x front ∙ ap (λ (s : ℕ). slice_index_or slots s (pos 0)) at)
    | inr back ↦
        (let k : ℕ = x - (n - round.1) in
        let split : x ≡ n - round.1 + k = omega (arith, back) in
        let at : start + k ≡ slot_of case layout (row * n + x) i = slot_at x k below (round_after n x round.1 back below is.known) in
        ap (λ (y : ℕ). slice_index_or pops y (pos 0)) split ∙ second k (omega (arith, below, back, is.known)) ∙ ap (λ (s : ℕ). slice_index_or slots s (pos 0)) at)
  ]

-- both runs lie in the array, among the slots of all arrays
module _ (case : FlowCase) (layout : Layout) (row i : ℕ) (round : ℕ × ℕ) (is : IsRound case layout row i round) (array : ℕ) (known : array < case.stencil.directions) where
  below_end : (at : ℕ) → at ≤ layout.margin + padded case.torus → array * (layout.margin + padded case.torus) + at ≤ case.stencil.directions * (layout.margin + padded case.torus)
  below_end at inside =
      let next : (array + 1) * (layout.margin + padded case.torus) ≤ case.stencil.directions * (layout.margin + padded case.torus) = mul-le-mul_right (layout.margin + padded case.torus) (omega (arith, known)) in
      omega (arith, next, inside)

  pub first_fits : array * (layout.margin + padded case.torus) + round.0 + round.1 + (case.torus.nx - round.1) ≤ case.stencil.directions * (layout.margin + padded case.torus)
  first_fits =
      let at : round.0 + round.1 + (case.torus.nx - round.1) ≤ layout.margin + padded case.torus = omega (arith, is.inside, is.known) in
      let end = below_end (round.0 + round.1 + (case.torus.nx - round.1)) at in omega (arith, end)

  pub second_fits : array * (layout.margin + padded case.torus) + round.0 + round.1 ≤ case.stencil.directions * (layout.margin + padded case.torus)
  second_fits =
      let at : round.0 + round.1 ≤ layout.margin + padded case.torus = omega (arith, is.inside, is.known) in
      let end = below_end (round.0 + round.1) at in omega (arith, end)

-- what is read by the layout of the time is read of what the lattice stands for
pub read-standing : (layout : FlowCase → ℕ → Layout) (l : Lattice) (row i : ℕ) (pops : List ℤ) → IsCase l.case → IsSmall l.case (state_in l.case (layout l.case l.time) l.slots)
    → row < rows l.case.torus → i < l.case.stencil.directions → length pops ≡ l.case.torus.nx
    → ((x : ℕ) → x < l.case.torus.nx → slice_index_or pops x (pos 0) ≡ population_in l.case (layout l.case l.time) l.slots (row * l.case.torus.nx + x) i)
    → IsRead (standing_by (layout l.case) l) row i pops
read-standing layout l row i pops valid small row_known known room read =
    let at = layout l.case l.time in
    let here : (x : ℕ) → x < l.case.torus.nx → row * l.case.torus.nx + x < cells l.case.torus = in_row l.case valid row i row_known known in
    record {
      count = room;
      value = λ x below. read x below ∙ sym (population-state_in l.case at l.slots (row * l.case.torus.nx + x) i (here x below) known);
      fits = λ x below. rw (read x below) (small_fits l.case at l.slots small (row * l.case.torus.nx + x) i (here x below) known);
    }
