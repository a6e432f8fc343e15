-- The shifts of a step: the ranges stay in their arrays, and what a cell touches or reads lies where it should.
use Rattle.std.proofs.Common.{◌≡◌, ℕ, zero, suc, ◌+◌, ◌-◌, ◌*◌, ◌/◌, ◌<◌, ◌≤◌, List, length, ltb, ℤ, pos, ◌+ℤ◌, ◌≤ℤ◌, unsigned_abs, subst, inl, inr, arith}
use Rattle.std.proofs.lemmas.Bool.{cases_lt, cases_Bool}
use Rattle.std.proofs.lemmas.Int.{ints, clamps}
use Rattle.std.proofs.lemmas.Nat.{div_below}
use Rattle.std.proofs.lemmas.List.FromFn.{length-map-range_with_len, get_or-map-range_with_len}
use Rattle.lbm_space.specs.Stencil.{Stencil, IsVelocitySet, velocity, opposite}
use Rattle.lbm_space.specs.Torus.{Torus, IsSpace, cells, rows, padded}
use Rattle.lbm_space.specs.Padded.{padded_index, offset, reach, row_start}
use Rattle.lbm_space.specs.Cuttings.{slabs_of, first_row, end_row, rows_of, IsCutting}
use Rattle.lbm_space.proofs.RowStarts.{row_start_rises, row_start_inside, cell_between}
use Rattle.lbm_space.proofs.Shifts.{shifted_low, shifted_high}
use Rattle.lbm_space.proofs.Offsets.{offset_most, offset_least, offset-opposite, reach_taken}
use Rattle.lbm_space.proofs.Slabs.{end_known}
use Rattle.lbm_arrays.specs.Arrays.{array_size, slot_at}
use Rattle.lbm_arrays.specs.LentRanges.{shift, IsLent, AreInside}
use Rattle.lbm_arrays.specs.declared.steps.Step.{Step}
use Rattle.lbm_arrays.specs.declared.steps.Step.TheVariants.{InPlace, Exchange, Ahead, Rise, Fall}
use Rattle.lbm_arrays.specs.Steps.{shift_of, step_shifts, HasRoom, touched, Strip, rising_strip, falling_strip, strip_size, strips_size, place_behind, TouchesArrays, IsReadNear}
use Rattle.lbm_arrays.proofs.Behind.{place_behind_is, place_behind_below}

-- a place between the starts of two rows, moved with them, lies in the range
pub lent_between : (t : Torus) (margin : ℕ) (shifts : List ℤ) (a b k x : ℕ) → pos 0 ≤ℤ (pos (row_start t a) +ℤ shift shifts k) → row_start t a ≤ x → x < row_start t b
    → IsLent t margin shifts k a b (slot_at t margin k (unsigned_abs (pos x +ℤ shift shifts k)))
lent_between t margin shifts a b k x start low high = (
  (let up : unsigned_abs (pos (row_start t a) +ℤ shift shifts k) ≤ unsigned_abs (pos x +ℤ shift shifts k) = omega (arith, ints, start) in omega arith),
  (let up : unsigned_abs (pos x +ℤ shift shifts k) < unsigned_abs (pos (row_start t b) +ℤ shift shifts k) = omega (arith, ints, start) in omega arith),
)

-- there is a shift for each direction
pub length-shifts : (t : Torus) (v : Stencil) (step : Step) (base : ℕ) → length (step_shifts t v step base) ≡ v.directions
length-shifts t v step base = length-map-range_with_len (λ k. pos base +ℤ shift_of t v step k) 0 v.directions

module _ (t : Torus) (space : IsSpace t) (v : Stencil) (laws : IsVelocitySet v) (fits : v.dimension ≡ t.dimension) where
  -- the reach is no more than the place of the first cell, and the last row plus the reach stays by the box
  pub reach_low : reach t v ≤ row_start t 0 + 1
  reach_low =
      let far = reach_taken t space v laws fits in let value = far.2 in let turned = offset-opposite t space v laws fits far.0 far.1 in
      let low = shifted_low t space v laws fits (opposite v far.0) (laws.opposite_exists far.0 far.1) in omega (arith, ints, value, turned, low)

  pub reach_high : row_start t (rows t) + reach t v ≤ padded t + 1
  reach_high = let far = reach_taken t space v laws fits in let value = far.2 in let high = shifted_high t space v laws fits far.0 far.1 in omega (arith, ints, value, high)

  pub starts_apart : (a b : ℕ) → a < b → b ≤ rows t → row_start t a + 3 ≤ row_start t b
  starts_apart a b less known =
      let step = row_start_rises t space a (a + 1) (omega arith) (omega arith) in let up = row_start_rises t space (a + 1) b (omega arith) known in let wide = space.some_x in
      let one : a + 1 - a ≡ 1 = omega arith in
      let next : row_start t a + 1 * (t.nx + 2) ≤ row_start t (a + 1) = subst (λ (n : ℕ). row_start t a + n * (t.nx + 2) ≤ row_start t (a + 1)) one step in
      omega arith

  -- how far the ranges of all rows may be moved
  pub record IsMild (margin base : ℕ) (z : ℤ) : Type 0 where
    pub low : pos 0 ≤ℤ (pos (row_start t 0) +ℤ (pos base +ℤ z))
    pub high : (pos (row_start t (rows t)) +ℤ (pos base +ℤ z)) ≤ℤ pos (array_size t margin)

  still_mild : (margin base : ℕ) → base ≤ margin → IsMild margin base (pos 0)
  still_mild margin base room = let end = row_start_inside t space (rows t) (omega arith) in record { low = omega (arith, ints); high = omega (arith, ints) }

  ahead_mild : (margin base k : ℕ) → 1 ≤ base → base + 1 ≤ margin → k < v.directions → IsMild margin base (offset t (velocity v k))
  ahead_mild margin base k room room' known =
      let low = shifted_low t space v laws fits k known in let high = shifted_high t space v laws fits k known in
      record { low = omega (arith, ints, low); high = omega (arith, ints, high) }

  pub step_mild : (step : Step) (margin base k : ℕ) → HasRoom t v step margin base → k < v.directions → IsMild margin base (shift_of t v step k)
  step_mild InPlace margin base k room known = still_mild margin base room
  step_mild Exchange margin base k room known = elim (cases_Bool (ltb k (opposite v k))) [
    | inl on ↦ rw on (ahead_mild margin base k room.0 room.1 known)
    | inr off ↦ (let r = room.1 in rw off (still_mild margin base (omega arith)))
  ]
  step_mild Ahead margin base k room known = ahead_mild margin base k room.0 room.1 known
  step_mild Rise margin base k room known =
      let low = room.0 in let high = room.1 in let end = row_start_inside t space (rows t) (omega arith) in record { low = omega (arith, ints, low); high = omega (arith, ints, high) }
  step_mild Fall margin base k room known = let end = row_start_inside t space (rows t) (omega arith) in record { low = omega (arith, ints); high = omega (arith, ints, room) }

  module _ (step : Step) (base : ℕ) where
    pub get-shifts : (k : ℕ) → k < v.directions → shift (step_shifts t v step base) k ≡ pos base +ℤ shift_of t v step k
    get-shifts k known = get_or-map-range_with_len (λ j. pos base +ℤ shift_of t v step j) 0 v.directions k k (pos 0) known (omega arith)

    pub shifts_inside : (margin : ℕ) → HasRoom t v step margin base → AreInside t margin (step_shifts t v step base)
    shifts_inside margin room k here =
        let known : k < v.directions = subst (λ (n : ℕ). k < n) (length-shifts t v step base) here in
        let mild = step_mild step margin base k room known in
        rw (get-shifts k known) (mild.low, mild.high)

    -- the range of a slab starts in its array
    pub range_low : (margin a k : ℕ) → HasRoom t v step margin base → a ≤ rows t → k < v.directions → pos 0 ≤ℤ (pos (row_start t a) +ℤ shift (step_shifts t v step base) k)
    range_low margin a k room here known =
        let mild = step_mild step margin base k room known in let low = mild.low in let up = row_start_rises t space 0 a (omega arith) here in
        rw (get-shifts k known) (omega (arith, ints, low))

    -- what a cell touches lies in its array
    pub touches_arrays : (margin : ℕ) → HasRoom t v step margin base → TouchesArrays t v step margin base
    touches_arrays margin room cell k here known =
        let mild = step_mild step margin base k room known in let low = mild.low in let high = mild.high in
        let row : cell / t.nx < rows t = div_below cell t.nx (rows t) space.some_x (omega arith) in
        let between = cell_between t space 0 (rows t) cell (omega arith) here (omega arith) row in let after = between.0 in let before = between.1 in
        (omega (arith, ints, low, after), omega (arith, ints, high, before))

    pub touched_lent : (margin a b cell k : ℕ) → HasRoom t v step margin base → b ≤ rows t → cell < cells t → a ≤ cell / t.nx → cell / t.nx < b → k < v.directions
        → IsLent t margin (step_shifts t v step base) k a b (touched t margin base v step k cell)
    touched_lent margin a b cell k room end here low high known =
        let between = cell_between t space a b cell end here low high in let after = between.0 in let before = between.1 in
        let moved : pos (padded_index t cell) +ℤ shift (step_shifts t v step base) k ≡ pos (base + padded_index t cell) +ℤ shift_of t v step k =
        let value = get-shifts k known in omega (arith, ints, value) in
        subst (λ (z : ℤ). IsLent t margin (step_shifts t v step base) k a b (slot_at t margin k (unsigned_abs z))) moved
        (lent_between t margin (step_shifts t v step base) a b k (padded_index t cell) (range_low margin a k room (omega arith) known) (omega arith) (omega arith))

  -- where the sweep rises, it writes lower than it reads
  pub read_rising : (margin base : ℕ) → HasRoom t v Rise margin base → IsReadNear t margin base v (step_shifts t v Rise base) (rising_strip t v)
  read_rising margin base room = record {
    near = λ a b cell k end here low high known.
        let p : ℕ = place_behind t (velocity v k) cell in let at = place_behind_is t space v laws fits k known cell here in
        let between = cell_between t space a b cell end here low high in let after = between.0 in let before = between.1 in
        let least = offset_least t space v laws fits k known in let most = offset_most t space v laws fits k known in
        let value = get-shifts Rise base k known in let below = place_behind_below t space v laws fits k known cell here in let room' = room.0 in
        elim (cases_lt (p + reach t v) (row_start t b)) [
          | inl near ↦ inl (
            (let up : unsigned_abs (pos (row_start t a) +ℤ shift (step_shifts t v Rise base) k) ≤ base + p = rw value (omega (arith, ints, at, most, room')) in omega arith),
            (let up : base + p < unsigned_abs (pos (row_start t b) +ℤ shift (step_shifts t v Rise base) k) = rw value (omega (arith, ints, near, room')) in omega arith),
          )
          | inr far ↦ inr (omega (arith, ints, clamps, at, far), omega (arith, ints, clamps, at, below))
        ];
  }

  -- where it falls, it writes higher
  pub read_falling : (margin base : ℕ) → HasRoom t v Fall margin base → IsReadNear t margin base v (step_shifts t v Fall base) (falling_strip t v)
  read_falling margin base room = record {
    near = λ a b cell k end here low high known.
        let p : ℕ = place_behind t (velocity v k) cell in let at = place_behind_is t space v laws fits k known cell here in
        let between = cell_between t space a b cell end here low high in let after = between.0 in let before = between.1 in
        let least = offset_least t space v laws fits k known in
        let value = get-shifts Fall base k known in
        elim (cases_lt p (row_start t a + reach t v)) [
          | inl far ↦ inr (omega (arith, ints, clamps, at), omega (arith, ints, clamps, at, far))
          | inr near ↦ inl (
            (let up : unsigned_abs (pos (row_start t a) +ℤ shift (step_shifts t v Fall base) k) ≤ base + p = rw value (omega (arith, ints, near)) in omega arith),
            (let up : base + p < unsigned_abs (pos (row_start t b) +ℤ shift (step_shifts t v Fall base) k) = rw value (omega (arith, ints, at, least)) in omega arith),
          )
        ];
  }

  -- Strips. No slab saves more places of an array than its rows have.
  rising_few : (k a b : ℕ) → row_start t a ≤ row_start t b → row_start t a + strip_size (rising_strip t v k a b) ≤ row_start t b
  rising_few k a b up = omega (arith, ints, clamps)

  falling_few : (k a b : ℕ) → row_start t a ≤ row_start t b → row_start t a + strip_size (falling_strip t v k a b) ≤ row_start t b
  falling_few k a b up = omega (arith, ints, clamps)

  -- so all slabs save no more than all rows have
  saved_few : (strip : ℕ → ℕ → Strip) → ((a b : ℕ) → row_start t a ≤ row_start t b → row_start t a + strip_size (strip a b) ≤ row_start t b)
      → (bounds : List ℕ) → IsCutting bounds → rows_of bounds ≡ rows t → (n : ℕ) → n ≤ slabs_of bounds → strips_size strip bounds n ≤ row_start t (first_row bounds n)
  saved_few strip few bounds cutting whole zero known = omega arith
  saved_few strip few bounds cutting whole (suc n) known =
      let before = saved_few strip few bounds cutting whole n (omega arith) in
      let end = end_known bounds cutting n (omega arith) in let rises = cutting.rises n (omega arith) in
      let up = row_start_rises t space (first_row bounds n) (end_row bounds n) (omega arith) (omega (arith, end, whole)) in
      let here = few (first_row bounds n) (end_row bounds n) (omega arith) in
      let next : n + 1 ≡ suc n = omega arith in
      subst (λ (m : ℕ). strips_size strip bounds (suc n) ≤ row_start t (first_row bounds m)) next (omega arith)

  box_holds : (strip : ℕ → ℕ → Strip) → ((a b : ℕ) → row_start t a ≤ row_start t b → row_start t a + strip_size (strip a b) ≤ row_start t b)
      → (bounds : List ℕ) → IsCutting bounds → rows_of bounds ≡ rows t → strips_size strip bounds (slabs_of bounds) ≤ padded t
  box_holds strip few bounds cutting whole =
      let saved = saved_few strip few bounds cutting whole (slabs_of bounds) (omega arith) in
      let end = row_start_inside t space (rows_of bounds) (omega (arith, whole)) in omega arith

  pub rising_saved : (k : ℕ) (bounds : List ℕ) → IsCutting bounds → rows_of bounds ≡ rows t → strips_size (rising_strip t v k) bounds (slabs_of bounds) ≤ padded t
  rising_saved k bounds cutting whole = box_holds (rising_strip t v k) (rising_few k) bounds cutting whole

  pub falling_saved : (k : ℕ) (bounds : List ℕ) → IsCutting bounds → rows_of bounds ≡ rows t → strips_size (falling_strip t v k) bounds (slabs_of bounds) ≤ padded t
  falling_saved k bounds cutting whole = box_holds (falling_strip t v k) (falling_few k) bounds cutting whole
