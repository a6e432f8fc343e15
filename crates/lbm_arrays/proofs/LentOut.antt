-- The ranges of a cutting's slabs are apart, lie in their arrays and cover the rows.
use Rattle.std.proofs.Common.{◌≡◌, ℕ, zero, suc, ◌+◌, ◌-◌, ◌*◌, ◌^◌, ◌<◌, ◌≤◌, inl, inr, List, [], length, get_or, slice_index, slice_range, ℤ, pos, ◌+ℤ◌, unsigned_abs, false, sym, ap, subst, ◌∙◌, arith}
use Rattle.std.proofs.lemmas.Int.{ints}
use Rattle.std.proofs.lemmas.Bool.{cases_lt, false_from_ne_true}
use Rattle.std.proofs.lemmas.List.{ext_get_or, length-map, get_or-map}
use Rattle.std.proofs.lemmas.List.FromFn.{length-map-range_with_len, get_or-map-range_with_len}
use Rattle.lbm_space.specs.Sum.{list_below}
use Rattle.lbm_space.specs.Torus.{Torus, IsSpace, rows}
use Rattle.lbm_space.specs.Padded.{row_start}
use Rattle.lbm_space.specs.Cuttings.{slabs_of, first_row, end_row, rows_of, IsCutting}
use Rattle.lbm_space.proofs.RowStarts.{row_start_rises}
use Rattle.lbm_space.proofs.Slabs.{bounds_rise}
use Rattle.lbm_patch.specs.Masks.{in_any}
use Rattle.lbm_arrays.specs.Arrays.{array_size, slot_at}
use Rattle.lbm_arrays.specs.Ranges.{ranges}
use Rattle.lbm_arrays.specs.Forked.{mark, marks_of, IsLaid}
use Rattle.lbm_arrays.specs.LentRanges.{shift, range_start, IsLent, lent, slab_rows, AreInside, AreLent}
use Rattle.lbm_arrays.proofs.Ranges.{any_where}
use Rattle.lbm_arrays.proofs.Slots.{up_to}
use Rattle.lbm_arrays.proofs.Marks.{length-marks, get-marks, marks_rise, bound_known}

-- where the ranges of all rows begin
abbrev pub firsts : Torus → ℕ → List ℤ → List ℕ
firsts t margin shifts = list_below (length shifts) (λ k. range_start t margin shifts k 0)

pub length-firsts : (t : Torus) (margin : ℕ) (shifts : List ℤ) → length (firsts t margin shifts) ≡ length shifts
length-firsts t margin shifts = length-map-range_with_len (λ k. range_start t margin shifts k 0) 0 (length shifts)

pub get-firsts : (t : Torus) (margin : ℕ) (shifts : List ℤ) (k : ℕ) → k < length shifts → get_or (firsts t margin shifts) k 0 ≡ range_start t margin shifts k 0
get-firsts t margin shifts k known = get_or-map-range_with_len (λ j. range_start t margin shifts j 0) 0 (length shifts) k k 0 known (omega arith)

module _ (t : Torus) (space : IsSpace t) (margin : ℕ) (shifts : List ℤ) (inside : AreInside t margin shifts) where
  -- a later row's range begins as much later as the row starts
  pub start_at : (k row : ℕ) → k < length shifts → row ≤ rows t → range_start t margin shifts k 0 + mark t row ≡ range_start t margin shifts k row
  start_at k row known here =
      let low = (inside k known).0 in let up = row_start_rises t space 0 row (omega arith) here in
      let moved : unsigned_abs (pos (row_start t 0) +ℤ shift shifts k) + (row_start t row - row_start t 0) ≡ unsigned_abs (pos (row_start t row) +ℤ shift shifts k) = omega (arith, ints, low) in
      omega arith

  pub starts_rise : (k a b : ℕ) → k < length shifts → a ≤ b → b ≤ rows t → range_start t margin shifts k a ≤ range_start t margin shifts k b
  starts_rise k a b known up here =
      let at_a = start_at k a known (omega arith) in let at_b = start_at k b known here in
      let rise = row_start_rises t space a b up here in let low = row_start_rises t space 0 a (omega arith) (omega arith) in omega arith

  pub starts_low : (k row : ℕ) → k < length shifts → row ≤ rows t → slot_at t margin k 0 ≤ range_start t margin shifts k row
  starts_low k row known here = omega arith

  pub ends_high : (k row : ℕ) → k < length shifts → row ≤ rows t → range_start t margin shifts k row ≤ slot_at t margin k (array_size t margin)
  ends_high k row known here =
      let low = (inside k known).0 in let high = (inside k known).1 in let up = row_start_rises t space row (rows t) here (omega arith) in let before = row_start_rises t space 0 row (omega arith) here in
      let fits : unsigned_abs (pos (row_start t row) +ℤ shift shifts k) ≤ array_size t margin = omega (arith, ints, low, high) in
      omega arith

  -- what a slab's ranges hold
  pub lent_is : (a b : ℕ) (xs : List ℤ) → a ≤ rows t → b ≤ rows t → lent t margin shifts (a, b) xs ≡ ranges (firsts t margin shifts) (mark t a) (mark t b) xs
  lent_is a b xs here_a here_b =
      let f : ℕ → List ℤ = λ k. slice_range xs (range_start t margin shifts k a) (range_start t margin shifts k b) in
      let count = length-map-range_with_len f 0 (length shifts) in
      let long : length (ranges (firsts t margin shifts) (mark t a) (mark t b) xs) ≡ length shifts = length-map (firsts t margin shifts) (λ g. slice_range xs (g + mark t a) (g + mark t b)) ∙ length-firsts t margin shifts in
      ext_get_or [] (lent t margin shifts (a, b) xs) (ranges (firsts t margin shifts) (mark t a) (mark t b) xs) (count ∙ sym long) (λ k below.
      let known : k < length shifts = omega (arith, below, count) in
      let first = get-firsts t margin shifts k known in
      get_or-map-range_with_len f 0 (length shifts) k k [] known (omega arith)
      ∙ (λ i. slice_range xs (sym (start_at k a known here_a) i) (sym (start_at k b known here_b) i))
      ∙ (λ i. slice_range xs (sym first i + mark t a) (sym first i + mark t b))
      ∙ sym (get_or-map (λ g. slice_range xs (g + mark t a) (g + mark t b)) (firsts t margin shifts) k 0 [] (omega (arith, known, length-firsts t margin shifts))))

  -- the ranges lie one behind the other
  pub laid_out : (bounds : List ℕ) (count n : ℕ) → IsCutting bounds → rows_of bounds ≡ rows t → length bounds ≤ 2 ^ 32 → length shifts ≡ count → count ≤ 27 → n ≡ count * array_size t margin → IsLaid (firsts t margin shifts) (marks_of t bounds) n
  laid_out bounds count n cutting fits short all few whole = record {
    rising = marks_rise t space bounds cutting fits;
    apart = λ b below.
        let long = length-marks t bounds in
        let row = bound_known t space bounds cutting fits b (omega arith) in
        let mark_is = get-marks t bounds b (omega arith) in
        let len = length-firsts t margin shifts in
        record {
          few = omega arith;
          apart = λ j k less here.
              let first_j = get-firsts t margin shifts j (omega arith) in let first_k = get-firsts t margin shifts k (omega arith) in
              let end = ends_high j (slice_index bounds b) (omega arith) row in let at = start_at j (slice_index bounds b) (omega arith) row in
              let next = up_to j k (array_size t margin) less in
              omega arith;
          fits = λ k here.
              let first_k = get-firsts t margin shifts k (omega arith) in
              let end = ends_high k (slice_index bounds b) (omega arith) row in let at = start_at k (slice_index bounds b) (omega arith) row in
              let next = up_to k count (array_size t margin) (omega arith) in
              omega arith;
        };
    few = let long = length-marks t bounds in omega arith;
  }

  -- the slots of no range
  pub outside : (s : ℕ) → ((k : ℕ) → k < length shifts → IsLent t margin shifts k 0 (rows t) s → ⊥) → in_any (firsts t margin shifts) 0 (mark t (rows t)) s ≡ false
  outside s none = false_from_ne_true (in_any (firsts t margin shifts) 0 (mark t (rows t)) s) (λ yes.
      let w = any_where (firsts t margin shifts) 0 (mark t (rows t)) s yes in
      let here = w.1.here in let low = w.1.low in let high = w.1.high in let len = length-firsts t margin shifts in
      let known : w.0 < length shifts = omega arith in
      let first = get-firsts t margin shifts w.0 known in let end = start_at w.0 (rows t) known (omega arith) in
      none w.0 known (omega arith, omega arith))

  module _ (bounds : List ℕ) (cutting : IsCutting bounds) (fits : rows_of bounds ≡ rows t) where
    -- a slab's piece of the ranges
    pub piece_is : (k : ℕ) (xs : List ℤ) → k < slabs_of bounds → ranges (firsts t margin shifts) (slice_index (marks_of t bounds) k) (slice_index (marks_of t bounds) (k + 1)) xs ≡ lent t margin shifts (slab_rows bounds k) xs
    piece_is k xs known =
        let low = get-marks t bounds k (omega arith) in let high = get-marks t bounds (k + 1) (omega arith) in
        (λ i. ranges (firsts t margin shifts) (low i) (high i) xs)
        ∙ sym (lent_is (first_row bounds k) (end_row bounds k) xs (bound_known t space bounds cutting fits k (omega arith)) (bound_known t space bounds cutting fits (k + 1) (omega arith)))

    first_known : (k : ℕ) → k < slabs_of bounds → first_row bounds k ≤ rows t
    first_known k known = bound_known t space bounds cutting fits k (omega arith)

    last_known : (k : ℕ) → k < slabs_of bounds → end_row bounds k ≤ rows t
    last_known k known = bound_known t space bounds cutting fits (k + 1) (omega arith)

    -- a slot of an array is a slot of no other array
    in_array : (k row_a row_b s : ℕ) → k < length shifts → row_a ≤ rows t → row_b ≤ rows t → IsLent t margin shifts k row_a row_b s → (slot_at t margin k 0 ≤ s) × (s < slot_at t margin k (array_size t margin))
    in_array k row_a row_b s known here_a here_b at =
        let low = starts_low k row_a known here_a in let high = ends_high k row_b known here_b in let from = at.0 in let to = at.1 in (omega arith, omega arith)

    one_array : (k l s : ℕ) → (slot_at t margin k 0 ≤ s) × (s < slot_at t margin k (array_size t margin)) → (slot_at t margin l 0 ≤ s) × (s < slot_at t margin l (array_size t margin)) → k ≡ l
    one_array k l s at_k at_l =
        let low_k = at_k.0 in let high_k = at_k.1 in let low_l = at_l.0 in let high_l = at_l.1 in
        elim (cases_lt k l) [
          | inl less ↦ (let next = up_to k l (array_size t margin) less in absurd (omega arith))
          | inr more ↦ elim (cases_lt l k) [ inl less ↦ (let next = up_to l k (array_size t margin) less in absurd (omega arith)) | inr same ↦ omega arith ]
        ]

    -- the slab that has a slot
    slab_of_slot : (k s n : ℕ) → n ≤ slabs_of bounds → range_start t margin shifts k 0 ≤ s → s < range_start t margin shifts k (slice_index bounds n)
        → (j : ℕ) × (j < slabs_of bounds) × IsLent t margin shifts k (first_row bounds j) (end_row bounds j) s
    slab_of_slot k s zero few low high = let begins = ap (range_start t margin shifts k) cutting.begins in absurd (omega arith)
    slab_of_slot k s (suc n) few low high = elim (cases_lt s (range_start t margin shifts k (slice_index bounds n))) [
      | inl earlier ↦ slab_of_slot k s n (omega arith) low earlier
      | inr here ↦ (let next : suc n ≡ n + 1 = omega arith in (n, omega arith, (here, subst (λ (m : ℕ). s < range_start t margin shifts k (slice_index bounds m)) next high)))
    ]

    pub are_lent : AreLent t margin shifts bounds
    are_lent = record {
      within = λ j k known_j known_k. (
        starts_low k (first_row bounds j) known_k (first_known j known_j),
        starts_rise k (first_row bounds j) (end_row bounds j) known_k (let up = cutting.rises j known_j in omega arith) (last_known j known_j),
        ends_high k (end_row bounds j) known_k (last_known j known_j),
      );
      apart = λ i j k l s known_i known_j known_k known_l other in_i in_j.
          let same : l ≡ k = one_array l k s (in_array l (first_row bounds j) (end_row bounds j) s known_l (first_known j known_j) (last_known j known_j) in_j) (in_array k (first_row bounds i) (end_row bounds i) s known_k (first_known i known_i) (last_known i known_i) in_i) in
          let also : IsLent t margin shifts k (first_row bounds j) (end_row bounds j) s = subst (λ (m : ℕ). IsLent t margin shifts m (first_row bounds j) (end_row bounds j) s) same in_j in
          let low_i = in_i.0 in let high_i = in_i.1 in let low_j = also.0 in let high_j = also.1 in
          elim (cases_lt i j) [
            | inl less ↦ (
                let up = bounds_rise bounds cutting (i + 1) j (omega arith) (omega arith) in
                let rise = starts_rise k (end_row bounds i) (first_row bounds j) known_k up (first_known j known_j) in omega arith)
            | inr more ↦ (
                let up = bounds_rise bounds cutting (j + 1) i (omega (arith, other)) (omega arith) in
                let rise = starts_rise k (end_row bounds j) (first_row bounds i) known_k up (first_known i known_i) in omega arith)
          ];
      covers = λ k s known. (
        λ at.
            let all = ap (range_start t margin shifts k) fits in let low = at.0 in let high = at.1 in
            slab_of_slot k s (slabs_of bounds) (omega arith) low (omega arith),
        λ part.
            let inside = part.2 in let low = inside.0 in let high = inside.1 in
            let before = starts_rise k 0 (first_row bounds part.0) known (omega arith) (first_known part.0 part.1) in
            let after = starts_rise k (end_row bounds part.0) (rows t) known (last_known part.0 part.1) (omega arith) in
            (omega arith, omega arith),
      );
    }
