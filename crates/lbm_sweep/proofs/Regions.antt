-- From what each slab's ranges hold to the slots of the whole region.
use Rattle.std.proofs.Common.{◌≡◌, ◌⊎◌, ℕ, zero, suc, ℤ, ◌+◌, ◌-◌, ◌*◌, ◌<◌, ◌≤◌, Bool, inl, inr, List, length, get_or, slice_index, Option, None, sym, ap, ◌∙◌, subst, arith}
use Rattle.std.proofs.Math.Nat.{mul-le-mul_right}
use Rattle.std.proofs.lemmas.Bool.{cases_lt}
use Rattle.lbm_space.specs.Torus.{Torus, IsSpace, cells, rows as row_count}
use Rattle.lbm_space.specs.Padded.{row_start}
use Rattle.lbm_space.specs.Cuttings.{slabs_of, first_row, end_row, rows_of, IsCutting}
use Rattle.lbm_space.proofs.RowStarts.{row_start_rises}
use Rattle.lbm_space.proofs.Slabs.{end_known}
use Rattle.lbm_arrays.specs.Arrays.{Arrays, IsRegion, array_size, held}
use Rattle.lbm_arrays.specs.LentRanges.{range_start, IsLent, lent, slab_rows, AreInside, AreLent, IsForked}
use Rattle.lbm_arrays.proofs.LentOut.{start_at}
use Rattle.lbm_arrays.proofs.LentReads.{length-lent, length-lent_range, get-lent_range}
use Rattle.lbm_sweep.specs.Sweep.{IsCollided}
use Rattle.lbm_cell.specs.Rows.{entry}
use Rattle.lbm_sweep.specs.Blocks.{IsSized, IsTable}
use Rattle.lbm_walk.specs.Places.{InRows, local}
use Rattle.lbm_sweep.specs.Slabs.{Ranges, IsSlab, InColumns}
use Rattle.lbm_sweep.specs.Regions.{range_slot, HasSlot, InEachSlab}
use Rattle.lbm_sweep.proofs.Joined.{IsPart, parts_collide}
use Rattle.lbm_walk.proofs.Places.{local_within, rows_cells}

-- how many slots a region of q arrays has
pub all_slots : (r : Arrays) (q : ℕ) → IsRegion r → r.count ≡ q → length r.slots ≡ q * array_size r.space r.margin
all_slots r q valid count = valid.whole ∙ ap (λ n. n * array_size r.space r.margin) count

-- and has still, after a step
pub all_slots_still : (old new : Arrays) (q : ℕ) → IsRegion new → new ≡ record old { slots = new.slots } → old.count ≡ q → length new.slots ≡ q * array_size old.space old.margin
all_slots_still old new q valid same count = valid.whole ∙ ap (λ r. r.count * array_size r.space r.margin) same ∙ ap (λ n. n * array_size old.space old.margin) count

module _ (t : Torus) (space : IsSpace t) (margin : ℕ) (shifts : List ℤ) (inside : AreInside t margin shifts) (q : ℕ) (count : length shifts ≡ q) where
  -- the ranges of some rows
  module _ (a b : ℕ) (up : a ≤ b) (end : b ≤ row_count t) where
    -- a cell's own place of a range is its slot
    pub slot_place : (k cell : ℕ) → k < q → InRows t (a, b) cell → range_start t margin shifts k a + local t (a, b) cell ≡ range_slot t margin shifts k cell
    slot_place k cell known here =
        let at = local_within t space (a, b) end cell here in let whole = at.1 in
        let start = start_at t space margin shifts inside k a (omega (arith, known, count)) (omega (arith, up, end)) in let rise = row_start_rises t space 0 a (omega arith) (omega (arith, up, end)) in
        omega arith

    range_end : (k : ℕ) → k < q → range_start t margin shifts k b ≡ range_start t margin shifts k a + (row_start t b - row_start t a)
    range_end k known =
        let at_a = start_at t space margin shifts inside k a (omega (arith, known, count)) (omega (arith, up, end)) in let at_b = start_at t space margin shifts inside k b (omega (arith, known, count)) end in
        let low = row_start_rises t space 0 a (omega arith) (omega (arith, up, end)) in let rise = row_start_rises t space a b up end in omega arith

    module _ (slots : List ℤ) (whole : length slots ≡ q * array_size t margin) where
      pub lent_sized : IsSized q (row_start t b - row_start t a) (lent t margin shifts (a, b) slots)
      lent_sized = record {
        count = length-lent t space margin shifts inside (a, b) slots ∙ count;
        lengths = λ k known. length-lent_range t space margin shifts inside slots q (omega (arith, count)) whole a b k (omega (arith, known, count)) up end;
      }

      -- place p of a range
      pub lent_entry : (k p : ℕ) → k < q → p < row_start t b - row_start t a → entry (lent t margin shifts (a, b) slots) k p ≡ held slots (range_start t margin shifts k a + p)
      lent_entry k p known below = get-lent_range t space margin shifts inside slots q (omega (arith, count)) whole a b k (omega (arith, known, count)) up end p below

      -- a cell's own place
      pub slot_entry : (k cell : ℕ) → k < q → InRows t (a, b) cell → entry (lent t margin shifts (a, b) slots) k (local t (a, b) cell) ≡ held slots (range_slot t margin shifts k cell)
      slot_entry k cell known here =
          let at = local_within t space (a, b) end cell here in let below = at.2 in
          lent_entry k (local t (a, b) cell) known (omega arith) ∙ ap (held slots) (slot_place k cell known here)

  -- the slots of a slab
  abbrev pub Owns : ℕ → ℕ → ℕ → Type 0
  Owns a b s = (k : ℕ) × (k < q) × IsLent t margin shifts k a b s

  module _ (sound : ℕ → (ℕ → ℤ) → Bool) (post : ℕ → (ℕ → ℤ) → ℕ → ℤ) (source : ℕ × ℕ → Ranges → ℕ → ℕ → ℤ) (writes : List ℕ) (table : IsTable q writes) (before : ℕ → ℕ → ℤ) (xs ys : List ℤ) (whole_xs : length xs ≡ q * array_size t margin) (whole_ys : length ys ≡ q * array_size t margin) where
    abbrev W : ℕ → ℕ → ℕ
    W cell i = range_slot t margin shifts (slice_index writes i) cell

    -- what a slab makes of its slots
    pub slab_part : (a b : ℕ) (answer : Option ℕ) → a ≤ b → b ≤ row_count t
        → ((cell i : ℕ) → InRows t (a, b) cell → i < q → source (a, b) (lent t margin shifts (a, b) xs) cell i ≡ before cell i)
        → InColumns sound post q source writes t (a, b) (a * t.nx) (b * t.nx) (lent t margin shifts (a, b) xs) (lent t margin shifts (a, b) ys) answer
        → IsPart sound post q before W (HasSlot t margin shifts q) (Owns a b) (a * t.nx) (b * t.nx) (held xs) (held ys) answer
    slab_part a b answer up end same did = record {
      first = done.first;
      written = λ e cell i low high known.
          let here = mine cell low high in
          sym (slot_entry a b up end ys whole_ys (slice_index writes i) cell (table.known i known) here) ∙ (done.swept e).written cell i low high known;
      others = λ e s owner off.
          let k = owner.0 in let known = owner.1 in let low = owner.2.0 in let high = owner.2.1 in let long = range_end a b up end k known in
          let p : ℕ = s - range_start t margin shifts k a in let at : range_start t margin shifts k a + p ≡ s = omega (arith, low) in let below : p < row_start t b - row_start t a = omega (arith, low, high, long) in
          let spared : (cell : ℕ) → a * t.nx ≤ cell → cell < b * t.nx → local t (a, b) cell ≡ p → ⊥ =
          λ cell from to touched. off cell from to (k, known, sym (slot_place a b up end k cell known (mine cell from to)) ∙ ap (λ r. range_start t margin shifts k a + r) touched ∙ at) in
          ap (held ys) (sym at) ∙ sym (lent_entry a b up end ys whole_ys k p known below) ∙ (done.swept e).others (k, p) spared ∙ lent_entry a b up end xs whole_xs k p known below ∙ ap (held xs) at;
    }
      where
        mine : (cell : ℕ) → a * t.nx ≤ cell → cell < b * t.nx → InRows t (a, b) cell
        mine cell low high = rows_cells t space (a, b) a b cell end (omega arith) (omega arith) low high

        done : IsCollided sound post q before (λ x i. (slice_index writes i, local t (a, b) x)) (λ x s. local t (a, b) x ≡ s.1) (a * t.nx) (b * t.nx) (Rattle.lbm_sweep.specs.Blocks.slots (lent t margin shifts (a, b) xs)) (Rattle.lbm_sweep.specs.Blocks.slots (lent t margin shifts (a, b) ys)) answer
        done = did before (λ cell i low high known. same cell i (mine cell low high) known)

  -- a slot lies in a range, or in none
  lent_or_not : (s n : ℕ) → ((k : ℕ) × (k < n) × IsLent t margin shifts k 0 (row_count t) s) ⊎ ((k : ℕ) → k < n → IsLent t margin shifts k 0 (row_count t) s → ⊥)
  lent_or_not s zero = inr (λ k known. absurd (omega arith))
  lent_or_not s (suc n) = elim (lent_or_not s n) [
    | inl found ↦ (let known = found.1 in inl (found.0, omega (arith, known), found.2))
    | inr none ↦ elim (cases_lt s (range_start t margin shifts n 0)) [
      | inl before ↦ inr (λ k known at. elim (cases_lt k n) [ inl less ↦ none k less at | inr last ↦ (let same : k ≡ n = omega arith in let e = ap (λ j. range_start t margin shifts j 0) same in let low = at.0 in absurd (omega (arith, e, low, before))) ])
      | inr low ↦ elim (cases_lt s (range_start t margin shifts n (row_count t))) [
        | inl high ↦ inl (n, omega arith, (low, high))
        | inr after ↦ inr (λ k known at. elim (cases_lt k n) [ inl less ↦ none k less at | inr last ↦ (let same : k ≡ n = omega arith in let e = ap (λ j. range_start t margin shifts j (row_count t)) same in let high = at.1 in absurd (omega (arith, e, high, after))) ])
      ]
    ]
  ]

  -- all slabs of a cutting
  module _ (bounds : List ℕ) (cutting : IsCutting bounds) (fits : rows_of bounds ≡ row_count t) where
    rows_known : (k : ℕ) → k < slabs_of bounds → end_row bounds k ≤ row_count t
    rows_known k known = let last = end_known bounds cutting k known in omega (arith, last, fits)

    rows_rise : (k : ℕ) → k < slabs_of bounds → first_row bounds k ≤ end_row bounds k
    rows_rise k known = let rise = cutting.rises k known in omega (arith, rise)

    pub slab_is : (slots : List ℤ) → length slots ≡ q * array_size t margin → (k : ℕ) → k < slabs_of bounds → IsSlab t q (slab_rows bounds k) (lent t margin shifts (slab_rows bounds k) slots)
    slab_is slots whole k known = record {
      some = cutting.rises k known;
      inside = rows_known k known;
      sized = lent_sized (first_row bounds k) (end_row bounds k) (rows_rise k known) (rows_known k known) slots whole;
    }

    -- a slab has a cell
    pub slab_cell : (k : ℕ) → k < slabs_of bounds → InRows t (slab_rows bounds k) (first_row bounds k * t.nx)
    slab_cell k known =
        let rise = cutting.rises k known in let some = space.some_x in let more : (first_row bounds k + 1) * t.nx ≤ end_row bounds k * t.nx = mul-le-mul_right t.nx (omega (arith, rise)) in
        rows_cells t space (slab_rows bounds k) (first_row bounds k) (end_row bounds k) (first_row bounds k * t.nx) (rows_known k known) (omega arith) (omega arith) (omega arith) (omega (arith, some, more))

    pub region_collided : (sound : ℕ → (ℕ → ℤ) → Bool) (post : ℕ → (ℕ → ℤ) → ℕ → ℤ) (source : ℕ × ℕ → Ranges → ℕ → ℕ → ℤ) (writes : List ℕ) (before : ℕ → ℕ → ℤ) (xs ys : List ℤ) (answer : Option ℕ)
        → IsTable q writes → length xs ≡ q * array_size t margin → length ys ≡ q * array_size t margin → AreLent t margin shifts bounds
        → InEachSlab t margin shifts bounds xs (λ rows ranges cell. (i : ℕ) → i < q → source rows ranges cell i ≡ before cell i)
        → IsForked (λ piece rows old result new. InColumns sound post q source writes t rows (rows.0 * t.nx) (rows.1 * t.nx) old new result) t margin shifts bounds xs ys answer
        → ((s : ℕ) → ((k : ℕ) → k < length shifts → IsLent t margin shifts k 0 (row_count t) s → ⊥) → held ys s ≡ held xs s)
        → IsCollided sound post q before (λ cell i. range_slot t margin shifts (slice_index writes i) cell) (HasSlot t margin shifts q) 0 (cells t) (held xs) (held ys) answer
    region_collided sound post source writes before xs ys answer table whole_xs whole_ys lents same did others =
        let all : IsCollided sound post q before W' (HasSlot t margin shifts q) (B 0) (B (length did.answers)) (held xs) (held ys) (Rattle.lbm_arrays.specs.Least.least did.answers) =
        parts_collide sound post q before W' (HasSlot t margin shifts q) (λ k. Owns (first_row bounds k) (end_row bounds k)) B did.answers (held xs) (held ys)
        (λ k l. mul-le-mul_right t.nx (rows_rise k (known k l)))
        (λ k l. slab_part sound post source writes table before xs ys whole_xs whole_ys (first_row bounds k) (end_row bounds k) (get_or did.answers k None) (rows_rise k (known k l)) (rows_known k (known k l))
        (λ cell i here less. same k cell (known k l) here i less) (did.done k (known k l)))
        cover in
        subst (λ (b : (ℕ × ℕ) × Option ℕ). IsCollided sound post q before W' (HasSlot t margin shifts q) b.0.0 b.0.1 (held xs) (held ys) b.1) (λ i. ((from_zero i, to_end i), sym did.is_least i)) all
      where
        W' : ℕ → ℕ → ℕ
        W' cell i = range_slot t margin shifts (slice_index writes i) cell

        B : ℕ → ℕ
        B k = slice_index bounds k * t.nx

        known : (k : ℕ) → k < length did.answers → k < slabs_of bounds
        known k l = let many = did.count in omega (arith, l, many)

        from_zero : B 0 ≡ 0
        from_zero = ap (λ r. r * t.nx) cutting.begins ∙ omega arith

        to_end : B (length did.answers) ≡ cells t
        to_end = ap B did.count ∙ ap (λ r. r * t.nx) fits ∙ omega arith

        cover : (s : ℕ) → ((k : ℕ) × (k < length did.answers) × Owns (first_row bounds k) (end_row bounds k) s) ⊎ (held ys s ≡ held xs s)
        cover s = elim (lent_or_not s q) [
          | inr none ↦ inr (others s (λ k l at. none k (omega (arith, l, count)) at))
          | inl found ↦ (
              let j = found.0 in let below = found.1 in let many = did.count in
              let part = (lents.covers j s (omega (arith, below, count))).0 found.2 in let l = part.1 in
              inl (part.0, omega (arith, l, many), (j, below, part.2)))
        ]
