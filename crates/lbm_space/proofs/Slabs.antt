-- The slabs of a cutting.
use Rattle.std.proofs.Common.{◌≡◌, ℕ, zero, suc, ◌+◌, ◌-◌, ◌*◌, ◌/◌, ◌<◌, ◌≤◌, min, List, [], ◌∷◌, ◌++◌, length, slice_index, refl, ap, ◌∙◌, subst, inl, inr, arith}
use Rattle.std.proofs.lemmas.Bool.{cases_lt}
use Rattle.std.proofs.lemmas.Nat.{le-div, div-mul-add}
use Rattle.std.proofs.Math.Nat.{zero-div}
use Rattle.std.proofs.lemmas.List.{get_or_append_left}
use Rattle.std.proofs.Math.Seq.{get_or-append_seam}
use Rattle.std.proofs.Common.{length-append}
use Rattle.lbm_space.specs.Torus.{Torus, IsSpace, rows, padded}
use Rattle.lbm_space.specs.Cuttings.{slabs_of, first_row, end_row, rows_of, IsCutting, IsInOneSlab, IsEven, row_before, IsGoodCut}
use Rattle.lbm_space.specs.Padded.{row_start}
use Rattle.lbm_space.proofs.RowStarts.{row_start_rises, row_start_inside}

module _ (bounds : List ℕ) (cutting : IsCutting bounds) where
  -- a later bound is no lower
  pub bounds_rise : (a b : ℕ) → a ≤ b → b < length bounds → slice_index bounds a ≤ slice_index bounds b
  bounds_rise a zero up known = let same : a ≡ 0 = omega arith in rw same (omega arith)
  bounds_rise a (suc b) up known = elim (cases_lt b a) [
    | inl equal ↦ (let same : a ≡ suc b = omega arith in rw same (omega arith))
    | inr more ↦ (
        let before = bounds_rise a b more (omega arith) in let step = cutting.rises b (omega arith) in
        let next : b + 1 ≡ suc b = omega arith in let value = ap (slice_index bounds) next in omega arith)
  ]

  -- a slab's rows are rows of the whole
  pub end_known : (k : ℕ) → k < slabs_of bounds → end_row bounds k ≤ rows_of bounds
  end_known k known = let some = cutting.some in bounds_rise (k + 1) (slabs_of bounds) (omega arith) (omega arith)

  -- each row is in a slab
  pub slab_of_row : (row : ℕ) → row < rows_of bounds → (k : ℕ) × (k < slabs_of bounds) × (first_row bounds k ≤ row) × (row < end_row bounds k)
  slab_of_row row known = below (slabs_of bounds) (omega arith) known
    where
      below : (n : ℕ) → n ≤ slabs_of bounds → row < slice_index bounds n → (k : ℕ) × (k < slabs_of bounds) × (first_row bounds k ≤ row) × (row < end_row bounds k)
      below zero few inside = let begins = cutting.begins in absurd (omega arith)
      below (suc n) few inside = elim (cases_lt row (slice_index bounds n)) [
        | inl earlier ↦ below n (omega arith) earlier
        | inr here ↦ (let next : suc n ≡ n + 1 = omega arith in (n, omega arith, here, subst (λ (m : ℕ). row < slice_index bounds m) next inside))
      ]

  -- and in no other
  pub one_slab : (j k row : ℕ) → j < slabs_of bounds → k < slabs_of bounds → first_row bounds j ≤ row → row < end_row bounds j → first_row bounds k ≤ row → row < end_row bounds k → j ≡ k
  one_slab j k row known_j known_k low_j high_j low_k high_k = elim (cases_lt j k) [
    | inl less ↦ (let rise = bounds_rise (j + 1) k (omega arith) (omega arith) in absurd (omega arith))
    | inr more ↦ elim (cases_lt k j) [
      | inl less ↦ (let rise = bounds_rise (k + 1) j (omega arith) (omega arith) in absurd (omega arith))
      | inr same ↦ omega arith
    ]
  ]

  pub in_one_slab : (row : ℕ) → row < rows_of bounds → IsInOneSlab bounds row
  in_one_slab row known = let here = slab_of_row row known in record {
    slab = here.0;
    known = here.1;
    holds = (here.2, here.3);
    only = λ k inside holds. one_slab k here.0 row inside here.1 holds.0 holds.1 here.2 here.3;
  }

-- a space has no more rows than padded places
pub rows_below_padded : (t : Torus) → IsSpace t → rows t ≤ padded t
rows_below_padded t space =
    let rise = row_start_rises t space 0 (rows t) (omega arith) (omega arith) in let room = row_start_inside t space (rows t) (omega arith) in
    let none : rows t - 0 ≡ rows t = omega arith in
    let count : row_start t 0 + rows t * (t.nx + 2) ≤ row_start t (rows t) = rw none at rise in
    omega arith

-- an even division makes a cutting
pub even_rises : (rows slabs k : ℕ) → 0 < slabs → slabs ≤ rows → k * rows / slabs < (k + 1) * rows / slabs
even_rises rows slabs k some few =
    let q = Rattle.std.proofs.lemmas.Nat.div-add-mod' (k * rows) slabs in
    let more : (k * rows / slabs + 1) * slabs ≤ (k + 1) * rows = omega arith in
    let up = le-div (k * rows / slabs + 1) ((k + 1) * rows) slabs some more in
    omega arith

pub cutting_from_even : (rows workers : ℕ) (bounds : List ℕ) → 0 < rows → 0 < workers → IsEven rows workers bounds → IsCutting bounds
cutting_from_even rows workers bounds some work even =
    let slabs : ℕ = min workers rows in let count = even.count in
    record {
      some = omega arith;
      begins = let e = even.firsts 0 (omega arith) in let none : 0 * rows ≡ 0 = omega arith in e ∙ rw none (zero-div slabs);
      rises = λ k known. let a = even.firsts k (omega arith) in let b = even.firsts (k + 1) (omega arith) in let up = even_rises rows slabs k (omega arith) (omega arith) in omega arith;
    }

pub rows_from_even : (rows workers : ℕ) (bounds : List ℕ) → 0 < rows → 0 < workers → IsEven rows workers bounds → rows_of bounds ≡ rows
rows_from_even rows workers bounds some work even =
    let slabs : ℕ = min workers rows in let count = even.count in
    let last : length bounds - 1 ≡ slabs = omega arith in
    let whole : slabs * rows ≡ rows * slabs + 0 = omega arith in
    ap (slice_index bounds) last ∙ even.firsts slabs (omega arith) ∙ rw whole (div-mul-add rows slabs 0 (omega arith))

-- so do first rows that rise
pub cutting_from_rows : (rows : ℕ) (entries : List ℕ) → 0 < rows → ((k : ℕ) → k < length entries → IsGoodCut rows entries k) → IsCutting (0 ∷ entries ++ rows ∷ [])
cutting_from_rows rows entries some good = record {
  some = let e = length-append entries (rows ∷ []) in omega arith;
  begins = refl;
  rises = λ k known.
      let e = length-append entries (rows ∷ []) in
      let next : slice_index (0 ∷ entries ++ rows ∷ []) (k + 1) ≡ slice_index (entries ++ rows ∷ []) k = let s : k + 1 ≡ suc k = omega arith in rw s refl in
      let here : slice_index (0 ∷ entries ++ rows ∷ []) k ≡ row_before entries k = get_or_append_left (0 ∷ entries) (rows ∷ []) 0 k (omega arith) in
      elim (cases_lt k (length entries)) [
        | inl entry ↦ (let there = get_or_append_left entries (rows ∷ []) 0 k entry in let up = (good k entry).0 in omega arith)
        | inr last ↦ (
            let end : k ≡ length entries = omega arith in
            let there : slice_index (entries ++ rows ∷ []) k ≡ rows = rw end (get_or-append_seam entries rows [] 0) in
            let low : row_before entries k < rows = rw end (last_below entries good) in
            omega arith)
      ];
}
  where
    last_below : (es : List ℕ) → ((j : ℕ) → j < length es → IsGoodCut rows es j) → row_before es (length es) < rows
    last_below [] none = some
    last_below (x ∷ es) all = (all (length es) (omega arith)).1

pub rows_from_rows : (rows : ℕ) (entries : List ℕ) → rows_of (0 ∷ entries ++ rows ∷ []) ≡ rows
rows_from_rows rows entries =
    let e = length-append entries (rows ∷ []) in
    let last : length (0 ∷ entries ++ rows ∷ []) - 1 ≡ length (0 ∷ entries) = omega arith in
    ap (slice_index (0 ∷ entries ++ rows ∷ [])) last ∙ get_or-append_seam (0 ∷ entries) rows [] 0
