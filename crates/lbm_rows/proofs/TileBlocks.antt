-- Eight cells of a row of a tile: what is left where they have put a direction, and once they are done.
use Rattle.std.proofs.Common.{◌≡◌, ◌≢◌, ◌⊎◌, ℕ, zero, suc, ◌+◌, ◌-◌, ◌<◌, ◌≤◌, inl, inr, List, ℤ, pos, length, slice_index, take, refl, ap, sym, subst, ◌∙◌, arith}
use Rattle.std.specs.Prelude.{slice_index_or}
use Rattle.std.proofs.lemmas.Bool.{cases_eq}
use Rattle.lbm_space.specs.Stencil.{Stencil, IsVelocitySet, opposite}
use Rattle.lbm_cell.specs.Rows.{entry}
use Rattle.lbm_arrays.specs.Ranges.{with_run}
use Rattle.lbm_arrays.proofs.Runs.{length-with_run, run_elsewhere}
use Rattle.lbm_sweep.specs.Blocks.{IsSized}
use Rattle.lbm_sweep.proofs.Written.{run_here, run_off, run_other, run_sized}
use Rattle.lbm_rows.specs.declared.ways.Ways.{Ways}
use Rattle.lbm_rows.specs.TileRows.{takes, puts, stands, AreCells, HasRow, IsAlike, IsExchange, IsSameBut}

-- what holds of the kept rows that a holder had holds of those that come back
pub but_as : (v : Stencil) (w : Ways) (row low high : ℕ) (old new last : List (List ℤ)) → last ≡ new → IsSameBut v w row low high old new → IsSameBut v w row low high old last
but_as v w row low high old new last same but = subst (IsSameBut v w row low high old) (sym same) but

pub kept_as : (old new last : List (List ℤ)) → last ≡ new → new ≡ old → last ≡ old
kept_as old new last same is = same ∙ is

-- a place past the first is a slot
stands_in : (kept : List (List ℤ)) (k first p : ℕ) → 0 < p → stands kept k first p ≡ entry kept k (first + (p - 1))
stands_in kept k first zero some = absurd (omega arith)
stands_in kept k first (suc p) some = let e : p ≡ suc p - 1 = omega arith in ap (λ (n : ℕ). entry kept k (first + n)) e

module _ (v : Stencil) (laws : IsVelocitySet v) (w : Ways) (row width at : ℕ) (kept : List (List ℤ)) (cells : AreCells width at 8) (has : HasRow v w row width kept) (exchange : IsExchange v w)
    (dir : ℕ) (known_dir : dir < v.directions) (lanes : List ℤ) (long : length lanes ≡ 8) (now : List (List ℤ)) (written : now ≡ with_run kept (puts w row dir) (slice_index w.to dir + (at - 1)) (take 8 lanes)) where
  abbrev turned : ℕ
  turned = opposite v dir

  abbrev first : ℕ
  first = slice_index w.to dir + (at - 1)

  abbrev new : List (List ℤ)
  new = with_run kept (puts w row dir) first (take 8 lanes)

  here : puts w row dir < length kept
  here = let e = exchange.puts dir known_dir in let h = has.known turned (exchange.opposites dir known_dir) in omega (arith, e, h)

  fits : first + 8 ≤ width + 2
  fits = let e = exchange.to dir known_dir in let s = exchange.starts turned (exchange.opposites dir known_dir) in let a = cells.inner in let b = cells.fits in omega (arith, e, s)

  enough : 8 ≤ length lanes
  enough = omega (arith, long)

  pub put_here : (j : ℕ) → j < 8 → stands now (puts w row dir) (slice_index w.to dir) (at + j) ≡ slice_index_or lanes j (pos 0)
  put_here j lane =
      let some = cells.inner in let e : slice_index w.to dir + (at + j - 1) ≡ first + j = omega arith in
      ap (λ (rows : List (List ℤ)). stands rows (puts w row dir) (slice_index w.to dir) (at + j)) written
      ∙ stands_in new (puts w row dir) (slice_index w.to dir) (at + j) (omega arith)
      ∙ ap (entry new (puts w row dir)) e
      ∙ run_here kept (puts w row dir) first 8 (length kept) (width + 2) lanes has.sized here fits enough j lane

  -- no other direction is put into the same kept row
  apart : (i : ℕ) → i < v.directions → i ≢ dir → puts w row i ≢ puts w row dir
  apart i known ne same =
      let a = exchange.puts i known in let b = exchange.puts dir known_dir in
      let takes_same : slice_index w.takes (opposite v i) ≡ slice_index w.takes turned = omega (arith, a, b, same) in
      let opposites : opposite v i ≡ turned = exchange.distinct (opposite v i) turned (exchange.opposites i known) (exchange.opposites dir known_dir) takes_same in
      ne (sym (laws.opposite_twice i known) ∙ ap (opposite v) opposites ∙ laws.opposite_twice dir known_dir)

  elsewhere : (k s p : ℕ) → k ≢ puts w row dir → stands new k s p ≡ stands kept k s p
  elsewhere k s zero ne = refl
  elsewhere k s (suc p) ne = run_other kept (puts w row dir) first 8 (length kept) (width + 2) lanes has.sized here fits enough k (s + p) ne

  pub put_others : (i p : ℕ) → i < v.directions → i ≢ dir → stands now (puts w row i) (slice_index w.to i) p ≡ stands kept (puts w row i) (slice_index w.to i) p
  put_others i p known ne =
      ap (λ (rows : List (List ℤ)). stands rows (puts w row i) (slice_index w.to i) p) written ∙ elsewhere (puts w row i) (slice_index w.to i) p (apart i known ne)

  -- the places beside the eight are as they were
  beside : (i p : ℕ) → i < v.directions → (p < at) ⊎ (at + 8 ≤ p) → stands new (takes w row i) (slice_index w.from i) p ≡ stands kept (takes w row i) (slice_index w.from i) p
  beside i zero known off = refl
  beside i (suc p) known off = elim (cases_eq (takes w row i) (puts w row dir)) [
    | inr other ↦ run_other kept (puts w row dir) first 8 (length kept) (width + 2) lanes has.sized here fits enough (takes w row i) (slice_index w.from i + p) other
    | inl same ↦ (let b = exchange.puts dir known_dir in let takes_same : slice_index w.takes i ≡ slice_index w.takes turned = omega (arith, b, same) in
        let is : i ≡ turned = exchange.distinct i turned known (exchange.opposites dir known_dir) takes_same in
        let start : slice_index w.from i ≡ slice_index w.to dir = ap (slice_index w.from) is ∙ sym (exchange.to dir known_dir) in let some = cells.inner in
        run_off kept (puts w row dir) first 8 (length kept) (width + 2) lanes has.sized here fits enough (takes w row i) (slice_index w.from i + p)
        (elim off [ inl low ↦ inl (omega (arith, start, low)) | inr high ↦ inr (omega (arith, start, high)) ]))
  ]

  sized : IsSized (length kept) (width + 2) new
  sized = run_sized kept (puts w row dir) first 8 (length kept) (width + 2) lanes has.sized here fits enough

  alike : IsAlike v w row kept new
  alike = record {
    count = length-with_run kept (puts w row dir) first (take 8 lanes);
    lengths = λ j. elim (cases_eq j (puts w row dir)) [
      | inl same ↦ (let known : j < length kept = omega (arith, same, here) in sized.lengths j known ∙ sym (has.sized.lengths j known))
      | inr other ↦ ap length (run_elsewhere kept (puts w row dir) first j (take 8 lanes) other)
    ];
    beside = λ j off. run_elsewhere kept (puts w row dir) first j (take 8 lanes) (λ same. off turned (exchange.opposites dir known_dir) (let b = exchange.puts dir known_dir in omega (arith, b, same)));
  }

  pub put_but : IsSameBut v w row at (at + 8) kept now
  put_but = subst (IsSameBut v w row at (at + 8) kept) (sym written) (record { alike = alike; others = beside })
