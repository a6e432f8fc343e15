-- Where the slabs of a cutting begin, counted from the first row's start.
use Rattle.std.proofs.Common.{◌≡◌, ℕ, ◌<◌, ◌≤◌, List, length, slice_index, ap, ◌∙◌, arith}
use Rattle.std.proofs.lemmas.List.{length-map, get_or-map}
use Rattle.lbm_space.specs.Torus.{Torus, IsSpace, rows}
use Rattle.lbm_space.specs.Cuttings.{slabs_of, rows_of, IsCutting}
use Rattle.lbm_space.proofs.RowStarts.{row_start_rises}
use Rattle.lbm_space.proofs.Slabs.{bounds_rise}
use Rattle.lbm_arrays.specs.Forked.{mark, marks_of}

pub length-marks : (t : Torus) (bounds : List ℕ) → length (marks_of t bounds) ≡ length bounds
length-marks t bounds = length-map bounds (mark t)

pub get-marks : (t : Torus) (bounds : List ℕ) (k : ℕ) → k < length bounds → slice_index (marks_of t bounds) k ≡ mark t (slice_index bounds k)
get-marks t bounds k known = get_or-map (mark t) bounds k 0 0 known

module _ (t : Torus) (space : IsSpace t) (bounds : List ℕ) (cutting : IsCutting bounds) (fits : rows_of bounds ≡ rows t) where
  -- each bound is a row, or the number of rows
  pub bound_known : (k : ℕ) → k < length bounds → slice_index bounds k ≤ rows t
  bound_known k known = let some = cutting.some in let up = bounds_rise bounds cutting k (slabs_of bounds) (omega arith) (omega arith) in omega arith

  pub marks_rise : (a b : ℕ) → a ≤ b → b < length (marks_of t bounds) → slice_index (marks_of t bounds) a ≤ slice_index (marks_of t bounds) b
  marks_rise a b up known =
      let long = length-marks t bounds in
      let rise = bounds_rise bounds cutting a b up (omega arith) in
      let start = row_start_rises t space (slice_index bounds a) (slice_index bounds b) rise (bound_known b (omega arith)) in
      let at_a = get-marks t bounds a (omega arith) in let at_b = get-marks t bounds b (omega arith) in
      omega arith

  pub first_mark : slice_index (marks_of t bounds) 0 ≡ 0
  first_mark = let some = cutting.some in let at = get-marks t bounds 0 (omega arith) in let zero = ap (mark t) cutting.begins in at ∙ zero ∙ omega arith

  pub last_mark : slice_index (marks_of t bounds) (slabs_of bounds) ≡ mark t (rows t)
  last_mark = let some = cutting.some in get-marks t bounds (slabs_of bounds) (omega arith) ∙ ap (mark t) fits
