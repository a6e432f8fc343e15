-- What the cells of a slab take from the lattice that is read.
use Rattle.std.proofs.Common.{◌≡◌, ℕ, ◌+◌, ◌-◌, ◌*◌, ◌<◌, ◌≤◌, List, ℤ, pos, slice_index, sym, ap, ◌∙◌, arith}
use Rattle.std.specs.Prelude.{slice_index_or}
use Rattle.std.proofs.lemmas.Int.{ints}
use Rattle.lbm_space.specs.Stencil.{Stencil, IsVelocitySet}
use Rattle.lbm_space.specs.Torus.{Torus, IsSpace, padded, rows as row_count}
use Rattle.lbm_space.specs.Padded.{row_start}
use Rattle.lbm_arrays.specs.Arrays.{held}
use Rattle.lbm_arrays.proofs.Behind.{place_behind_is}
use Rattle.lbm_arrays.proofs.Slots.{up_to}
use Rattle.lbm_walk.specs.Places.{InRows, local}
use Rattle.lbm_walk.proofs.Places.{local_within}
use Rattle.lbm_sweep.proofs.Places.{behind_between}
use Rattle.lbm_two.specs.Behind.{slot_behind, AreBehind, AreThere}

-- own            the source's space
-- told, start    the slab's rows and where they begin, as the code reads them
module _ (t : Torus) (space : IsSpace t) (v : Stencil) (laws : IsVelocitySet v) (own : Torus) (same : own ≡ t) (dimension : v.dimension ≡ own.dimension) (rows : ℕ × ℕ) (some : rows.0 < rows.1) (inside : rows.1 ≤ row_count t)
    (told : ℕ × ℕ) (is : told ≡ rows) (start : ℕ) (begins : start ≡ row_start t told.0) (starts : List ℕ) (behind : AreBehind t v (start + 1) v.directions starts) where
  fits : v.dimension ≡ t.dimension
  fits = dimension ∙ ap (λ (u : Torus). u.dimension) same

  begin : start ≡ row_start t rows.0
  begin = begins ∙ ap (λ (r : ℕ × ℕ). row_start t r.0) is

  -- each cell finds its populations as many slots behind those of the first cell as it stands behind it
  start_at : (i x : ℕ) → i < v.directions → InRows t rows x → slice_index starts i + (local t rows x - 1) ≡ slot_behind t v x i
  start_at i x known here =
      let within = local_within t space rows inside x here in let inner = within.0 in let whole = within.1 in
      let at = behind i known in let place = place_behind_is t space v laws fits i known x here.known in
      omega (arith, ints, at, place, whole, inner, begin)

  pub starts_taken : (numbers : List ℤ) (i x : ℕ) → i < v.directions → InRows t rows x → slice_index_or numbers (slice_index starts i + (local t rows x - 1)) (pos 0) ≡ held numbers (slot_behind own v x i)
  starts_taken numbers i x known here = ap (held numbers) (start_at i x known here) ∙ (λ j. held numbers (slot_behind (sym same j) v x i))

  -- all places of the slab from the first cell's to the last cell's have slots there
  pub starts_there : (len count : ℕ) → len ≡ row_start t rows.1 - row_start t rows.0 → count ≡ v.directions * padded own → AreThere v.directions starts len count
  starts_there len count long many = λ i p known inner fit.
      let between = behind_between t space v laws fits i rows.0 rows.1 p known some inside inner (omega (arith, fit, long)) in let low = between.0 in let high = between.1 in
      let at = behind i known in let next = up_to i v.directions (padded t) known in let many' : count ≡ v.directions * padded t = many ∙ ap (λ (u : Torus). v.directions * padded u) same in
      omega (arith, ints, at, low, high, next, begin, many', inner)
