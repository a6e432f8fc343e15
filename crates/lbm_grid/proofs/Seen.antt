-- What the slabs' cells see before a sweep is what the slots hold behind them.
use Rattle.std.proofs.Common.{◌≡◌, ◌⊎◌, ℕ, ◌+◌, ◌-◌, ◌*◌, ◌<◌, ◌≤◌, Bool, true, false, List, length, ℤ, pos, ◌-ℤ◌, unsigned_abs, inl, inr, refl, ap, ◌∙◌, lt-ltb, le-ltb, arith}
use Rattle.std.specs.Prelude.{◌≤ℤ◌}
use Rattle.std.proofs.lemmas.Bool.{cases_lt}
use Rattle.std.proofs.lemmas.Int.{ints}
use Rattle.lbm_space.specs.Stencil.{Stencil, IsVelocitySet, velocity}
use Rattle.lbm_space.specs.Torus.{Torus, IsSpace, rows as row_count}
use Rattle.lbm_space.specs.Padded.{offset, padded_index, reach, row_start}
use Rattle.lbm_space.specs.Cuttings.{slabs_of, first_row, end_row, rows_of, IsCutting}
use Rattle.lbm_space.proofs.Offsets.{offset_least, offset_most}
use Rattle.lbm_space.proofs.RowStarts.{cell_between}
use Rattle.lbm_arrays.specs.Arrays.{array_size, held}
use Rattle.lbm_arrays.specs.Pads.{place_slot}
use Rattle.lbm_arrays.specs.LentRanges.{range_start, lent, slab_rows, AreInside}
use Rattle.lbm_arrays.specs.Steps.{step_shifts, place_behind, HasRoom}
use Rattle.lbm_arrays.proofs.Moves.{length-shifts, get-shifts, shifts_inside}
use Rattle.lbm_cell.specs.Rows.{entry}
use Rattle.lbm_walk.specs.Places.{local}
use Rattle.lbm_sweep.specs.Regions.{InEachSlab}
use Rattle.lbm_sweep.proofs.Places.{behind_between}
use Rattle.lbm_sweep.proofs.Regions.{slab_is, lent_entry}
use Rattle.lbm_grid.specs.declared.reading.Reading.{Reading}
use Rattle.lbm_grid.specs.Strips.{room_at, AreRooms, AreSaved}
use Rattle.lbm_grid.specs.Near.{far_of, read_place, reading_of, seen, taken_near, IsNear}
use Rattle.lbm_grid.specs.Sweeps.{base_of, step_of}
use Rattle.lbm_grid.proofs.There.{in_strip, lent_near}
use Rattle.lbm_grid.proofs.Rooms.{room_inside}

-- what is seen, in its two cases
pub seen_off : (rises : Bool) (saved : List ℤ) (ranges : List (List ℤ)) (k : ℕ) (r : Reading) (p : ℕ) → (p < r.first) ⊎ (r.past ≤ p) → seen rises saved ranges k r p ≡ entry ranges k (read_place rises r.far p)
seen_off rises saved ranges k r p off = elim (cases_lt p r.first) [
  | inl low ↦ rw (lt-ltb p r.first low) refl
  | inr from ↦ (let past : r.past ≤ p = elim off [ inl low ↦ absurd (omega (arith, low, from)) | inr past ↦ past ] in rw (le-ltb p r.first from) rw (le-ltb p r.past past) refl)
]

pub seen_in : (rises : Bool) (saved : List ℤ) (ranges : List (List ℤ)) (k : ℕ) (r : Reading) (p : ℕ) → r.first ≤ p → p < r.past → seen rises saved ranges k r p ≡ held saved (r.at + (p - r.first))
seen_in rises saved ranges k r p low high = rw (le-ltb p r.first low) rw (lt-ltb p r.past high) refl

seen_is : (rises : Bool) (saved : List ℤ) (ranges : List (List ℤ)) (k : ℕ) (r : Reading) (p : ℕ) (z : ℤ) → ((p < r.first) ⊎ (r.past ≤ p) → entry ranges k (read_place rises r.far p) ≡ z) → (r.first ≤ p → p < r.past → held saved (r.at + (p - r.first)) ≡ z) → seen rises saved ranges k r p ≡ z
seen_is rises saved ranges k r p z in_range in_strip = elim (cases_lt p r.first) [
  | inl low ↦ seen_off rises saved ranges k r p (inl low) ∙ in_range (inl low)
  | inr from ↦ elim (cases_lt p r.past) [
    | inl high ↦ seen_in rises saved ranges k r p from high ∙ in_strip from high
    | inr past ↦ seen_off rises saved ranges k r p (inr past) ∙ in_range (inr past)
  ]
]

module _ (t : Torus) (space : IsSpace t) (v : Stencil) (laws : IsVelocitySet v) (fits : v.dimension ≡ t.dimension) where
  -- the margin is enough for either way
  pub has_room : (rises : Bool) → HasRoom t v (step_of rises) (reach t v) (base_of rises (reach t v))
  has_room true = (omega arith, omega arith)
  has_room false = omega arith

  pub inside_moved : (rises : Bool) → AreInside t (reach t v) (step_shifts t v (step_of rises) (base_of rises (reach t v)))
  inside_moved rises = shifts_inside t space v laws fits (step_of rises) (base_of rises (reach t v)) (reach t v) (has_room rises)

  -- the place that a cell reads, in its slab's range
  lent_place : (rises : Bool) (a b k p : ℕ) → k < v.directions → (rises ≡ false → far_of t v rises k ≤ p) → pos 0 ≤ℤ (pos (row_start t a + p) -ℤ offset t (velocity v k))
      → range_start t (reach t v) (step_shifts t v (step_of rises) (base_of rises (reach t v))) k a + read_place rises (far_of t v rises k) p
      ≡ place_slot t (reach t v) k (base_of rises (reach t v)) (unsigned_abs (pos (row_start t a + p) -ℤ offset t (velocity v k)))
  lent_place true a b k p known low front =
      let value = get-shifts t space v laws fits (step_of true) (reach t v) k known in let most = offset_most t space v laws fits k known in
      omega (arith, ints, value, most, front)
  lent_place false a b k p known low front =
      let value = get-shifts t space v laws fits (step_of false) 0 k known in let least = offset_least t space v laws fits k known in let far = low refl in
      omega (arith, ints, value, least, front, far)

  module _ (rises : Bool) (bounds begins : List ℕ) (width : ℕ) (kept slots : List ℤ) (cutting : IsCutting bounds) (all : rows_of bounds ≡ row_count t) (rooms : AreRooms t v bounds begins width (length kept))
      (whole : length slots ≡ v.directions * array_size t (reach t v)) where
    abbrev moved : List ℤ
    moved = step_shifts t v (step_of rises) (base_of rises (reach t v))

    -- each slab's source is ready
    pub near_ready : InEachSlab t (reach t v) moved bounds slots (λ rows ranges cell. IsNear t v begins width (length kept) rows ranges)
    near_ready j cell slab here =
        let is = slab_is t space (reach t v) moved (inside_moved rises) v.directions (length-shifts t v (step_of rises) (base_of rises (reach t v))) bounds cutting all slots whole j slab in
        record {
          space = space;
          set = laws;
          dimension = fits;
          some = is.some;
          inside = is.inside;
          sized = is.sized;
          count = rooms.count;
          room = room_inside t v bounds begins width (length kept) rooms j slab;
          whole = rooms.whole;
        }

    -- and gives each cell what the slots held
    pub near_taken : AreSaved t v rises bounds begins width (reach t v) (base_of rises (reach t v)) (slabs_of bounds) slots kept
        → InEachSlab t (reach t v) moved bounds slots (λ rows ranges cell. (k : ℕ) → k < v.directions → taken_near t v rises begins width kept rows ranges cell k ≡ held slots (place_slot t (reach t v) k (base_of rises (reach t v)) (place_behind t (velocity v k) cell)))
    near_taken saved j cell slab here k known =
        let a = first_row bounds j in let b = end_row bounds j in
        let is = slab_is t space (reach t v) moved (inside_moved rises) v.directions (length-shifts t v (step_of rises) (base_of rises (reach t v))) bounds cutting all slots whole j slab in
        let some = is.some in let p : ℕ = local t (a, b) cell in
        let between = cell_between t space a b cell is.inside here.known here.low here.high in let after = between.0 in let before = between.1 in
        let inner : 0 < p = omega (arith, after) in let fit : p + 1 < row_start t b - row_start t a = omega (arith, after, before) in
        let own : row_start t a + p ≡ padded_index t cell = omega (arith, after) in
        let back : unsigned_abs (pos (row_start t a + p) -ℤ offset t (velocity v k)) ≡ place_behind t (velocity v k) cell = ap (λ (n : ℕ). unsigned_abs (pos n -ℤ offset t (velocity v k))) own in
        let front = (behind_between t space v laws fits k a b p known some is.inside inner fit).0 in
        seen_is rises kept (lent t (reach t v) moved (slab_rows bounds j) slots) k (reading_of t v rises begins width (a, b) k) p _
        (λ off.
        let at = lent_near t space v laws fits a b some is.inside k known p inner fit rises begins width off in
        lent_entry t space (reach t v) moved (inside_moved rises) v.directions (length-shifts t v (step_of rises) (base_of rises (reach t v))) a b (omega (arith, some)) is.inside slots whole k _ known at.1
        ∙ ap (held slots) (lent_place rises a b k p known at.0 front)
        ∙ ap (λ (n : ℕ). held slots (place_slot t (reach t v) k (base_of rises (reach t v)) n)) back)
        (λ low high.
        let at = in_strip t space v laws fits a b some is.inside k known p inner fit rises begins width low high in
        ap (λ (n : ℕ). held kept (room_at begins width k a + n)) at.2
        ∙ saved.saved j k (unsigned_abs (pos (row_start t a + p) -ℤ offset t (velocity v k))) slab known at.0 at.1
        ∙ ap (λ (n : ℕ). held slots (place_slot t (reach t v) k (base_of rises (reach t v)) n)) back)
