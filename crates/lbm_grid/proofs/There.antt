-- What cells take is there: in their slab's range, or in what their slab has saved.
use Rattle.std.proofs.Common.{◌≡◌, ◌⊎◌, ℕ, ◌+◌, ◌-◌, ◌*◌, ◌<◌, ◌≤◌, Bool, true, false, List, ℤ, pos, ◌+ℤ◌, ◌-ℤ◌, unsigned_abs, sym, inl, inr, slice_index, subst, arith}
use Rattle.std.specs.Prelude.{◌≤ℤ◌}
use Rattle.std.proofs.lemmas.Int.{ints, clamps}
use Rattle.lbm_space.specs.Stencil.{Stencil, IsVelocitySet, velocity}
use Rattle.lbm_space.specs.Torus.{Torus, IsSpace, rows as row_count}
use Rattle.lbm_space.specs.Padded.{offset, row_start}
use Rattle.lbm_space.proofs.RowStarts.{row_start_rises, row_start_inside}
use Rattle.lbm_space.proofs.Offsets.{offset_most, offset_least}
use Rattle.lbm_arrays.proofs.Moves.{reach_high, reach_low, starts_apart}
use Rattle.lbm_arrays.proofs.Slots.{slot_below}
use Rattle.lbm_sweep.proofs.Places.{behind_between}
use Rattle.lbm_grid.specs.declared.reading.Reading.{Reading}
use Rattle.lbm_grid.specs.Strips.{strip_of, first_of, past_of, room_of}
use Rattle.lbm_grid.specs.Near.{read_place, reading_at, reading_of, AreThere, IsNear, IsThere}

module _ (t : Torus) (space : IsSpace t) (v : Stencil) (laws : IsVelocitySet v) (fits : v.dimension ≡ t.dimension) (a b : ℕ) (some : a < b) (inside : b ≤ row_count t) (k : ℕ) (known : k < v.directions) where
  -- a strip has room
  pub strip_fits : (rises : Bool) (p : ℕ) → first_of (strip_of t v rises k a b) ≤ p → p < past_of (strip_of t v rises k a b) → p - first_of (strip_of t v rises k a b) < room_of t v a b
  strip_fits true p low high =
      let most = offset_most t space v laws fits k known in let least = offset_least t space v laws fits k known in let near = reach_low t space v laws fits in
      let up = row_start_rises t space 0 a (omega arith) (omega arith) in let apart = starts_apart t space v laws fits a b some inside in
      omega (arith, ints, clamps, most, least, near, up, apart, low, high)
  strip_fits false p low high =
      let most = offset_most t space v laws fits k known in let least = offset_least t space v laws fits k known in let near = reach_low t space v laws fits in
      let up = row_start_rises t space 0 a (omega arith) (omega arith) in let apart = starts_apart t space v laws fits a b some inside in
      omega (arith, ints, clamps, most, least, near, up, apart, low, high)

  -- it lies in front of cells at or behind the first place of the slab
  pub strip_from : (rises : Bool) → (pos (row_start t a) ≤ℤ (pos (first_of (strip_of t v rises k a b)) +ℤ offset t (velocity v k))) × (pos (row_start t a) ≤ℤ (pos (past_of (strip_of t v rises k a b)) +ℤ offset t (velocity v k)))
  strip_from true =
      let most = offset_most t space v laws fits k known in let least = offset_least t space v laws fits k known in let near = reach_low t space v laws fits in let high = reach_high t space v laws fits in
      let up = row_start_rises t space 0 a (omega arith) (omega arith) in let rest = row_start_rises t space b (row_count t) inside (omega arith) in let apart = starts_apart t space v laws fits a b some inside in
      (omega (arith, ints, clamps, most, least, near, up, apart), omega (arith, ints, clamps, most, least, near, high, up, rest, apart))
  strip_from false =
      let most = offset_most t space v laws fits k known in let least = offset_least t space v laws fits k known in let near = reach_low t space v laws fits in
      let up = row_start_rises t space 0 a (omega arith) (omega arith) in let apart = starts_apart t space v laws fits a b some inside in
      (omega (arith, ints, clamps, most, least, near, up, apart), omega (arith, ints, clamps, most, least, near, up, apart))

  -- a place between the first and the last of the slab's
  module _ (p : ℕ) (inner : 0 < p) (fit : p + 1 < row_start t b - row_start t a) where
    -- the padded place behind it
    abbrev back : ℕ
    back = unsigned_abs (pos (row_start t a + p) -ℤ offset t (velocity v k))

    -- is a place of the strip where the reading says so
    pub in_strip : (rises : Bool) (begins : List ℕ) (width : ℕ) → (reading_of t v rises begins width (a, b) k).first ≤ p → p < (reading_of t v rises begins width (a, b) k).past
        → (first_of (strip_of t v rises k a b) ≤ back) × (back < past_of (strip_of t v rises k a b)) × (p - (reading_of t v rises begins width (a, b) k).first ≡ back - first_of (strip_of t v rises k a b))
    in_strip true begins width low high =
        let most = offset_most t space v laws fits k known in let least = offset_least t space v laws fits k known in let near = reach_low t space v laws fits in
        let up = row_start_rises t space 0 a (omega arith) (omega arith) in let apart = starts_apart t space v laws fits a b some inside in
        let place = behind_between t space v laws fits k a b p known some inside inner fit in let front = place.0 in let end = place.1 in
        (omega (arith, ints, clamps, most, least, near, up, apart, front, end, low, high), omega (arith, ints, clamps, most, least, near, up, apart, front, end, low, high), omega (arith, ints, clamps, most, least, near, up, apart, front, end, low, high))
    in_strip false begins width low high =
        let most = offset_most t space v laws fits k known in let least = offset_least t space v laws fits k known in let near = reach_low t space v laws fits in
        let up = row_start_rises t space 0 a (omega arith) (omega arith) in let apart = starts_apart t space v laws fits a b some inside in
        let place = behind_between t space v laws fits k a b p known some inside inner fit in let front = place.0 in let end = place.1 in
        (omega (arith, ints, clamps, most, least, near, up, apart, front, end, low, high), omega (arith, ints, clamps, most, least, near, up, apart, front, end, low, high), omega (arith, ints, clamps, most, least, near, up, apart, front, end, low, high))

    -- and else is lent
    pub lent_near : (rises : Bool) (begins : List ℕ) (width : ℕ) → (p < (reading_of t v rises begins width (a, b) k).first) ⊎ ((reading_of t v rises begins width (a, b) k).past ≤ p)
        → (rises ≡ false → (reading_of t v rises begins width (a, b) k).far ≤ p) × (read_place rises (reading_of t v rises begins width (a, b) k).far p < row_start t b - row_start t a)
    lent_near true begins width off =
        let most = offset_most t space v laws fits k known in let least = offset_least t space v laws fits k known in let near = reach_low t space v laws fits in
        let up = row_start_rises t space 0 a (omega arith) (omega arith) in let apart = starts_apart t space v laws fits a b some inside in
        let place = behind_between t space v laws fits k a b p known some inside inner fit in let front = place.0 in let end = place.1 in
        elim off [
          | inl low ↦ (λ no. absurd cc, omega (arith, ints, clamps, most, least, near, up, apart, front, end, low))
          | inr high ↦ absurd (omega (arith, ints, clamps, most, least, near, up, apart, front, end, fit, high))
        ]
    lent_near false begins width off =
        let most = offset_most t space v laws fits k known in let least = offset_least t space v laws fits k known in let near = reach_low t space v laws fits in
        let up = row_start_rises t space 0 a (omega arith) (omega arith) in let apart = starts_apart t space v laws fits a b some inside in
        let place = behind_between t space v laws fits k a b p known some inside inner fit in let front = place.0 in let end = place.1 in
        elim off [
          | inl low ↦ absurd (omega (arith, ints, clamps, most, least, near, up, apart, front, end, low))
          | inr high ↦ (λ yes. omega (arith, ints, clamps, most, least, near, up, apart, front, end, fit, high), omega (arith, ints, clamps, most, least, near, up, apart, front, end, fit, high))
        ]

    pub there : (rises : Bool) (begins : List ℕ) (width size : ℕ) → slice_index begins a + room_of t v a b ≤ width → size ≡ v.directions * width → IsThere rises size (row_start t b - row_start t a) (reading_of t v rises begins width (a, b) k) p
    there rises begins width size room whole = record {
      kept = λ low high.
          let is = in_strip rises begins width low high in let few = strip_fits rises back is.0 is.1 in let same = is.2 in
          let below = slot_below width v.directions k (slice_index begins a + (back - first_of (strip_of t v rises k a b))) known (omega (arith, few, room)) in
          omega (arith, below, whole, same);
      low = λ off. (lent_near rises begins width off).0;
      lent = λ off. (lent_near rises begins width off).1;
    }

-- so it is for all of a slab
pub all_there : (t : Torus) (v : Stencil) (rises : Bool) (begins : List ℕ) (width size : ℕ) (rows : ℕ × ℕ) (ranges : List (List ℤ)) (len : ℕ) (readings : List Reading) → IsNear t v begins width size rows ranges → len ≡ row_start t rows.1 - row_start t rows.0
    → ((i : ℕ) → i < v.directions → reading_at readings i ≡ reading_of t v rises begins width rows i) → AreThere rises v.directions size len readings
all_there t v rises begins width size rows ranges len readings near long is = record {
  few = let end = row_start_inside t near.space rows.1 near.inside in let fits = near.space.fits in omega (arith, end, fits, long);
  there = λ k p known inner fit.
      subst (λ (w : Reading × ℕ). IsThere rises size w.1 w.0 p) (λ i. (sym (is k known) i, sym long i))
      (there t near.space v near.set near.dimension rows.0 rows.1 near.some near.inside k known p inner (omega (arith, fit, long)) rises begins width size near.room near.whole);
}
