-- Strips are saved one after another.
use Rattle.std.proofs.Common.{◌≡◌, ◌≢◌, ◌⊎◌, ℕ, ◌+◌, ◌-◌, ◌<◌, ◌≤◌, Bool, List, ℤ, inl, inr, ◌∙◌, arith}
use Rattle.std.proofs.lemmas.Bool.{cases_lt}
use Rattle.lbm_space.specs.Stencil.{Stencil, IsVelocitySet}
use Rattle.lbm_space.specs.Torus.{Torus, IsSpace, rows as row_count}
use Rattle.lbm_space.specs.Cuttings.{slabs_of, first_row, end_row, rows_of, IsCutting}
use Rattle.lbm_space.proofs.Slabs.{end_known}
use Rattle.lbm_arrays.specs.Arrays.{held}
use Rattle.lbm_grid.specs.Strips.{strip_of, first_of, past_of, room_of, room_at, kept_at, AreRooms, IsSaved}
use Rattle.lbm_grid.proofs.There.{strip_fits}
use Rattle.lbm_grid.proofs.Rooms.{rooms_apart}

module _ (t : Torus) (space : IsSpace t) (v : Stencil) (laws : IsVelocitySet v) (fits : v.dimension ≡ t.dimension) (rises : Bool) (bounds : List ℕ) (cutting : IsCutting bounds) (whole : rows_of bounds ≡ row_count t) where
  pub strip_room : (i k p : ℕ) → i < slabs_of bounds → k < v.directions → first_of (strip_of t v rises k (first_row bounds i) (end_row bounds i)) ≤ p → p < past_of (strip_of t v rises k (first_row bounds i) (end_row bounds i))
      → p - first_of (strip_of t v rises k (first_row bounds i) (end_row bounds i)) < room_of t v (first_row bounds i) (end_row bounds i)
  strip_room i k p slab known low high =
      let end = end_known bounds cutting i slab in
      strip_fits t space v laws fits (first_row bounds i) (end_row bounds i) (cutting.rises i slab) (omega (arith, end, whole)) k known rises p low high

  -- how many places a strip has
  pub strip_size : (i k first past : ℕ) → i < slabs_of bounds → k < v.directions → first ≡ first_of (strip_of t v rises k (first_row bounds i) (end_row bounds i)) → past ≡ past_of (strip_of t v rises k (first_row bounds i) (end_row bounds i))
      → past - first ≤ room_of t v (first_row bounds i) (end_row bounds i)
  strip_size i k first past slab known first_is past_is = elim (cases_lt first past) [
    | inl some ↦ (let last = strip_room i k (past - 1) slab known (omega (arith, first_is, some)) (omega (arith, past_is, some)) in omega (arith, last, first_is, some))
    | inr none ↦ omega (arith, none)
  ]

  module _ (begins : List ℕ) (width size : ℕ) (rooms : AreRooms t v bounds begins width size) (margin base : ℕ) (slots : List ℤ) where
    -- a write to the room of one strip leaves the others
    pub saved_off : (j k y : ℕ) (old new : List ℤ) → j < slabs_of bounds → y ≤ room_of t v (first_row bounds j) (end_row bounds j)
        → ((s : ℕ) → (s < room_at begins width k (first_row bounds j)) ⊎ (room_at begins width k (first_row bounds j) + y ≤ s) → held new s ≡ held old s)
        → (i m p : ℕ) → i < slabs_of bounds → m < v.directions → (i ≢ j) ⊎ (m ≢ k) → IsSaved t v rises bounds begins width margin base slots old i m p → IsSaved t v rises bounds begins width margin base slots new i m p
    saved_off j k y old new slab_j few others i m p slab known other was low high =
        others (kept_at t v rises begins width m (first_row bounds i) (end_row bounds i) p)
        (rooms_apart t v bounds begins width size rooms i j m k (p - first_of (strip_of t v rises m (first_row bounds i) (end_row bounds i))) y slab slab_j other (strip_room i m p slab known low high) few)
        ∙ was low high
