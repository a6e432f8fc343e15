-- The interior place for which a place stands, and what loading and storing pads gives to the patterns.
use Rattle.std.proofs.Common.{◌≡◌, ◌≢◌, ℕ, ◌+◌, ◌<◌, ◌≤◌, List, ℤ, pos, ◌+ℤ◌, sym, ap, subst, ◌∙◌, inl, inr, arith}
use Rattle.std.proofs.lemmas.Int.{ints}
use Rattle.lbm_space.specs.Stencil.{Stencil, IsVelocitySet, velocity, opposite}
use Rattle.lbm_space.specs.Torus.{Torus, IsSpace, cells, back, padded}
use Rattle.lbm_space.specs.Padded.{padded_index, offset, place_ahead, wrap, IsInterior, IsPad}
use Rattle.lbm_space.proofs.Places.{wrap_below, padded_index_apart, padded_index_below}
use Rattle.lbm_space.proofs.Offsets.{moved_high, wrap-ahead, ahead_apart, place_ahead_is, place_ahead_below, wrap-place_ahead}
use Rattle.lbm_space.proofs.Interior.{stands_for_itself, interior_index, interior_or_pad}
use Rattle.lbm_arrays.specs.Arrays.{Arrays, array_size, held, slot_at}
use Rattle.lbm_arrays.proofs.Slots.{slots_apart}
use Rattle.lbm_arrays.specs.Pads.{place_slot, stand, IsReached, IsOnce, IsLoaded, IsStored}

module _ (t : Torus) (space : IsSpace t) where
  pub stand_interior : (p : ℕ) → p < padded t → IsInterior t (stand t p)
  unfolding stand
  stand_interior p known = interior_index t space (wrap t p) (wrap_below t space p known)

  pub stand_below : (p : ℕ) → p < padded t → stand t p < padded t
  unfolding stand
  stand_below p known = padded_index_below t space (wrap t p) (wrap_below t space p known)

  pub stand-interior : (p : ℕ) → IsInterior t p → stand t p ≡ p
  unfolding stand
  stand-interior p at = stands_for_itself t space p at

  module _ (margin k base : ℕ) where
    -- one place, one slot
    place_slot_apart : (p q : ℕ) → place_slot t margin k base p ≡ place_slot t margin k base q → p ≡ q
    place_slot_apart p q same = omega (arith, same)

    -- a pad's slot is no interior one
    pad_apart : (p q : ℕ) → IsInterior t p → IsPad t q → place_slot t margin k base p ≢ place_slot t margin k base q
    pad_apart p q at pad same = pad.outside (subst (IsInterior t) (place_slot_apart p q same) at)

-- one more step that leaves all but the slots
pub same_again : (r l new : Arrays) → l ≡ record r { slots = l.slots } → new ≡ record l { slots = new.slots } → new ≡ record r { slots = new.slots }
same_again r l new before step = step ∙ (λ i. record { space = (before i).space; count = (before i).count; margin = (before i).margin; slots = new.slots })

module _ (t : Torus) (space : IsSpace t) (v : Stencil) (laws : IsVelocitySet v) (same : v.dimension ≡ t.dimension) (i : ℕ) (known : i < v.directions) where
  -- the place to which a cell's offset leads, and the cell for which that place stands
  reached_below : (p : ℕ) → IsReached t (offset t (velocity v i)) p → p < padded t
  reached_below p led = let high = moved_high t space v laws same i led.0 known led.1 in let place : pos p ≡ pos (padded_index t led.0) +ℤ offset t (velocity v i) = led.2 in omega (arith, ints, high, place)

  reached_ahead : (p : ℕ) (led : IsReached t (offset t (velocity v i)) p) → wrap t p ≡ back t (velocity v (opposite v i)) led.0
  reached_ahead p led = wrap-ahead t space v laws same i led.0 known led.1 p led.2

  pub reached_once : IsOnce t (offset t (velocity v i))
  unfolding stand
  reached_once p q at_p at_q one =
      let cells_same : wrap t p ≡ wrap t q = padded_index_apart t space (wrap t p) (wrap t q) (wrap_below t space p (reached_below p at_p)) (wrap_below t space q (reached_below q at_q)) one in
      let cell : at_p.0 ≡ at_q.0 = ahead_apart t space v laws same i at_p.0 at_q.0 known at_p.1 at_q.1 (sym (reached_ahead p at_p) ∙ cells_same ∙ reached_ahead q at_q) in
      let there : pos p ≡ pos q = at_p.2 ∙ ap (λ n. pos (padded_index t n) +ℤ offset t (velocity v i)) cell ∙ sym at_q.2 in
      cc

-- What a pattern reads: every place, once the pads of an array are loaded, and every cell's interior place ahead, once they are stored.
module _ (t : Torus) (space : IsSpace t) (margin k base : ℕ) where
  pub loaded_at : (old new : List ℤ) → IsLoaded t margin k base old new → (p : ℕ) → p < padded t → held new (place_slot t margin k base p) ≡ held old (place_slot t margin k base (stand t p))
  loaded_at old new loaded p known = elim (interior_or_pad t space p known) [
    | inl at ↦ loaded.others (place_slot t margin k base p) (λ q pad. pad_apart t space margin k base p q at pad) ∙ ap (λ n. held old (place_slot t margin k base n)) (sym (stand-interior t space p at))
    | inr pad ↦ loaded.pads p pad
  ]

  -- loading leaves other arrays as they are
  pub loaded_elsewhere : (old new : List ℤ) → IsLoaded t margin k base old new → base ≤ margin → (j at : ℕ) → j ≢ k → at < array_size t margin → held new (slot_at t margin j at) ≡ held old (slot_at t margin j at)
  loaded_elsewhere old new loaded room j at other inside =
      loaded.others (slot_at t margin j at) (λ p pad same. let known = pad.known in other (slots_apart (array_size t margin) j k at (base + p) inside (omega (arith, room, known)) same))

  module _ (v : Stencil) (laws : IsVelocitySet v) (fits : v.dimension ≡ t.dimension) (i : ℕ) (known : i < v.directions) where
    pub stored_at : (old new : List ℤ) → IsStored t margin k base (offset t (velocity v i)) old new
        → (cell : ℕ) → cell < cells t → held new (place_slot t margin k base (stand t (place_ahead t (velocity v i) cell))) ≡ held old (place_slot t margin k base (place_ahead t (velocity v i) cell))
    stored_at old new stored cell here =
        let p : ℕ = place_ahead t (velocity v i) cell in
        let led : IsReached t (offset t (velocity v i)) p = (cell, here, place_ahead_is t space v laws fits i cell known here) in
        elim (interior_or_pad t space p (place_ahead_below t space v laws fits i cell known here)) [
          | inl at ↦ (
              let own = stand-interior t space p at in
              ap (λ n. held new (place_slot t margin k base n)) own
              ∙ stored.others (place_slot t margin k base p) (λ q pad q_led same.
              let one = reached_once t space v laws fits i known p q led q_led (own ∙ place_slot_apart t space margin k base p (stand t q) same) in
              pad.outside (subst (IsInterior t) one at)))
          | inr pad ↦ stored.pads p pad led
        ]

    pub stored_elsewhere : (old new : List ℤ) → IsStored t margin k base (offset t (velocity v i)) old new → base ≤ margin → (j at : ℕ) → j ≢ k → at < array_size t margin → held new (slot_at t margin j at) ≡ held old (slot_at t margin j at)
    stored_elsewhere old new stored room j at other inside =
        stored.others (slot_at t margin j at) (λ p pad led same. let there = stand_below t space p pad.known in other (slots_apart (array_size t margin) j k at (base + stand t p) inside (omega (arith, room, there)) same))

    -- the place ahead stands for the cell ahead
    pub stand-ahead : (cell : ℕ) → cell < cells t → stand t (place_ahead t (velocity v i) cell) ≡ padded_index t (back t (velocity v (opposite v i)) cell)
    unfolding stand
    stand-ahead cell here = ap (padded_index t) (wrap-place_ahead t space v laws fits i cell known here)
