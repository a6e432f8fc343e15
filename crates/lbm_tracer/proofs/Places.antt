-- The slots of a tracer's amounts.
use Rattle.std.proofs.Common.{◌≡◌, ℕ, ◌+◌, ◌*◌, ◌%◌, ◌<◌, ◌≤◌, Bool, true, false, length, refl, sym, ap, ◌∙◌, inl, inr, arith}
use Rattle.std.specs.Prelude.{if◌then◌else◌, nat_eq}
use Rattle.std.proofs.lemmas.Bool.{cases_eq}
use Rattle.lbm_space.specs.Stencil.{opposite}
use Rattle.lbm_space.specs.Torus.{Torus, IsSpace, cells, padded}
use Rattle.lbm_space.specs.Padded.{padded_index}
use Rattle.lbm_space.proofs.Places.{padded_index_apart, padded_index_below}
use Rattle.lbm_model.specs.declared.layout.Layout.{Layout}
use Rattle.lbm_model.specs.Layout.{array_of, stands_at, place_of, slot_of, aa_layout}
use Rattle.lbm_arrays.specs.Arrays.{Arrays, IsRegion, slot_at}
use Rattle.lbm_arrays.proofs.Slots.{slot_below, slots_apart}
use Rattle.lbm_lattice.specs.InPlace.{own_layout, turned_layout}
use Rattle.lbm_aa.proofs.Steps.{aa_layout-even, aa_layout-odd}
use Rattle.lbm_tracer.specs.Tracing.{set_in, tracer_source}
use Rattle.lbm_tracer.specs.Carried.{places_of, IsTracerRegion}
use Rattle.lbm_tracer.proofs.Neighbours.{facts, source_known, target-source}

module _ (t : Torus) (space : IsSpace t) where
  -- each amount has an array and stands at a cell, and no two have the same
  array_known : (layout : Layout) (k : ℕ) → k < (set_in t).directions → array_of (set_in t) layout k < (set_in t).directions
  array_known layout k known = by_case layout.turned
    where
      by_case : (turned : Bool) → (if turned then opposite (set_in t) k else k) < (set_in t).directions
      by_case true = (facts t space).opposite_exists k known
      by_case false = known

  array_apart : (turned : Bool) (j k : ℕ) → j < (set_in t).directions → k < (set_in t).directions
      → (if turned then opposite (set_in t) j else j) ≡ (if turned then opposite (set_in t) k else k) → j ≡ k
  array_apart true j k known_j known_k same = sym ((facts t space).opposite_twice j known_j) ∙ ap (opposite (set_in t)) same ∙ (facts t space).opposite_twice k known_k
  array_apart false j k known_j known_k same = same

  stands_known : (layout : Layout) (x k : ℕ) → x < cells t → k < (set_in t).directions → stands_at (places_of t) layout x k < cells t
  stands_known layout x k here known = by_case layout.behind
    where
      by_case : (behind : Bool) → (if behind then tracer_source t x k else x) < cells t
      by_case true = source_known t space x k here known
      by_case false = here

  cell_apart : (behind : Bool) (x y k : ℕ) → x < cells t → y < cells t → k < (set_in t).directions
      → (if behind then tracer_source t x k else x) ≡ (if behind then tracer_source t y k else y) → x ≡ y
  cell_apart true x y k here there known same =
      sym (target-source t space x k here known) ∙ ap (λ z. tracer_source t z (opposite (set_in t) k)) same ∙ target-source t space y k there known
  cell_apart false x y k here there known same = same

  place_known : (layout : Layout) (x k : ℕ) → layout.base ≤ layout.margin → x < cells t → k < (set_in t).directions
      → place_of (places_of t) layout x k < layout.margin + padded t
  place_known layout x k base here known =
      let place = padded_index_below t space (stands_at (places_of t) layout x k) (stands_known layout x k here known) in
      omega (arith, place, base)

  pub slot_known : (layout : Layout) (x k : ℕ) → layout.base ≤ layout.margin → x < cells t → k < (set_in t).directions
      → slot_of (places_of t) layout x k < (set_in t).directions * (layout.margin + padded t)
  slot_known layout x k base here known =
      slot_below (layout.margin + padded t) (set_in t).directions (array_of (set_in t) layout k) (place_of (places_of t) layout x k) (array_known layout k known) (place_known layout x k base here known)

  pub slot_apart : (layout : Layout) (x y j k : ℕ) → layout.base ≤ layout.margin → x < cells t → y < cells t → j < (set_in t).directions → k < (set_in t).directions
      → slot_of (places_of t) layout x j ≡ slot_of (places_of t) layout y k → (x ≡ y) × (j ≡ k)
  slot_apart layout x y j k base here there known_j known_k same =
      let size : ℕ = layout.margin + padded t in
      let arrays : array_of (set_in t) layout j ≡ array_of (set_in t) layout k =
      slots_apart size (array_of (set_in t) layout j) (array_of (set_in t) layout k) (place_of (places_of t) layout x j) (place_of (places_of t) layout y k) (place_known layout x j base here known_j) (place_known layout y k base there known_k) same in
      let one : j ≡ k = array_apart layout.turned j k known_j known_k arrays in
      let start : array_of (set_in t) layout j * size ≡ array_of (set_in t) layout k * size = ap (λ (n : ℕ). n * size) arrays in
      let places : padded_index t (stands_at (places_of t) layout x j) ≡ padded_index t (stands_at (places_of t) layout y k) = omega (arith, same, start) in
      let at : stands_at (places_of t) layout x j ≡ stands_at (places_of t) layout y k =
      padded_index_apart t space (stands_at (places_of t) layout x j) (stands_at (places_of t) layout y k) (stands_known layout x j here known_j) (stands_known layout y k there known_k) places in
      (cell_apart layout.behind x y j here there known_j (at ∙ ap (stands_at (places_of t) layout y) (sym one)), one)

module _ (t : Torus) (space : IsSpace t) (x k : ℕ) (here : x < cells t) (known : k < (set_in t).directions) where
  turn_even : slot_of (places_of t) turned_layout x k ≡ slot_of (places_of t) own_layout (tracer_source t x k) (opposite (set_in t) k)
  turn_even = refl

  turn_odd : slot_of (places_of t) own_layout x k ≡ slot_of (places_of t) turned_layout (tracer_source t x k) (opposite (set_in t) k)
  turn_odd = λ i. sym ((facts t space).opposite_twice k known) i * (2 + padded t) + (1 + padded_index t (sym (target-source t space x k here known) i))

  -- what stands in the slot of an amount at the next time is what the cell behind it has put where it took the opposite direction
  pub slot_turn : (time : ℕ) → slot_of (places_of t) (aa_layout (time + 1)) x k ≡ slot_of (places_of t) (aa_layout time) (tracer_source t x k) (opposite (set_in t) k)
  slot_turn time = elim (cases_eq (time % 2) 0) [
    | inl even ↦ (let l = aa_layout-even time even in rw (l.0, l.1) turn_even)
    | inr odd ↦ (let l = aa_layout-odd time odd in rw (l.0, l.1) turn_odd)
  ]

room : (even : Bool) → ((if even then own_layout else turned_layout).margin ≡ 2) × ((if even then own_layout else turned_layout).base ≡ 1)
room true = (refl, refl)
room false = (refl, refl)

pub layout_room : (time : ℕ) → ((aa_layout time).margin ≡ 2) × ((aa_layout time).base ≡ 1)
layout_room time = room (nat_eq (time % 2) 0)

pub layout_fits : (time : ℕ) → (aa_layout time).base ≤ (aa_layout time).margin
layout_fits time = omega (arith, (layout_room time).0, (layout_room time).1)

-- a slot of the region
module _ (t : Torus) (space : IsSpace t) (r : Arrays) (laid : IsTracerRegion t r) (region : IsRegion r) (time : ℕ) where
  pub slot_is : (x k array at : ℕ) → array ≡ array_of (set_in t) (aa_layout time) k → at ≡ place_of (places_of t) (aa_layout time) x k → slot_at r.space r.margin array at ≡ slot_of (places_of t) (aa_layout time) x k
  slot_is x k array at array_is at_is = rw (array_is, at_is, laid.margin, laid.space, (layout_room time).0) refl

  pub slot_inside : (x k : ℕ) → x < cells t → k < (set_in t).directions → slot_of (places_of t) (aa_layout time) x k < length r.slots
  slot_inside x k here known =
      let size : length r.slots ≡ (set_in t).directions * ((aa_layout time).margin + padded t) = region.whole ∙ rw (laid.count, laid.margin, laid.space, (layout_room time).0) refl in
      rw size (slot_known t space (aa_layout time) x k (layout_fits time) here known)

  pub amounts_apart : (x y j k : ℕ) → x < cells t → y < cells t → j < (set_in t).directions → k < (set_in t).directions
      → slot_of (places_of t) (aa_layout time) x j ≡ slot_of (places_of t) (aa_layout time) y k → (x ≡ y) × (j ≡ k)
  amounts_apart x y j k here there known_j known_k same = slot_apart t space (aa_layout time) x y j k (layout_fits time) here there known_j known_k same
