-- Rooms for strips share no place.
use Rattle.std.proofs.Common.{◌≡◌, ◌≢◌, ◌⊎◌, ℕ, zero, suc, ◌+◌, ◌*◌, ◌<◌, ◌≤◌, List, inl, inr, slice_index, ap, arith}
use Rattle.std.proofs.lemmas.Bool.{cases_lt}
use Rattle.lbm_space.specs.Stencil.{Stencil}
use Rattle.lbm_space.specs.Torus.{Torus}
use Rattle.lbm_space.specs.Cuttings.{slabs_of, first_row, end_row}
use Rattle.lbm_arrays.proofs.Slots.{up_to}
use Rattle.lbm_grid.specs.Strips.{room_of, rooms_of, room_at, AreRooms}

-- the rooms of one slab after another
pub rooms_next : (t : Torus) (v : Stencil) (bounds : List ℕ) (n : ℕ) → rooms_of t v bounds (n + 1) ≡ rooms_of t v bounds n + room_of t v (first_row bounds n) (end_row bounds n)
rooms_next t v bounds n = let e : n + 1 ≡ suc n = omega arith in ap (rooms_of t v bounds) e

pub rooms_rise : (t : Torus) (v : Stencil) (bounds : List ℕ) (i n : ℕ) → i < n → rooms_of t v bounds i + room_of t v (first_row bounds i) (end_row bounds i) ≤ rooms_of t v bounds n
rooms_rise t v bounds i zero less = absurd (omega arith)
rooms_rise t v bounds i (suc n) less = elim (cases_lt i n) [
  | inl before ↦ (let one = rooms_rise t v bounds i n before in omega (arith, one))
  | inr last ↦ (let e : i ≡ n = omega arith in let same = ap (λ (m : ℕ). rooms_of t v bounds m + room_of t v (first_row bounds m) (end_row bounds m)) e in omega (arith, same))
]

module _ (t : Torus) (v : Stencil) (bounds begins : List ℕ) (width size : ℕ) (rooms : AreRooms t v bounds begins width size) where
  -- a slab's room ends with the array's
  pub room_inside : (j : ℕ) → j < slabs_of bounds → slice_index begins (first_row bounds j) + room_of t v (first_row bounds j) (end_row bounds j) ≤ width
  room_inside j slab = let up = rooms_rise t v bounds j (slabs_of bounds) slab in let at = rooms.begin j slab in let all = rooms.all in omega (arith, up, at, all)

  -- two places of different rooms are two
  pub rooms_apart : (i j k l x y : ℕ) → i < slabs_of bounds → j < slabs_of bounds → (i ≢ j) ⊎ (k ≢ l)
      → x < room_of t v (first_row bounds i) (end_row bounds i) → y ≤ room_of t v (first_row bounds j) (end_row bounds j)
      → (room_at begins width k (first_row bounds i) + x < room_at begins width l (first_row bounds j)) ⊎ (room_at begins width l (first_row bounds j) + y ≤ room_at begins width k (first_row bounds i) + x)
  rooms_apart i j k l x y slab slab' other within within' =
      let at_i = rooms.begin i slab in let at_j = rooms.begin j slab' in let end_i = room_inside i slab in let end_j = room_inside j slab' in
      elim (cases_lt k l) [
        | inl before ↦ (let next = up_to k l width before in inl (omega (arith, next, end_i, within)))
        | inr behind ↦ elim (cases_lt l k) [
          | inl after ↦ (let next = up_to l k width after in inr (omega (arith, next, end_j, within')))
          | inr same ↦ (
              let one : k ≡ l = omega arith in let at = ap (λ (m : ℕ). m * width) one in
              elim (cases_lt i j) [
                | inl less ↦ (let up = rooms_rise t v bounds i j less in inl (omega (arith, up, at, at_i, at_j, within)))
                | inr more ↦ elim (cases_lt j i) [
                  | inl less ↦ (let up = rooms_rise t v bounds j i less in inr (omega (arith, up, at, at_i, at_j, within')))
                  | inr equal ↦ (let twice : i ≡ j = omega arith in absurd (elim other [ inl a ↦ a twice | inr b ↦ b one ]))
                ]
              ])
        ]
      ]
