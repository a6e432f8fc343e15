-- The lines of the padded places: the line for which each stands, and which of its places a velocity reaches.
use Rattle.std.proofs.Common.{◌≡◌, ◌⊎◌, ℕ, ◌+◌, ◌-◌, ◌*◌, ◌%◌, ◌<◌, ◌≤◌, List, ℤ, pos, ◌+ℤ◌, ◌-ℤ◌, ◌*ℤ◌, unsigned_abs, refl, sym, ap, subst, ◌∙◌, inl, inr, arith, lit<}
use Rattle.std.proofs.lemmas.Bool.{cases_lt, ne_eqb}
use Rattle.std.proofs.lemmas.Int.{ints}
use Rattle.std.proofs.Math.Nat.{mod-eq_of_lt, mod_self, zero-mod, mul-le-mul_left}
use Rattle.lbm_space.specs.Stencil.{part}
use Rattle.lbm_space.specs.Torus.{Torus, IsSpace, cells, cell_number, x_of, y_of, z_of, modulo, padded}
use Rattle.lbm_space.specs.Padded.{padded_box, pads_below, padded_index, offset}
use Rattle.lbm_space.proofs.Back.{Within, HasCells-from_space, cell_within, cell_number_below, x_of-cell_number, y_of-cell_number, z_of-cell_number}
use Rattle.lbm_space.proofs.Places.{scaled, landed, on_ring, layers, wrap-cell_number}
use Rattle.lbm_arrays.specs.Pads.{stand, IsReached, ring, line_start, stand_start, IsLed, IsUnitVelocity}

-- along a side: the coordinate of a cell, and the pads before and behind the cells
pub ring_inner : (pads n x : ℕ) → x < n → ring pads n (x + pads) ≡ x + pads
ring_inner pads n x below = let e : pos (x + pads) -ℤ pos pads ≡ pos x = omega (arith, ints) in rw e (ap (λ m. m + pads) (mod-eq_of_lt below))

pub ring_before : (n : ℕ) → 0 < n → ring 1 n 0 ≡ n
ring_before n some =
    let e : 0 % n ≡ 0 = zero-mod n in
    let down : modulo (pos 0 -ℤ pos 1) n ≡ n - 1 = rw e (omega arith) in
    ap (λ m. m + 1) down ∙ omega arith

pub ring_behind : (pads n : ℕ) → 0 < n → ring pads n (n + pads) ≡ pads
ring_behind pads n some = let e : pos (n + pads) -ℤ pos pads ≡ pos n = omega (arith, ints) in rw e (ap (λ m. m + pads) (mod_self n) ∙ omega arith)

-- the place x places along a line
along : (box : Torus) (x y z : ℕ) → cell_number box 0 y z + x ≡ cell_number box x y z
along box x y z = omega arith

-- lines of one width lie apart, and inside the box
line_below : (w h d y z : ℕ) → y < h → z < d → 0 + w * (y + h * z) + w ≤ w * h * d
line_below w h d y z y_in z_in =
    let line : y + h * z + 1 ≤ h * d = omega (arith, y_in, mul-le-mul_left h z_in) in
    omega (arith, mul-le-mul_left w line)

apart : (w a b : ℕ) → (0 + w * a ≡ 0 + w * b) ⊎ ((0 + w * a + w ≤ 0 + w * b) ⊎ (0 + w * b + w ≤ 0 + w * a))
apart w a b = elim (cases_lt a b) [
  | inl less ↦ (let up : w * (a + 1) ≤ w * b = mul-le-mul_left w (omega arith) in inr (inl (omega (arith, up))))
  | inr more ↦ elim (cases_lt b a) [
    | inl less ↦ (let up : w * (b + 1) ≤ w * a = mul-le-mul_left w (omega arith) in inr (inr (omega (arith, up))))
    | inr equal ↦ (let same : a ≡ b = omega arith in inl (ap (λ n. 0 + w * n) same))
  ]
]

-- and so do runs at one place of both
shifted_apart : (w a b d n : ℕ) → (a ≡ b) ⊎ ((a + w ≤ b) ⊎ (b + w ≤ a)) → d + n ≤ w → (a + d ≡ b + d) ⊎ ((a + d + n ≤ b + d) ⊎ (b + d + n ≤ a + d))
shifted_apart w a b d n far inside = elim far [
  | inl same ↦ inl (omega (arith, same))
  | inr other ↦ elim other [
    | inl up ↦ inr (inl (omega (arith, up, inside)))
    | inr down ↦ inr (inr (omega (arith, down, inside)))
  ]
]

-- a place moves with its coordinates
both_move : (a b a' b' : ℕ) (x y : ℤ) → pos a' ≡ pos a +ℤ x → pos b' ≡ pos b +ℤ y → pos (a' + b') ≡ pos (a + b) +ℤ (x +ℤ y)
both_move a b a' b' x y p q = omega (arith, ints)

moved : (w h x y z x' y' z' : ℕ) (c_x c_y c_z : ℤ) → pos x' ≡ pos x +ℤ c_x → pos y' ≡ pos y +ℤ c_y → pos z' ≡ pos z +ℤ c_z
    → pos (x' + w * (y' + h * z')) ≡ pos (x + w * (y + h * z)) +ℤ (c_x +ℤ pos w *ℤ (c_y +ℤ pos h *ℤ c_z))
moved w h x y z x' y' z' c_x c_y c_z to_x to_y to_z =
    let line : pos (y' + h * z') ≡ pos (y + h * z) +ℤ (c_y +ℤ pos h *ℤ c_z) = both_move y (h * z) y' (h * z') c_y (pos h *ℤ c_z) to_y (scaled h z' z c_z to_z) in
    both_move x (w * (y + h * z)) x' (w * (y' + h * z')) c_x (pos w *ℤ (c_y +ℤ pos h *ℤ c_z)) to_x (scaled w (y' + h * z') (y + h * z) (c_y +ℤ pos h *ℤ c_z) line)

module _ (t : Torus) (space : IsSpace t) where
  ring_y : (y : ℕ) → ring 1 t.ny y < t.ny + 2
  ring_y y = let below = on_ring t.ny (pos y -ℤ pos 1) space.some_y in omega arith

  ring_z : (z : ℕ) → ring (pads_below t) t.nz z < (padded_box t).nz
  ring_z z = let below = on_ring t.nz (pos z -ℤ pos (pads_below t)) space.some_z in let box = layers t space in omega arith

  -- what stands at three coordinates
  stand-place : (x y z : ℕ) → Within (padded_box t) x y z
      → stand t (cell_number (padded_box t) x y z) ≡ cell_number (padded_box t) (ring 1 t.nx x) (ring 1 t.ny y) (ring (pads_below t) t.nz z)
  unfolding stand padded_index
  stand-place x y z within =
      let X : ℕ = modulo (pos x -ℤ pos 1) t.nx in let Y : ℕ = modulo (pos y -ℤ pos 1) t.ny in let Z : ℕ = modulo (pos z -ℤ pos (pads_below t)) t.nz in
      let x_in : X < t.nx = on_ring t.nx (pos x -ℤ pos 1) space.some_x in let y_in : Y < t.ny = on_ring t.ny (pos y -ℤ pos 1) space.some_y in
      rw (wrap-cell_number t space x y z within, x_of-cell_number t X Y Z x_in, y_of-cell_number t X Y Z x_in y_in, z_of-cell_number t X Y Z x_in y_in) refl

  -- one line after the other, one layer after the other
  pub line_next : (y z : ℕ) → line_start t (y + 1) z ≡ line_start t y z + (t.nx + 2)
  line_next y z = omega arith

  pub layer_next : (z : ℕ) → line_start t (t.ny + 2) z ≡ line_start t 0 (z + 1)
  layer_next z = omega arith

  pub lines_rise : (y z : ℕ) → line_start t 0 z ≤ line_start t y z
  lines_rise y z = let up : (t.ny + 2) * z ≤ y + (t.ny + 2) * z = omega arith in omega (arith, mul-le-mul_left (t.nx + 2) up)

  pub layers_rise : (a b : ℕ) → a ≤ b → line_start t 0 a ≤ line_start t 0 b
  layers_rise a b up = let line : (t.ny + 2) * a ≤ (t.ny + 2) * b = mul-le-mul_left (t.ny + 2) up in omega (arith, mul-le-mul_left (t.nx + 2) line)

  pub layers_begin : line_start t 0 0 ≡ 0
  layers_begin = omega arith

  pub layers_end : line_start t 0 (padded_box t).nz ≡ padded t
  layers_end = omega arith

  module _ (y z : ℕ) (y_in : y < t.ny + 2) (z_in : z < (padded_box t).nz) where
    pub line_inside : line_start t y z + (t.nx + 2) ≤ padded t
    line_inside = line_below (t.nx + 2) (t.ny + 2) (padded_box t).nz y z y_in z_in

    pub stand_inside : stand_start t y z + (t.nx + 2) ≤ padded t
    stand_inside = line_below (t.nx + 2) (t.ny + 2) (padded_box t).nz (ring 1 t.ny y) (ring (pads_below t) t.nz z) (ring_y y) (ring_z z)

    -- a run of a line lies apart from the run for which it stands, or is that run
    pub runs_apart : (first cells d n : ℕ) → first ≡ line_start t y z → cells ≡ stand_start t y z → d + n ≤ t.nx + 2
        → (first + d ≡ cells + d) ⊎ ((first + d + n ≤ cells + d) ⊎ (cells + d + n ≤ first + d))
    runs_apart first cells d n is_first is_cells inside =
        rw (is_first, is_cells) (shifted_apart (t.nx + 2) (line_start t y z) (stand_start t y z) d n (apart (t.nx + 2) (y + (t.ny + 2) * z) (ring 1 t.ny y + (t.ny + 2) * ring (pads_below t) t.nz z)) inside)

    pub runs_apart_back : (first cells d n : ℕ) → first ≡ line_start t y z → cells ≡ stand_start t y z → d + n ≤ t.nx + 2
        → (cells + d ≡ first + d) ⊎ ((cells + d + n ≤ first + d) ⊎ (first + d + n ≤ cells + d))
    runs_apart_back first cells d n is_first is_cells inside =
        rw (is_first, is_cells) (shifted_apart (t.nx + 2) (stand_start t y z) (line_start t y z) d n (apart (t.nx + 2) (ring 1 t.ny y + (t.ny + 2) * ring (pads_below t) t.nz z) (y + (t.ny + 2) * z)) inside)

    -- the place x of a line stands for a place of one other line
    stand-along : (x : ℕ) → x < t.nx + 2 → stand t (line_start t y z + x) ≡ stand_start t y z + ring 1 t.nx x
    stand-along x x_in =
        ap (stand t) (along (padded_box t) x y z) ∙ stand-place x y z (record { x_within = x_in; y_within = y_in; z_within = z_in })
        ∙ sym (along (padded_box t) (ring 1 t.nx x) (ring 1 t.ny y) (ring (pads_below t) t.nz z))

    pub stand-left : (p : ℕ) → p ≡ line_start t y z → stand t p ≡ stand_start t y z + t.nx
    stand-left p at =
        let none : line_start t y z ≡ line_start t y z + 0 = omega arith in
        ap (stand t) (at ∙ none) ∙ stand-along 0 (omega arith) ∙ ap (λ n. stand_start t y z + n) (ring_before t.nx space.some_x)

    pub stand-inner : (p j : ℕ) → j < t.nx → p ≡ line_start t y z + 1 + j → stand t p ≡ stand_start t y z + 1 + j
    stand-inner p j below at =
        let whole : line_start t y z + 1 + j ≡ line_start t y z + (j + 1) = sym (one_more (line_start t y z) j) in
        ap (stand t) (at ∙ whole) ∙ stand-along (j + 1) (omega arith) ∙ ap (λ n. stand_start t y z + n) (ring_inner 1 t.nx j below) ∙ one_more (stand_start t y z) j
      where
        one_more : (a j : ℕ) → a + (j + 1) ≡ a + 1 + j
        one_more a j = omega arith

    pub stand-right : (p : ℕ) → p ≡ line_start t y z + (t.nx + 1) → stand t p ≡ stand_start t y z + 1
    stand-right p at = ap (stand t) at ∙ stand-along (t.nx + 1) (omega arith) ∙ ap (λ n. stand_start t y z + n) (ring_behind 1 t.nx space.some_x)

  module _ (c : List ℤ) (moves : IsUnitVelocity t c) where
    -- the last part is no more than the pads below
    depth : unsigned_abs (part c 2) ≤ pads_below t
    depth = elim space.plane_or_space [
      | inl two ↦ (let none = moves.flat two in rw none (omega arith))
      | inr three ↦ (let off = ne_eqb t.dimension 2 (λ two. omega arith) in let one : pads_below t ≡ 1 = rw off refl in let unit = moves.unit 2 (lit< tt) in rw one unit)
    ]

    -- a cell's place and the offset of c
    ahead : (cell x y z : ℕ) → pos x ≡ pos (x_of t cell + 1) +ℤ part c 0 → pos y ≡ pos (y_of t cell + 1) +ℤ part c 1 → pos z ≡ pos (z_of t cell + pads_below t) +ℤ part c 2
        → pos (cell_number (padded_box t) x y z) ≡ pos (padded_index t cell) +ℤ offset t c
    unfolding padded_index offset
    ahead cell x y z to_x to_y to_z =
        moved (t.nx + 2) (t.ny + 2) (x_of t cell + 1) (y_of t cell + 1) (z_of t cell + pads_below t) x y z (part c 0) (part c 1) (part c 2) to_x to_y to_z

    -- the place at three coordinates is a cell's place and the offset of c where c leads to each of them
    pub record AreLed (x y z : ℕ) : Type 0 where
      pub x_led : IsLed 1 t.nx (part c 0) x
      pub y_led : IsLed 1 t.ny (part c 1) y
      pub z_led : IsLed (pads_below t) t.nz (part c 2) z

    reached_led : (x y z : ℕ) → Within (padded_box t) x y z → IsReached t (offset t c) (cell_number (padded_box t) x y z) → AreLed x y z
    reached_led x y z within led =
        let box : Torus = padded_box t in let cell : ℕ = led.0 in let here = cell_within t cell (HasCells-from_space t space) led.1 in
        let to_x : ℕ = unsigned_abs (pos (x_of t cell + 1) +ℤ part c 0) in
        let to_y : ℕ = unsigned_abs (pos (y_of t cell + 1) +ℤ part c 1) in
        let to_z : ℕ = unsigned_abs (pos (z_of t cell + pads_below t) +ℤ part c 2) in
        let unit_x = moves.unit 0 (lit< tt) in let unit_y = moves.unit 1 (lit< tt) in let few = depth in
        let x_lands : pos to_x ≡ pos (x_of t cell + 1) +ℤ part c 0 = landed (x_of t cell + 1) (part c 0) (omega arith) in
        let y_lands : pos to_y ≡ pos (y_of t cell + 1) +ℤ part c 1 = landed (y_of t cell + 1) (part c 1) (omega arith) in
        let z_lands : pos to_z ≡ pos (z_of t cell + pads_below t) +ℤ part c 2 = landed (z_of t cell + pads_below t) (part c 2) (omega arith) in
        let x_here = here.x_within in let y_here = here.y_within in let z_here = here.z_within in let deep = layers t space in
        let x_in : to_x < box.nx = omega (arith, ints, x_lands) in
        let y_in : to_y < box.ny = omega (arith, ints, y_lands) in
        let both : pos (cell_number box x y z) ≡ pos (cell_number box to_x to_y to_z) = led.2 ∙ sym (ahead cell to_x to_y to_z x_lands y_lands z_lands) in
        let same : cell_number box x y z ≡ cell_number box to_x to_y to_z = same_number both in
        let is_x : x ≡ to_x = sym (x_of-cell_number box x y z within.x_within) ∙ ap (x_of box) same ∙ x_of-cell_number box to_x to_y to_z x_in in
        let is_y : y ≡ to_y = sym (y_of-cell_number box x y z within.x_within within.y_within) ∙ ap (y_of box) same ∙ y_of-cell_number box to_x to_y to_z x_in y_in in
        let is_z : z ≡ to_z = sym (z_of-cell_number box x y z within.x_within within.y_within) ∙ ap (z_of box) same ∙ z_of-cell_number box to_x to_y to_z x_in y_in in
        record {
          x_led = led_from 1 t.nx (part c 0) (x_of t cell) x to_x x_here is_x x_lands;
          y_led = led_from 1 t.ny (part c 1) (y_of t cell) y to_y y_here is_y y_lands;
          z_led = led_from (pads_below t) t.nz (part c 2) (z_of t cell) z to_z z_here is_z z_lands;
        }
      where
        same_number : {a b : ℕ} → pos a ≡ pos b → a ≡ b
        same_number e = cc

        led_from : (pads side : ℕ) (z : ℤ) (from to landed : ℕ) → from < side → to ≡ landed → pos landed ≡ pos (from + pads) +ℤ z → IsLed pads side z to
        led_from pads side z from to landed below same lands = record { low = omega (arith, ints, same, lands); high = omega (arith, ints, same, lands) }

    led_reached : (x y z : ℕ) → AreLed x y z → IsReached t (offset t c) (cell_number (padded_box t) x y z)
    led_reached x y z led =
        let X : ℕ = unsigned_abs (pos x -ℤ part c 0 -ℤ pos 1) in
        let Y : ℕ = unsigned_abs (pos y -ℤ part c 1 -ℤ pos 1) in
        let Z : ℕ = unsigned_abs (pos z -ℤ part c 2 -ℤ pos (pads_below t)) in
        let within : Within t X Y Z = record { x_within = source_below 1 t.nx (part c 0) x led.x_led; y_within = source_below 1 t.ny (part c 1) y led.y_led; z_within = source_below (pads_below t) t.nz (part c 2) z led.z_led } in
        let cell : ℕ = cell_number t X Y Z in
        let to_x : pos x ≡ pos (x_of t cell + 1) +ℤ part c 0 = rw (x_of-cell_number t X Y Z within.x_within) (there 1 t.nx (part c 0) x led.x_led) in
        let to_y : pos y ≡ pos (y_of t cell + 1) +ℤ part c 1 = rw (y_of-cell_number t X Y Z within.x_within within.y_within) (there 1 t.ny (part c 1) y led.y_led) in
        let to_z : pos z ≡ pos (z_of t cell + pads_below t) +ℤ part c 2 = rw (z_of-cell_number t X Y Z within.x_within within.y_within) (there (pads_below t) t.nz (part c 2) z led.z_led) in
        (cell, cell_number_below t X Y Z within, ahead cell x y z to_x to_y to_z)
      where
        source_below : (pads side : ℕ) (z : ℤ) (to : ℕ) → IsLed pads side z to → unsigned_abs (pos to -ℤ z -ℤ pos pads) < side
        source_below pads side z to led = let low = led.low in let high = led.high in omega (arith, ints, low, high)

        there : (pads side : ℕ) (z : ℤ) (to : ℕ) → IsLed pads side z to → pos to ≡ pos (unsigned_abs (pos to -ℤ z -ℤ pos pads) + pads) +ℤ z
        there pads side z to led = let low = led.low in let high = led.high in omega (arith, ints, low, high)

    -- the same for the places of a line
    module _ (y z : ℕ) (y_in : y < t.ny + 2) (z_in : z < (padded_box t).nz) where
      pub led_along : (x : ℕ) → x < t.nx + 2 → IsReached t (offset t c) (line_start t y z + x) → AreLed x y z
      led_along x x_in led =
          reached_led x y z (record { x_within = x_in; y_within = y_in; z_within = z_in }) (subst (IsReached t (offset t c)) (along (padded_box t) x y z) led)

      pub reached_along : (x : ℕ) → AreLed x y z → IsReached t (offset t c) (line_start t y z + x)
      reached_along x led = subst (IsReached t (offset t c)) (sym (along (padded_box t) x y z)) (led_reached x y z led)
