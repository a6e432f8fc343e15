-- A motion takes each cell of a box to one cell of the moved box, and neighbours to neighbours.
use Rattle.std.proofs.Common.{◌≡◌, ℕ, ◌+◌, ◌*◌, ◌<◌, ◌≤◌, true, eqb, List, ℤ, pos, ◌-ℤ◌, unsigned_abs, refl, sym, ap, ◌∙◌, arith, lit<}
use Rattle.std.proofs.lemmas.Bool.{eq-eqb, eqb-true}
use Rattle.lbm_space.specs.Stencil.{part}
use Rattle.lbm_space.specs.Torus.{Torus, cells, cell_number, x_of, y_of, z_of, modulo, back}
use Rattle.lbm_space.proofs.Back.{Within, HasCells, cell_within, cell_number_below, cell_number-of, x_of-cell_number, y_of-cell_number, z_of-cell_number, modulo_below, back_within, IsUnit}
use Rattle.lbm_symmetry.specs.Motions.{Motion, IsMotion, signed, moved_vector, side, coordinate, moved_torus, moved_coordinate, moved_cell, former_cell}
use Rattle.lbm_symmetry.proofs.Axes.{each_axis, came_to, came_to_known, came_to-axis, axis-came_to, part-moved, side-moved, cells-moved}
use Rattle.lbm_symmetry.proofs.Rings.{moved_coordinate_below, moved_coordinate-step, former_coordinate, former_coordinate_below, moved-former_coordinate, former-moved_coordinate}
use Rattle.lbm_symmetry.proofs.Search.{first_below-found}

-- ---- cells by their coordinates

abbrev cell_at : Torus → (ℕ → ℕ) → ℕ
cell_at t at = cell_number t (at 0) (at 1) (at 2)

-- three numbers below the sides are coordinates
record AreCoordinates (t : Torus) (at : ℕ → ℕ) : Type 0 where
  below : (a : ℕ) → a < 3 → at a < side t a

within_at : (t : Torus) (at : ℕ → ℕ) → AreCoordinates t at → Within t (at 0) (at 1) (at 2)
within_at t at are = record { x_within = are.below 0 (lit< tt); y_within = are.below 1 (lit< tt); z_within = are.below 2 (lit< tt) }

cell_at_below : (t : Torus) (at : ℕ → ℕ) → AreCoordinates t at → cell_at t at < cells t
cell_at_below t at are = cell_number_below t (at 0) (at 1) (at 2) (within_at t at are)

coordinate-cell_at : (t : Torus) (at : ℕ → ℕ) → AreCoordinates t at → (a : ℕ) → a < 3 → coordinate t (cell_at t at) a ≡ at a
coordinate-cell_at t at are =
    let within = within_at t at are in
    each_axis (λ (a : ℕ). coordinate t (cell_at t at) a ≡ at a)
    (x_of-cell_number t (at 0) (at 1) (at 2) within.x_within)
    (y_of-cell_number t (at 0) (at 1) (at 2) within.x_within within.y_within)
    (z_of-cell_number t (at 0) (at 1) (at 2) within.x_within within.y_within)

-- equal coordinates, equal cells
cell_at-same : (t : Torus) (f g : ℕ → ℕ) → ((a : ℕ) → a < 3 → f a ≡ g a) → cell_at t f ≡ cell_at t g
cell_at-same t f g same =
    ap (λ (x : ℕ). cell_number t x (f 1) (f 2)) (same 0 (lit< tt)) ∙ ap (λ (y : ℕ). cell_number t (g 0) y (f 2)) (same 1 (lit< tt)) ∙ ap (λ (z : ℕ). cell_number t (g 0) (g 1) z) (same 2 (lit< tt))

cell_at-of : (t : Torus) (x : ℕ) (f : ℕ → ℕ) → ((a : ℕ) → a < 3 → f a ≡ coordinate t x a) → cell_at t f ≡ x
cell_at-of t x f same = cell_at-same t f (coordinate t x) same ∙ cell_number-of t x

some_side : (t : Torus) → HasCells t → (a : ℕ) → a < 3 → 0 < side t a
some_side t some = each_axis (λ (a : ℕ). 0 < side t a) some.some_x some.some_y some.some_z

coordinates_of : (t : Torus) (x : ℕ) → HasCells t → x < cells t → AreCoordinates t (coordinate t x)
coordinates_of t x some known =
    let within = cell_within t x some known in
    record { below = each_axis (λ (a : ℕ). coordinate t x a < side t a) within.x_within within.y_within within.z_within }

-- the coordinates of a neighbour
coordinate-back : (t : Torus) (c : List ℤ) (x : ℕ) → HasCells t → IsUnit c → x < cells t → (a : ℕ) → a < 3 →
    coordinate t (back t c x) a ≡ modulo (pos (coordinate t x a) -ℤ part c a) (side t a)
unfolding IsUnit
coordinate-back t c x some unit known =
    let are = coordinates_of t x some known in
    coordinate-cell_at t (λ a. modulo (pos (coordinate t x a) -ℤ part c a) (side t a))
    (record { below = λ a axis. modulo_below (side t a) (coordinate t x a) (part c a) (are.below a axis) (unit a axis) })

-- ---- a motion of the cells

module _ (d : ℕ) (m : Motion) (t : Torus) (motion : IsMotion d m) (some : HasCells t) where
  abbrev moved_box : Torus
  moved_box = moved_torus m t

  -- what a motion makes of coordinate x of an axis of the box, where axis a of the moved box is that one
  abbrev moved_at : ℕ → ℕ → ℕ
  moved_at a x = moved_coordinate (side t (m.axis a)) (m.reversed a) (m.shift a) x

  some_moved : (a : ℕ) → a < 3 → 0 < side t (m.axis a)
  some_moved a axis = some_side t some (m.axis a) (motion.known a axis)

  pub HasCells-moved : HasCells moved_box
  HasCells-moved = record { some_x = some_moved 0 (lit< tt); some_y = some_moved 1 (lit< tt); some_z = some_moved 2 (lit< tt) }

  moved_below : (at : ℕ → ℕ) → AreCoordinates moved_box (λ a. moved_at a (at a))
  moved_below at = record { below = λ a axis. rw (side-moved m t a axis) (moved_coordinate_below (side t (m.axis a)) (m.reversed a) (m.shift a) (at a) (some_moved a axis)) }

  pub moved_cell_below : (x : ℕ) → moved_cell m t x < cells moved_box
  unfolding moved_cell
  moved_cell_below x = cell_at_below moved_box (λ a. moved_at a (coordinate t x (m.axis a))) (moved_below (λ a. coordinate t x (m.axis a)))

  coordinate-moved : (x a : ℕ) → a < 3 → coordinate moved_box (moved_cell m t x) a ≡ moved_at a (coordinate t x (m.axis a))
  unfolding moved_cell
  coordinate-moved x a axis = coordinate-cell_at moved_box (λ a. moved_at a (coordinate t x (m.axis a))) (moved_below (λ a. coordinate t x (m.axis a))) a axis

  -- the cell behind a cell is moved to the cell behind
  pub moved_cell-back : (c : List ℤ) (x : ℕ) → IsUnit c → x < cells t → moved_cell m t (back t c x) ≡ back moved_box (moved_vector m c) (moved_cell m t x)
  unfolding moved_cell IsUnit
  moved_cell-back c x unit known =
      let are = coordinates_of t x some known in
      cell_at-same moved_box (λ a. moved_at a (coordinate t (back t c x) (m.axis a)))
      (λ a. modulo (pos (coordinate moved_box (moved_cell m t x) a) -ℤ part (moved_vector m c) a) (side moved_box a))
      (λ a axis.
      let b : ℕ = m.axis a in
      let known_b : b < 3 = motion.known a axis in
      ap (moved_at a) (coordinate-back t c x some unit known b known_b)
      ∙ moved_coordinate-step (side t b) (m.reversed a) (m.shift a) (coordinate t x b) (part c b) (are.below b known_b) (unit b known_b)
      ∙ ap (λ (z : ℤ). modulo (pos (moved_at a (coordinate t x b)) -ℤ z) (side t b)) (sym (part-moved m c a axis))
      ∙ ap (λ (k : ℕ). modulo (pos k -ℤ part (moved_vector m c) a) (side t b)) (sym (coordinate-moved x a axis))
      ∙ ap (λ (n : ℕ). modulo (pos (coordinate moved_box (moved_cell m t x) a) -ℤ part (moved_vector m c) a) n) (sym (side-moved m t a axis)))

  -- ---- and back

  abbrev former_at : ℕ → ℕ → ℕ
  former_at y b =
      let a = came_to m b in
      former_coordinate (side t (m.axis a)) (m.reversed a) (m.shift a) (coordinate moved_box y a)

  abbrev former : ℕ → ℕ
  former y = cell_at t (former_at y)

  former_below : (y : ℕ) → AreCoordinates t (former_at y)
  former_below y = record {
    below = λ b axis.
        let a : ℕ = came_to m b in
        let known : a < 3 = came_to_known m b in
        let here : m.axis a ≡ b = axis-came_to d m motion b axis in
        let within : former_at y b < side t (m.axis a) = former_coordinate_below (side t (m.axis a)) (m.reversed a) (m.shift a) (coordinate moved_box y a) (some_moved a known) in
        omega (arith, within, ap (side t) here);
  }

  moved-former : (y : ℕ) → y < cells moved_box → moved_cell m t (former y) ≡ y
  unfolding moved_cell
  moved-former y known =
      let are = coordinates_of moved_box y HasCells-moved known in
      cell_at-of moved_box y (λ a. moved_at a (coordinate t (former y) (m.axis a))) (λ a axis.
      let b : ℕ = m.axis a in
      let there : came_to m b ≡ a = came_to-axis d m motion a axis in
      let inside : coordinate moved_box y a < side t b = rw (← side-moved m t a axis) (are.below a axis) in
      let g = λ (k : ℕ). former_coordinate (side t (m.axis k)) (m.reversed k) (m.shift k) (coordinate moved_box y k) in
      ap (moved_at a) (coordinate-cell_at t (former_at y) (former_below y) b (motion.known a axis))
      ∙ ap (λ (k : ℕ). moved_at a (g k)) there
      ∙ moved-former_coordinate (side t b) (m.reversed a) (m.shift a) (coordinate moved_box y a) inside)

  former-moved : (x : ℕ) → x < cells t → former (moved_cell m t x) ≡ x
  former-moved x known =
      let are = coordinates_of t x some known in
      cell_at-of t x (former_at (moved_cell m t x)) (λ b axis.
      let a : ℕ = came_to m b in
      let known_a : a < 3 = came_to_known m b in
      let here : m.axis a ≡ b = axis-came_to d m motion b axis in
      ap (former_coordinate (side t (m.axis a)) (m.reversed a) (m.shift a)) (coordinate-moved x a known_a)
      ∙ former-moved_coordinate (side t (m.axis a)) (m.reversed a) (m.shift a) (coordinate t x (m.axis a)) (are.below (m.axis a) (motion.known a known_a))
      ∙ ap (coordinate t x) here)

  -- two cells are not moved to one
  pub moved_cell-distinct : (x z : ℕ) → x < cells t → z < cells t → moved_cell m t x ≡ moved_cell m t z → x ≡ z
  moved_cell-distinct x z known_x known_z same = sym (former-moved x known_x) ∙ ap former same ∙ former-moved z known_z

  -- the search finds the cell
  found : (y : ℕ) → y < cells moved_box → (former_cell m t y < cells t) × (eqb (moved_cell m t (former_cell m t y)) y ≡ true)
  unfolding former_cell
  found y known =
      first_below-found (cells t) (λ x. eqb (moved_cell m t x) y) (former y) (cell_at_below t (former_at y) (former_below y)) (eq-eqb (moved_cell m t (former y)) y (moved-former y known))

  pub former_cell_below : (y : ℕ) → y < cells moved_box → former_cell m t y < cells t
  former_cell_below y known = (found y known).0

  pub moved-former_cell : (y : ℕ) → y < cells moved_box → moved_cell m t (former_cell m t y) ≡ y
  moved-former_cell y known = eqb-true (moved_cell m t (former_cell m t y)) y (found y known).1

  pub former_cell-moved : (x : ℕ) → x < cells t → former_cell m t (moved_cell m t x) ≡ x
  former_cell-moved x known =
      let there : moved_cell m t x < cells moved_box = moved_cell_below x in
      moved_cell-distinct (former_cell m t (moved_cell m t x)) x (former_cell_below (moved_cell m t x) there) known (moved-former_cell (moved_cell m t x) there)

  pub former_cell-back : (c : List ℤ) (y : ℕ) → IsUnit c → y < cells moved_box → former_cell m t (back moved_box (moved_vector m c) y) ≡ back t c (former_cell m t y)
  former_cell-back c y unit known =
      let x : ℕ = former_cell m t y in
      let known_x : x < cells t = former_cell_below y known in
      let here : moved_cell m t (back t c x) ≡ back moved_box (moved_vector m c) y =
      moved_cell-back c x unit known_x ∙ ap (back moved_box (moved_vector m c)) (moved-former_cell y known) in
      ap (former_cell m t) (sym here) ∙ former_cell-moved (back t c x) (back_within t c x some unit known_x)
