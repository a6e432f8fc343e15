-- Padded places, the cells for which they stand, and what an offset does to them.
use Rattle.std.proofs.Common.{◌≡◌, ◌⊎◌, ℕ, zero, suc, ◌+◌, ◌*◌, ◌<◌, ◌≤◌, List, [], ◌∷◌, ℤ, pos, negsuc, ◌+ℤ◌, ◌-ℤ◌, ◌*ℤ◌, neg_ℤ, unsigned_abs, refl, sym, ap, ◌∙◌, inl, inr, arith, lit<}
use Rattle.std.proofs.lemmas.Bool.{eq-eqb, ne_eqb}
use Rattle.std.proofs.lemmas.Int.{ints}
use Rattle.std.proofs.Math.Nat.{mod-eq_of_lt}
use Rattle.std.proofs.lemmas.Nat.{mod_below, mul-le}
use Rattle.lbm_space.specs.Stencil.{part}
use Rattle.lbm_space.specs.Torus.{Torus, IsSpace, cells, cell_number, x_of, y_of, z_of, modulo, back, padded}
use Rattle.lbm_space.specs.Padded.{padded_box, pads_below, padded_index, offset, wrap}
use Rattle.lbm_space.proofs.Back.{Within, HasCells, HasCells-from_space, cell_within, cell_number_below, x_of-cell_number, y_of-cell_number, z_of-cell_number, cell_number-of, IsUnit, IsReverse}

-- a product moves with its second factor
pub scaled : (w a b : ℕ) (z : ℤ) → pos a ≡ pos b +ℤ z → pos (w * a) ≡ pos (w * b) +ℤ pos w *ℤ z
scaled w a b (pos n) e =
    let same : a ≡ b + n = omega (arith, ints) in
    rw same (omega (arith, ints))
scaled w a b (negsuc n) e =
    let same : b ≡ a + suc n = omega (arith, ints) in
    rw same (omega (arith, ints))

-- a coordinate that moves by no more than it is
pub landed : (n : ℕ) (z : ℤ) → unsigned_abs z ≤ n → pos (unsigned_abs (pos n +ℤ z)) ≡ pos n +ℤ z
landed n z few = omega (arith, ints)

-- two numbers that move, together
both_move : (a b a' b' : ℕ) (x y : ℤ) → pos a' ≡ pos a +ℤ x → pos b' ≡ pos b +ℤ y → pos (a' + b') ≡ pos (a + b) +ℤ (x +ℤ y)
both_move a b a' b' x y p q = omega (arith, ints)

times_negative : (w : ℕ) (z : ℤ) → pos w *ℤ neg_ℤ z ≡ neg_ℤ (pos w *ℤ z)
times_negative w (pos zero) = omega (arith, ints)
times_negative w (pos (suc n)) = refl
times_negative w (negsuc n) = omega (arith, ints)

sum_negative : (a b a' b' : ℤ) → a' ≡ neg_ℤ a → b' ≡ neg_ℤ b → a' +ℤ b' ≡ neg_ℤ (a +ℤ b)
sum_negative a b a' b' p q = omega (arith, ints)

-- a number modulo a side is below it
pub on_ring : (n : ℕ) (z : ℤ) → 0 < n → modulo z n < n
on_ring n (pos a) some = mod_below a n some
on_ring n (negsuc a) some = let low = mod_below a n some in omega arith

module _ (t : Torus) (space : IsSpace t) where
  -- in a plane there are no pads above or below, and one layer of cells
  flat_or_deep : ((pads_below t ≡ 0) × ((padded_box t).nz ≡ 1) × (t.nz ≡ 1)) ⊎ ((pads_below t ≡ 1) × ((padded_box t).nz ≡ t.nz + 2))
  flat_or_deep = elim space.plane_or_space [
    | inl two ↦ (let on = eq-eqb t.dimension 2 two in let one = space.flat two in inl (rw on refl, rw on refl, one))
    | inr three ↦ (let off = ne_eqb t.dimension 2 (λ two. omega arith) in inr (rw off refl, rw off refl))
  ]

  pub layers : (padded_box t).nz ≡ t.nz + 2 * pads_below t
  layers = elim flat_or_deep [
    | inl flat ↦ (let below = flat.0 in let box = flat.1 in let side = flat.2 in rw (below, box, side) refl)
    | inr deep ↦ (let below = deep.0 in let box = deep.1 in rw (below, box) refl)
  ]

  pub few_pads : pads_below t ≤ 1
  few_pads = elim flat_or_deep [ inl flat ↦ (let below = flat.0 in rw below (omega arith)) | inr deep ↦ (let below = deep.0 in rw below (omega arith)) ]

  -- the box of the padded places is not empty
  pub some_places : HasCells (padded_box t)
  some_places = record {
    some_x = omega arith;
    some_y = omega arith;
    some_z = let some = space.some_z in let box = layers in omega arith;
  }

  pub some_cell : 0 < cells t
  some_cell = mul-le 1 1 (t.nx * t.ny) t.nz (mul-le 1 1 t.nx t.ny space.some_x space.some_y) space.some_z

  -- a cell's place lies in the box
  pub index_within : (cell : ℕ) → cell < cells t → Within (padded_box t) (x_of t cell + 1) (y_of t cell + 1) (z_of t cell + pads_below t)
  index_within cell known =
      let within = cell_within t cell (HasCells-from_space t space) known in let x = within.x_within in let y = within.y_within in let z = within.z_within in let box = layers in
      record { x_within = omega arith; y_within = omega arith; z_within = omega arith }

  pub padded_index_below : (cell : ℕ) → cell < cells t → padded_index t cell < padded t
  unfolding padded_index
  padded_index_below cell known = cell_number_below (padded_box t) _ _ _ (index_within cell known)

  -- the cell for which the place at three coordinates stands
  pub wrap-cell_number : (x y z : ℕ) → Within (padded_box t) x y z → wrap t (cell_number (padded_box t) x y z) ≡ cell_number t (modulo (pos x -ℤ pos 1) t.nx) (modulo (pos y -ℤ pos 1) t.ny) (modulo (pos z -ℤ pos (pads_below t)) t.nz)
  unfolding wrap
  wrap-cell_number x y z within =
      rw (x_of-cell_number (padded_box t) x y z within.x_within, y_of-cell_number (padded_box t) x y z within.x_within within.y_within, z_of-cell_number (padded_box t) x y z within.x_within within.y_within) refl

  -- an interior place stands for its own cell
  pub wrap-padded_index : (cell : ℕ) → cell < cells t → wrap t (padded_index t cell) ≡ cell
  unfolding padded_index
  wrap-padded_index cell known =
      let within = cell_within t cell (HasCells-from_space t space) known in
      let x : modulo (pos (x_of t cell + 1) -ℤ pos 1) t.nx ≡ x_of t cell = back_again t.nx 1 (x_of t cell) within.x_within in
      let y : modulo (pos (y_of t cell + 1) -ℤ pos 1) t.ny ≡ y_of t cell = back_again t.ny 1 (y_of t cell) within.y_within in
      let z : modulo (pos (z_of t cell + pads_below t) -ℤ pos (pads_below t)) t.nz ≡ z_of t cell = back_again t.nz (pads_below t) (z_of t cell) within.z_within in
      wrap-cell_number _ _ _ (index_within cell known) ∙ rw (x, y, z) (cell_number-of t cell)
    where
      back_again : (n pads x : ℕ) → x < n → modulo (pos (x + pads) -ℤ pos pads) n ≡ x
      back_again n pads x below = let e : pos (x + pads) -ℤ pos pads ≡ pos x = omega (arith, ints) in rw e (mod-eq_of_lt below)

  pub padded_index_apart : (a b : ℕ) → a < cells t → b < cells t → padded_index t a ≡ padded_index t b → a ≡ b
  padded_index_apart a b known_a known_b same = sym (wrap-padded_index a known_a) ∙ ap (wrap t) same ∙ wrap-padded_index b known_b

  pub wrap_below : (p : ℕ) → p < padded t → wrap t p < cells t
  unfolding wrap
  wrap_below p known =
      cell_number_below t _ _ _ (record {
        x_within = on_ring t.nx _ space.some_x;
        y_within = on_ring t.ny _ space.some_y;
        z_within = on_ring t.nz _ space.some_z;
      })

  -- a vector that leads from each cell to a place of the box
  pub record IsUnitMove (c : List ℤ) : Type 0 where
    pub unit : IsUnit c
    pub flat : pads_below t ≡ 0 → part c 2 ≡ pos 0

  -- the coordinates to which it leads
  abbrev to_x : List ℤ → ℕ → ℕ
  to_x c cell = unsigned_abs (pos (x_of t cell + 1) +ℤ part c 0)

  abbrev to_y : List ℤ → ℕ → ℕ
  to_y c cell = unsigned_abs (pos (y_of t cell + 1) +ℤ part c 1)

  abbrev to_z : List ℤ → ℕ → ℕ
  to_z c cell = unsigned_abs (pos (z_of t cell + pads_below t) +ℤ part c 2)

  x_lands : (c : List ℤ) (cell : ℕ) → IsUnitMove c → pos (to_x c cell) ≡ pos (x_of t cell + 1) +ℤ part c 0
  unfolding IsUnit
  x_lands c cell move = let unit = move.unit 0 (lit< tt) in landed (x_of t cell + 1) (part c 0) (omega arith)

  y_lands : (c : List ℤ) (cell : ℕ) → IsUnitMove c → pos (to_y c cell) ≡ pos (y_of t cell + 1) +ℤ part c 1
  unfolding IsUnit
  y_lands c cell move = let unit = move.unit 1 (lit< tt) in landed (y_of t cell + 1) (part c 1) (omega arith)

  -- the last part is no more than the pads below
  depth : (c : List ℤ) → IsUnitMove c → unsigned_abs (part c 2) ≤ pads_below t
  unfolding IsUnit
  depth c move = elim flat_or_deep [
    | inl plane ↦ (let none = move.flat plane.0 in rw none (omega arith))
    | inr deep ↦ (let unit = move.unit 2 (lit< tt) in let below = deep.0 in rw below unit)
  ]

  z_lands : (c : List ℤ) (cell : ℕ) → IsUnitMove c → pos (to_z c cell) ≡ pos (z_of t cell + pads_below t) +ℤ part c 2
  z_lands c cell move = let few = depth c move in landed (z_of t cell + pads_below t) (part c 2) (omega arith)

  step_within : (c : List ℤ) (cell : ℕ) → IsUnitMove c → cell < cells t → Within (padded_box t) (to_x c cell) (to_y c cell) (to_z c cell)
  unfolding IsUnit
  step_within c cell move known =
      let within = cell_within t cell (HasCells-from_space t space) known in
      let x = x_lands c cell move in let y = y_lands c cell move in let z = z_lands c cell move in
      let unit_x = move.unit 0 (lit< tt) in let unit_y = move.unit 1 (lit< tt) in let few = depth c move in let box = layers in
      let below_x = within.x_within in let below_y = within.y_within in let below_z = within.z_within in
      record { x_within = omega (arith, ints, x); y_within = omega (arith, ints, y); z_within = omega (arith, ints, z, box) }

  -- the place to which the vector leads
  pub stepped : List ℤ → ℕ → ℕ
  stepped c cell = cell_number (padded_box t) (to_x c cell) (to_y c cell) (to_z c cell)

  pub padded_index-offset : (c : List ℤ) (cell : ℕ) → IsUnitMove c → pos (padded_index t cell) +ℤ offset t c ≡ pos (stepped c cell)
  unfolding padded_index offset stepped
  padded_index-offset c cell move =
      let w : ℕ = t.nx + 2 in let h : ℕ = t.ny + 2 in
      let x : ℕ = x_of t cell + 1 in let y : ℕ = y_of t cell + 1 in let z : ℕ = z_of t cell + pads_below t in
      let layer : pos (h * to_z c cell) ≡ pos (h * z) +ℤ pos h *ℤ part c 2 = scaled h (to_z c cell) z (part c 2) (z_lands c cell move) in
      let line : pos (to_y c cell + h * to_z c cell) ≡ pos (y + h * z) +ℤ (part c 1 +ℤ pos h *ℤ part c 2) =
      both_move y (h * z) (to_y c cell) (h * to_z c cell) (part c 1) (pos h *ℤ part c 2) (y_lands c cell move) layer in
      let plane : pos (w * (to_y c cell + h * to_z c cell)) ≡ pos (w * (y + h * z)) +ℤ pos w *ℤ (part c 1 +ℤ pos h *ℤ part c 2) =
      scaled w (to_y c cell + h * to_z c cell) (y + h * z) (part c 1 +ℤ pos h *ℤ part c 2) line in
      sym (both_move x (w * (y + h * z)) (to_x c cell) (w * (to_y c cell + h * to_z c cell)) (part c 0) (pos w *ℤ (part c 1 +ℤ pos h *ℤ part c 2)) (x_lands c cell move) plane)

  pub stepped_below : (c : List ℤ) (cell : ℕ) → IsUnitMove c → cell < cells t → stepped c cell < padded t
  unfolding stepped
  stepped_below c cell move known = cell_number_below (padded_box t) (to_x c cell) (to_y c cell) (to_z c cell) (step_within c cell move known)

  -- the place to which a vector leads stands for the cell behind by the reversed vector
  pub wrap-stepped : (c b : List ℤ) (cell : ℕ) → IsUnitMove c → IsReverse b c → cell < cells t → wrap t (stepped c cell) ≡ back t b cell
  unfolding stepped IsReverse
  wrap-stepped c b cell move reverse known =
      let x : pos (to_x c cell) -ℤ pos 1 ≡ pos (x_of t cell) -ℤ part b 0 = turned (x_of t cell) 1 (to_x c cell) (part c 0) (part b 0) (x_lands c cell move) (reverse 0 (lit< tt)) in
      let y : pos (to_y c cell) -ℤ pos 1 ≡ pos (y_of t cell) -ℤ part b 1 = turned (y_of t cell) 1 (to_y c cell) (part c 1) (part b 1) (y_lands c cell move) (reverse 1 (lit< tt)) in
      let z : pos (to_z c cell) -ℤ pos (pads_below t) ≡ pos (z_of t cell) -ℤ part b 2 = turned (z_of t cell) (pads_below t) (to_z c cell) (part c 2) (part b 2) (z_lands c cell move) (reverse 2 (lit< tt)) in
      wrap-cell_number (to_x c cell) (to_y c cell) (to_z c cell) (step_within c cell move known)
      ∙ (λ i. cell_number t (modulo (x i) t.nx) (modulo (y i) t.ny) (modulo (z i) t.nz))
    where
      turned : (n pads to : ℕ) (z b : ℤ) → pos to ≡ pos (n + pads) +ℤ z → z ≡ neg_ℤ b → pos to -ℤ pos pads ≡ pos n -ℤ b
      turned n pads to z b e r = omega (arith, ints)

  -- the reversed vector
  pub reversed : List ℤ → List ℤ
  reversed c = neg_ℤ (part c 0) ∷ neg_ℤ (part c 1) ∷ neg_ℤ (part c 2) ∷ []

  pub reverses : (c : List ℤ) → IsReverse c (reversed c)
  unfolding IsReverse reversed
  reverses c zero axis = refl
  reverses c (suc zero) axis = refl
  reverses c (suc (suc zero)) axis = refl
  reverses c (suc (suc (suc a))) axis = absurd (omega arith)

  pub reversed_moves : (c : List ℤ) → IsUnitMove c → IsUnitMove (reversed c)
  unfolding IsUnit IsReverse
  reversed_moves c move = record {
    unit = λ a axis. let unit = move.unit a axis in rw (reverses c a axis) (omega (arith, ints));
    flat = λ plane. let none = move.flat plane in rw (reverses c 2 (lit< tt), none) refl;
  }

  pub offset-reverse : (c b : List ℤ) → IsReverse c b → offset t b ≡ neg_ℤ (offset t c)
  unfolding offset IsReverse
  offset-reverse c b reverse =
      let layer : pos (t.ny + 2) *ℤ part b 2 ≡ neg_ℤ (pos (t.ny + 2) *ℤ part c 2) = ap (λ z. pos (t.ny + 2) *ℤ z) (reverse 2 (lit< tt)) ∙ times_negative (t.ny + 2) (part c 2) in
      let line : part b 1 +ℤ pos (t.ny + 2) *ℤ part b 2 ≡ neg_ℤ (part c 1 +ℤ pos (t.ny + 2) *ℤ part c 2) = sum_negative _ _ _ _ (reverse 1 (lit< tt)) layer in
      let plane : pos (t.nx + 2) *ℤ (part b 1 +ℤ pos (t.ny + 2) *ℤ part b 2) ≡ neg_ℤ (pos (t.nx + 2) *ℤ (part c 1 +ℤ pos (t.ny + 2) *ℤ part c 2)) =
      ap (λ z. pos (t.nx + 2) *ℤ z) line ∙ times_negative (t.nx + 2) (part c 1 +ℤ pos (t.ny + 2) *ℤ part c 2) in
      sum_negative _ _ _ _ (reverse 0 (lit< tt)) plane

  -- the place at a negative offset from a cell's stands for the cell behind
  pub wrap-behind : (c : List ℤ) (cell p : ℕ) → IsUnitMove c → cell < cells t → pos p ≡ pos (padded_index t cell) -ℤ offset t c → wrap t p ≡ back t c cell
  wrap-behind c cell p move known at =
      let led = padded_index-offset (reversed c) cell (reversed_moves c move) in
      let turned = offset-reverse c (reversed c) (reverses c) in
      let here : p ≡ stepped (reversed c) cell = same_place (at ∙ sym (ap (λ z. pos (padded_index t cell) +ℤ z) turned) ∙ led) in
      ap (wrap t) here ∙ wrap-stepped (reversed c) c cell (reversed_moves c move) (reverses c) known
    where
      same_place : {a b : ℕ} → pos a ≡ pos b → a ≡ b
      same_place e = cc
