-- The offsets of a velocity set on a padded lattice of its dimension.
use Rattle.std.proofs.Common.{◌≡◌, ◌⊎◌, ℕ, zero, suc, ◌<◌, ℤ, pos, ◌+ℤ◌, ◌-ℤ◌, ◌≤ℤ◌, ◌<ℤ◌, neg_ℤ, eqb, false, int_lt, refl, sym, ap, ◌∙◌, inl, inr, arith, lit<}
use Rattle.std.proofs.lemmas.Bool.{ne_eqb, cases_lt, cases_Bool}
use Rattle.std.proofs.lemmas.Int.{ints, clamps}
use Rattle.std.specs.Int.{int_max}
use Rattle.lbm_space.specs.Stencil.{Stencil, IsVelocitySet, velocity, opposite}
use Rattle.lbm_space.specs.Torus.{Torus, IsSpace, cells, padded, back}
use Rattle.lbm_space.specs.Padded.{pads_below, padded_index, offset, place_ahead, greatest_below, reach, wrap}
use Rattle.lbm_space.proofs.Back.{HasCells-from_space, IsUnit, IsReverse, back_within, back-twice}
use Rattle.lbm_space.proofs.Places.{IsUnitMove, some_cell, stepped, stepped_below, padded_index-offset, wrap-stepped, offset-reverse}

-- the greatest is no less than each, and is one of them or 0
greatest_not_negative : (n : ℕ) (f : ℕ → ℤ) → pos 0 ≤ℤ greatest_below n f
greatest_not_negative zero f = omega (arith, ints)
greatest_not_negative (suc n) f = let rest = greatest_not_negative n f in omega (arith, ints, clamps)

greatest_most : (n i : ℕ) (f : ℕ → ℤ) → i < n → f i ≤ℤ greatest_below n f
greatest_most zero i f below = absurd (omega arith)
greatest_most (suc n) i f below = elim (cases_lt i n) [
  | inl front ↦ (let rest = greatest_most n i f front in omega (arith, ints, clamps))
  | inr last ↦ (let same : i ≡ n = omega arith in let value = ap f same in omega (arith, ints, clamps))
]

greatest_taken : (n : ℕ) (f : ℕ → ℤ) → 0 < n → f 0 ≡ pos 0 → (i : ℕ) × (i < n) × (f i ≡ greatest_below n f)
greatest_taken zero f some rest = absurd (omega arith)
greatest_taken (suc zero) f some rest = (0, omega arith, rw rest refl)
greatest_taken (suc (suc n)) f some rest =
    let before = greatest_taken (suc n) f (omega arith) rest in let front = before.1 in
    elim (max_one (greatest_below (suc n) f) (f (suc n))) [
      | inl old ↦ (before.0, omega arith, before.2 ∙ sym old)
      | inr new ↦ (suc n, omega arith, sym new)
    ]
  where
    max_one : (x y : ℤ) → (int_max x y ≡ x) ⊎ (int_max x y ≡ y)
    max_one x y = elim (cases_Bool (int_lt y x)) [ inl on ↦ inl (rw on refl) | inr off ↦ inr (rw off refl) ]

module _ (t : Torus) (space : IsSpace t) (v : Stencil) (laws : IsVelocitySet v) (same : v.dimension ≡ t.dimension) where
  pub velocity_moves : (i : ℕ) → i < v.directions → IsUnitMove t space (velocity v i)
  unfolding IsUnit
  velocity_moves i known = record {
    unit = λ a axis. laws.unit_parts i a known axis;
    flat = λ plane. elim space.plane_or_space [
      | inl two ↦ laws.flat_parts i 2 known (lit< tt) (omega arith)
      | inr three ↦ (let off : eqb t.dimension 2 ≡ false = ne_eqb t.dimension 2 (λ two. omega arith) in let one : pads_below t ≡ 1 = rw off refl in absurd (omega arith))
    ];
  }

  pub opposite_reverses : (i : ℕ) → i < v.directions → IsReverse (velocity v (opposite v i)) (velocity v i)
  unfolding IsReverse
  opposite_reverses i known a axis = let twice = laws.opposite_velocity i a known axis in omega (arith, ints)

  pub reverses_opposite : (i : ℕ) → i < v.directions → IsReverse (velocity v i) (velocity v (opposite v i))
  unfolding IsReverse
  reverses_opposite i known a axis = laws.opposite_velocity i a known axis

  -- the offset of the opposite direction is the negative
  pub offset-opposite : (i : ℕ) → i < v.directions → offset t (velocity v (opposite v i)) ≡ neg_ℤ (offset t (velocity v i))
  offset-opposite i known = offset-reverse t space (velocity v i) (velocity v (opposite v i)) (reverses_opposite i known)

  -- to go ahead and then back along a direction leads to the cell, and so does the other order
  pub ahead_known : (i cell : ℕ) → i < v.directions → cell < cells t → back t (velocity v (opposite v i)) cell < cells t
  ahead_known i cell known here = back_within t (velocity v (opposite v i)) cell (HasCells-from_space t space) (velocity_moves (opposite v i) (laws.opposite_exists i known)).unit here

  pub back_known : (i cell : ℕ) → i < v.directions → cell < cells t → back t (velocity v i) cell < cells t
  back_known i cell known here = back_within t (velocity v i) cell (HasCells-from_space t space) (velocity_moves i known).unit here

  pub back-ahead : (i cell : ℕ) → i < v.directions → cell < cells t → back t (velocity v i) (back t (velocity v (opposite v i)) cell) ≡ cell
  back-ahead i cell known here = back-twice t (velocity v (opposite v i)) (velocity v i) cell (HasCells-from_space t space) (velocity_moves (opposite v i) (laws.opposite_exists i known)).unit (opposite_reverses i known) here

  pub ahead-back : (i cell : ℕ) → i < v.directions → cell < cells t → back t (velocity v (opposite v i)) (back t (velocity v i) cell) ≡ cell
  ahead-back i cell known here = back-twice t (velocity v i) (velocity v (opposite v i)) cell (HasCells-from_space t space) (velocity_moves i known).unit (reverses_opposite i known) here

  -- two cells have different cells ahead
  pub ahead_apart : (i a b : ℕ) → i < v.directions → a < cells t → b < cells t → back t (velocity v (opposite v i)) a ≡ back t (velocity v (opposite v i)) b → a ≡ b
  ahead_apart i a b known here_a here_b one = sym (back-ahead i a known here_a) ∙ ap (back t (velocity v i)) one ∙ back-ahead i b known here_b

  -- direction 0 rests
  pub offset-rest : offset t (velocity v 0) ≡ pos 0
  unfolding offset
  offset-rest = rw (laws.rest 0 (lit< tt), laws.rest 1 (lit< tt), laws.rest 2 (lit< tt)) (omega (arith, ints))

  -- an offset from a cell's place leads to a place of the box, which stands for the cell ahead
  module _ (i cell : ℕ) (known : i < v.directions) (here : cell < cells t) where
    pub moved_low : pos 0 ≤ℤ (pos (padded_index t cell) +ℤ offset t (velocity v i))
    moved_low = rw (padded_index-offset t space (velocity v i) cell (velocity_moves i known)) (omega (arith, ints))

    pub moved_high : (pos (padded_index t cell) +ℤ offset t (velocity v i)) <ℤ pos (padded t)
    moved_high = let below = stepped_below t space (velocity v i) cell (velocity_moves i known) here in rw (padded_index-offset t space (velocity v i) cell (velocity_moves i known)) (omega (arith, ints))

    pub wrap-ahead : (p : ℕ) → pos p ≡ pos (padded_index t cell) +ℤ offset t (velocity v i) → wrap t p ≡ back t (velocity v (opposite v i)) cell
    wrap-ahead p at =
        let led : pos p ≡ pos (stepped t space (velocity v i) cell) = at ∙ padded_index-offset t space (velocity v i) cell (velocity_moves i known) in
        let place : p ≡ stepped t space (velocity v i) cell = cc in
        ap (wrap t) place ∙ wrap-stepped t space (velocity v i) (velocity v (opposite v i)) cell (velocity_moves i known) (opposite_reverses i known) here

  module _ (i cell : ℕ) (known : i < v.directions) (here : cell < cells t) where
    pub place_ahead_is : pos (place_ahead t (velocity v i) cell) ≡ pos (padded_index t cell) +ℤ offset t (velocity v i)
    unfolding place_ahead
    place_ahead_is = let low = moved_low i cell known here in omega (arith, ints)

    pub place_ahead-stepped : place_ahead t (velocity v i) cell ≡ stepped t space (velocity v i) cell
    place_ahead-stepped = let e : pos (place_ahead t (velocity v i) cell) ≡ pos (stepped t space (velocity v i) cell) = place_ahead_is ∙ padded_index-offset t space (velocity v i) cell (velocity_moves i known) in cc

    pub place_ahead_below : place_ahead t (velocity v i) cell < padded t
    place_ahead_below = rw place_ahead-stepped (stepped_below t space (velocity v i) cell (velocity_moves i known) here)

    pub wrap-place_ahead : wrap t (place_ahead t (velocity v i) cell) ≡ back t (velocity v (opposite v i)) cell
    wrap-place_ahead = wrap-ahead i cell known here (place_ahead t (velocity v i) cell) place_ahead_is

  -- no offset is greater than the reach, nor is its size
  pub reach_is : pos (reach t v) ≡ greatest_below v.directions (λ i. offset t (velocity v i))
  unfolding reach
  reach_is = let some = greatest_not_negative v.directions (λ i. offset t (velocity v i)) in omega (arith, ints)

  pub offset_most : (i : ℕ) → i < v.directions → offset t (velocity v i) ≤ℤ pos (reach t v)
  offset_most i known = rw reach_is (greatest_most v.directions i (λ j. offset t (velocity v j)) known)

  pub offset_least : (i : ℕ) → i < v.directions → (pos 0 -ℤ pos (reach t v)) ≤ℤ offset t (velocity v i)
  offset_least i known = let turned = offset-opposite i known in let most = offset_most (opposite v i) (laws.opposite_exists i known) in omega (arith, ints)

  pub reach_taken : (i : ℕ) × (i < v.directions) × (offset t (velocity v i) ≡ pos (reach t v))
  reach_taken = rw reach_is (greatest_taken v.directions (λ i. offset t (velocity v i)) laws.some_direction offset-rest)

  pub reach_below : reach t v < padded t
  reach_below =
      let r = reach_taken in let value = r.2 in let high = moved_high r.0 0 r.1 (some_cell t space) in omega (arith, ints)
