-- The place behind a cell is the place ahead of it along the opposite direction.
use Rattle.std.proofs.Common.{◌≡◌, ℕ, ◌<◌, pos, ◌-ℤ◌, ap, subst, ◌∙◌, arith}
use Rattle.std.proofs.lemmas.Int.{ints}
use Rattle.lbm_space.specs.Stencil.{Stencil, IsVelocitySet, velocity, opposite}
use Rattle.lbm_space.specs.Torus.{Torus, IsSpace, cells, back, padded}
use Rattle.lbm_space.specs.Padded.{padded_index, offset, place_ahead, IsInterior}
use Rattle.lbm_space.proofs.Offsets.{offset-opposite, place_ahead_is, place_ahead_below}
use Rattle.lbm_arrays.specs.Pads.{stand}
use Rattle.lbm_arrays.specs.Steps.{behind, place_behind, IsPlace}
use Rattle.lbm_arrays.proofs.Padding.{stand-ahead}

module _ (t : Torus) (space : IsSpace t) (v : Stencil) (laws : IsVelocitySet v) (fits : v.dimension ≡ t.dimension) (i : ℕ) (known : i < v.directions) where
  module _ (cell : ℕ) (here : cell < cells t) where
    behind-ahead : pos (place_ahead t (velocity v (opposite v i)) cell) ≡ behind t (velocity v i) cell
    behind-ahead =
        let turned = offset-opposite t space v laws fits i known in let ahead = place_ahead_is t space v laws fits (opposite v i) cell (laws.opposite_exists i known) here in
        omega (arith, ints)

    place_behind-ahead : place_behind t (velocity v i) cell ≡ place_ahead t (velocity v (opposite v i)) cell
    place_behind-ahead = let e = behind-ahead in omega (arith, ints)

    pub place_behind_is : pos (place_behind t (velocity v i) cell) ≡ behind t (velocity v i) cell
    place_behind_is = let e = behind-ahead in omega (arith, ints)

    pub place_behind_below : place_behind t (velocity v i) cell < padded t
    place_behind_below = let e = place_behind-ahead in let below = place_ahead_below t space v laws fits (opposite v i) cell (laws.opposite_exists i known) here in omega arith

    pub behind_inside : IsPlace (padded t) (behind t (velocity v i) cell)
    behind_inside = let is = place_behind_is in let below = place_behind_below in (omega (arith, ints, is), omega (arith, ints, is, below))

    -- it stands for the cell behind
    pub stand-behind : stand t (place_behind t (velocity v i) cell) ≡ padded_index t (back t (velocity v i) cell)
    stand-behind =
        ap (stand t) place_behind-ahead ∙ stand-ahead t space 0 0 0 v laws fits (opposite v i) (laws.opposite_exists i known) cell here
        ∙ ap (λ (o : ℕ). padded_index t (back t (velocity v o) cell)) (laws.opposite_twice i known)

  -- so the place behind a cell's place is a place of the box
  pub interior_behind : (p : ℕ) → IsInterior t p → IsPlace (padded t) (pos p -ℤ offset t (velocity v i))
  unfolding IsInterior
  interior_behind p is = subst (λ (q : ℕ). IsPlace (padded t) (pos q -ℤ offset t (velocity v i))) is.2 (behind_inside is.0 is.1)
