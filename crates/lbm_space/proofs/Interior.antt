-- Which places are interior.
use Rattle.std.proofs.Common.{◌≡◌, ◌⊎◌, ℕ, ◌+◌, ◌-◌, ◌*◌, ◌/◌, ◌%◌, ◌<◌, ◌≤◌, refl, sym, ap, ◌∙◌, inl, inr, arith}
use Rattle.std.proofs.lemmas.Bool.{cases_eq}
use Rattle.std.proofs.Math.Nat.{mod-add-div}
use Rattle.lbm_space.specs.Torus.{Torus, IsSpace, cells, cell_number, x_of, y_of, z_of, padded}
use Rattle.lbm_space.specs.Padded.{padded_box, pads_below, padded_index, wrap, IsInterior, IsPad}
use Rattle.lbm_space.proofs.Back.{HasCells-from_space, Within, cell_within, cell_number_below, x_of-cell_number, y_of-cell_number, z_of-cell_number, line_of-cell_number}
use Rattle.lbm_space.proofs.Places.{wrap-padded_index, wrap_below, index_within}

module _ (t : Torus) (space : IsSpace t) where
  pub interior_index : (cell : ℕ) → cell < cells t → IsInterior t (padded_index t cell)
  unfolding IsInterior
  interior_index cell known = (cell, known, refl)

  -- a place is interior where it is the one for which it stands
  pub stands_for_itself : (p : ℕ) → IsInterior t p → padded_index t (wrap t p) ≡ p
  unfolding IsInterior
  stands_for_itself p at = ap (padded_index t) (ap (wrap t) (sym at.2) ∙ wrap-padded_index t space at.0 at.1) ∙ at.2

  pub interior_or_pad : (p : ℕ) → p < padded t → IsInterior t p ⊎ IsPad t p
  unfolding IsInterior
  interior_or_pad p known = elim (cases_eq (padded_index t (wrap t p)) p) [
    | inl same ↦ inl (wrap t p, wrap_below t space p known, same)
    | inr other ↦ inr (record { known = known; outside = λ at. other (stands_for_itself p at) })
  ]

  -- a place between the pads of a line on which there is an interior place
  pub interior_beside : (p q : ℕ) → IsInterior t p → q / (t.nx + 2) ≡ p / (t.nx + 2) → 1 ≤ q % (t.nx + 2) → q % (t.nx + 2) ≤ t.nx → IsInterior t q
  unfolding IsInterior padded_index
  interior_beside p q at line low high =
      let cell = at.0 in let within = cell_within t cell (HasCells-from_space t space) at.1 in
      let x : ℕ = q % (t.nx + 2) - 1 in let y : ℕ = y_of t cell in let z : ℕ = z_of t cell in
      let new : Within t x y z = record { x_within = omega arith; y_within = within.y_within; z_within = within.z_within } in
      let line_p : p / (t.nx + 2) ≡ (z + pads_below t) * (t.ny + 2) + (y + 1) = ap (λ n. n / (t.nx + 2)) (sym at.2) ∙ line_of-cell_number (padded_box t) (x_of t cell + 1) (y + 1) (z + pads_below t) (index_within t space cell at.1).x_within in
      let whole = mod-add-div q (t.nx + 2) in
      let there : (t.nx + 2) * (q / (t.nx + 2)) ≡ (t.nx + 2) * ((z + pads_below t) * (t.ny + 2) + (y + 1)) = ap (λ n. (t.nx + 2) * n) (line ∙ line_p) in
      let place : cell_number (padded_box t) (x + 1) (y + 1) (z + pads_below t) ≡ q = omega arith in (
        cell_number t x y z,
        cell_number_below t x y z new,
        rw (x_of-cell_number t x y z new.x_within, y_of-cell_number t x y z new.x_within new.y_within, z_of-cell_number t x y z new.x_within new.y_within) place,
      )
