-- Runs of cells that exchange one after another.
use Rattle.std.proofs.Common.{◌≡◌, ◌⊎◌, ℕ, ◌+◌, ◌-◌, ◌*◌, ◌<◌, ◌≤◌, inl, inr, List, slice_index, refl, sym, ap, ◌∙◌, subst, arith}
use Rattle.std.proofs.lemmas.Bool.{cases_lt}
use Rattle.lbm_space.specs.Torus.{Torus, IsSpace, rows as row_count}
use Rattle.lbm_space.specs.Padded.{row_start}
use Rattle.lbm_space.proofs.RowStarts.{row_start_rises}
use Rattle.lbm_cell.specs.Rows.{entry}
use Rattle.lbm_walk.specs.Places.{InRows, local}
use Rattle.lbm_sweep.specs.Slabs.{Ranges}
use Rattle.lbm_walk.proofs.Places.{place_in_row, row_cells, local_within, local_distinct}
use Rattle.lbm_swap.specs.Exchange.{IsPaired, IsExchangedIn}

module _ (t : Torus) (space : IsSpace t) (rows : ℕ × ℕ) (inside : rows.1 ≤ row_count t) (q : ℕ) (partners : List ℕ) (paired : IsPaired q partners) where
  abbrev Done : ℕ → ℕ → Ranges → Ranges → Type 0
  Done = IsExchangedIn t q partners rows

  pub exchanged_none : (a : ℕ) (m : Ranges) → Done a a m m
  exchanged_none a m = record { exchanged = λ x k low high known. absurd (omega arith); others = λ k p off. refl }

  -- one run, whose cells stand beside each other in the ranges
  pub exchanged_run : (a n at : ℕ) (m new : Ranges) → ((j : ℕ) → j < n → local t rows (a + j) ≡ at + j)
      → ((k j : ℕ) → k < q → j < n → entry new k (at + j) ≡ entry m (slice_index partners k) (at + j))
      → ((k p : ℕ) → (p < at) ⊎ (at + n ≤ p) → entry new k p ≡ entry m k p)
      → Done a (a + n) m new
  exchanged_run a n at m new places run others = record {
    exchanged = λ x k low high known.
        let j : ℕ = x - a in let e : a + j ≡ x = omega arith in let lane : j < n = omega arith in
        subst (λ (y : ℕ). entry new k (local t rows y) ≡ entry m (slice_index partners k) (local t rows y)) e
        (ap (entry new k) (places j lane) ∙ run k j known lane ∙ ap (entry m (slice_index partners k)) (sym (places j lane)));
    others = λ k p off. others k p (elim (cases_lt p at) [
      | inl l ↦ inl l
      | inr h ↦ elim (cases_lt p (at + n)) [
        | inl l ↦ (let j : ℕ = p - at in let lane : j < n = omega arith in let e : at + j ≡ p = omega arith in absurd (off (a + j) (omega arith) (omega arith) (places j lane ∙ e)))
        | inr g ↦ inr g
      ]
    ]);
  }

  -- runs after runs
  pub exchanged_more : (a b c : ℕ) (old now new : Ranges) → a ≤ b → b ≤ c → ((x : ℕ) → a ≤ x → x < c → InRows t rows x) → Done a b old now → Done b c now new → Done a c old new
  exchanged_more a b c old now new up up' all f g = record {
    exchanged = λ x k low high known. elim (cases_lt x b) [
      | inl before ↦ g.others k (local t rows x) (λ y low' high' same. let e = local_distinct t space rows inside y x (all y (omega arith) high') (all x low high) same in omega (arith, e)) ∙ f.exchanged x k low before known
      | inr behind ↦ g.exchanged x k behind high known
          ∙ f.others (slice_index partners k) (local t rows x) (λ y low' high' same. let e = local_distinct t space rows inside y x (all y low' (omega arith)) (all x low high) same in omega (arith, e))
    ];
    others = λ k p off. g.others k p (λ x low high. off x (omega arith) high) ∙ f.others k p (λ x low high. off x low (omega arith));
  }

-- where the cells of a row stand in the ranges of its slab
module _ (t : Torus) (space : IsSpace t) (rows : ℕ × ℕ) (inside : rows.1 ≤ row_count t) (row : ℕ) (low : rows.0 ≤ row) (high : row < rows.1) where
  pub row_place : (c : ℕ) → c < t.nx → local t rows (row * t.nx + c) ≡ (row_start t row + 1 - row_start t rows.0) + c
  row_place c here =
      let known : row < row_count t = omega (arith, inside, high) in
      let place = place_in_row t space row c known here in let rise = row_start_rises t space rows.0 row low (omega (arith, known)) in omega (arith, place, rise)

  pub row_within : (c : ℕ) → c < t.nx → (row_start t row + 1 - row_start t rows.0) + c + 1 ≤ row_start t rows.1 - row_start t rows.0
  row_within c here =
      let place = row_place c here in let at = (local_within t space rows inside (row * t.nx + c) (row_cells t space rows row (row * t.nx + c) inside low high (omega arith) (omega (arith, here)))).2 in omega (arith, place, at)
