-- Laws of a row of a tile, which its walk cites.
use Rattle.std.proofs.Common.{◌≡◌, ◌⊎◌, ℕ, ◌+◌, ◌<◌, ◌≤◌, List, ℤ, slice_index, inr, refl, ◌∙◌, sym, subst}
use Rattle.lbm_space.specs.Stencil.{Stencil, opposite}
use Rattle.lbm_rows.specs.declared.ways.Ways.{Ways}
use Rattle.lbm_rows.specs.TileRows.{takes, puts, stands, IsAlike, IsExchange, IsSameBut}

pub alike_self : (v : Stencil) (w : Ways) (row : ℕ) (a : List (List ℤ)) → IsAlike v w row a a
alike_self v w row a = record { count = refl; lengths = λ j. refl; beside = λ j off. refl }

pub alike_on : (v : Stencil) (w w' : Ways) (row row' : ℕ) (a b c : List (List ℤ)) → w' ≡ w → row' ≡ row → IsAlike v w row a b → IsAlike v w' row' b c → IsAlike v w row a c
alike_on v w w' row row' a b c ways here first next =
    let second : IsAlike v w row b c = subst (λ (u : Ways × ℕ). IsAlike v u.0 u.1 b c) (λ j. (ways j, here j)) next in record {
      count = second.count ∙ first.count;
      lengths = λ j. second.lengths j ∙ first.lengths j;
      beside = λ j off. second.beside j off ∙ first.beside j off;
    }

pub same_but : (v : Stencil) (w : Ways) (row low high : ℕ) (a : List (List ℤ)) → IsSameBut v w row low high a a
same_but v w row low high a = record { alike = alike_self v w row a; others = λ i p known off. refl }

-- what comes after what, where the ways and the places are told by what stays
pub same_run_on : (v : Stencil) (w w' : Ways) (row row' at n at' n' : ℕ) (a b c : List (List ℤ)) → w' ≡ w → row' ≡ row → at' ≡ at → n' ≡ n
    → IsSameBut v w row at (at + n) a b → IsSameBut v w' row' at' (at' + n') b c → IsSameBut v w row at (at + n) a c
same_run_on v w w' row row' at n at' n' a b c ways here place many first next =
    let second : IsSameBut v w row at (at + n) b c = subst (λ (u : Ways × ℕ × ℕ × ℕ). IsSameBut v u.0 u.1 u.2 (u.2 + u.3) b c) (λ j. (ways j, here j, place j, many j)) next in record {
      alike = alike_on v w w row row a b c refl refl first.alike second.alike;
      others = λ i p known off. second.others i p known off ∙ first.others i p known off;
    }

-- what cells take that are still to come
pub before_kept : (v : Stencil) (w w' : Ways) (row row' low high : ℕ) (a b : List (List ℤ)) → w' ≡ w → row' ≡ row → IsSameBut v w row low high a b
    → (i p : ℕ) → i < v.directions → high ≤ p → stands b (takes w' row' i) (slice_index w'.from i) p ≡ stands a (takes w row i) (slice_index w.from i) p
before_kept v w w' row row' low high a b ways here but i p known past =
    (λ j. stands b (takes (ways j) (here j) i) (slice_index (ways j).from i) p) ∙ but.others i p known (inr past)

-- what other cells have sent
pub after_kept : (v : Stencil) (w w' : Ways) (row row' low high : ℕ) (a b : List (List ℤ)) → w' ≡ w → row' ≡ row → IsExchange v w → IsSameBut v w row low high a b
    → (i p : ℕ) → i < v.directions → (p < low) ⊎ (high ≤ p) → stands b (puts w' row' i) (slice_index w'.to i) p ≡ stands a (puts w row i) (slice_index w.to i) p
after_kept v w w' row row' low high a b ways here exchange but i p known off =
    let o : ℕ = opposite v i in
    (λ j. stands b (puts (ways j) (here j) i) (slice_index (ways j).to i) p)
    ∙ (λ j. stands b (exchange.puts i known j + row) (exchange.to i known j) p)
    ∙ but.others o p (exchange.opposites i known) off
    ∙ (λ j. stands a (sym (exchange.puts i known) j + row) (sym (exchange.to i known) j) p)
