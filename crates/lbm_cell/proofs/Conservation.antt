use Rattle.std.proofs.Common.{◌≡◌, ℕ, ◌+◌, ◌-◌, ◌<◌, ℤ, ◌+ℤ◌, true, false, List, eqb, refl, arith, inl, inr, ◌∙◌}
use Rattle.std.proofs.lemmas.Int.{ints}
use Rattle.std.proofs.lemmas.Bool.{ne_eqb, eq-eqb, cases_eq}
use Rattle.lbm_space.specs.Sum.{sum_from_one}
use Rattle.lbm_space.specs.Stencil.{Stencil, opposite, IsVelocitySet}
use Rattle.lbm_space.proofs.Sums.{sum_below-same, sum_below-from_one, sum_below-reindex}
use Rattle.lbm_cell.specs.Moments.{density}
use Rattle.lbm_cell.specs.Collision.{RelaxationRates, with_rest, collision, reflection, relaxation, push, equilibrium, first_population}

-- the rest population makes the density what it is to be
pub density-with_rest : (v : Stencil) (rho : ℤ) (moving : ℕ → ℤ) → 0 < v.directions → density v (with_rest v rho moving) ≡ rho
density-with_rest v rho moving some =
    let others : sum_from_one v.directions (with_rest v rho moving) ≡ sum_from_one v.directions moving =
    sum_below-same (v.directions - 1) (λ k. with_rest v rho moving (k + 1)) (λ k. moving (k + 1))
    (λ k _. let off : eqb (k + 1) 0 ≡ false = ne_eqb (k + 1) 0 (λ e. omega arith) in rw off refl) in
    let split : density v (with_rest v rho moving) ≡ with_rest v rho moving 0 +ℤ sum_from_one v.directions (with_rest v rho moving) =
    sum_below-from_one v.directions (with_rest v rho moving) some in
    omega (arith, ints, others, split)

-- it depends on the moving populations alone
pub with_rest-same : (v : Stencil) (rho : ℤ) (f g : ℕ → ℤ) → ((k : ℕ) → 0 < k → k < v.directions → f k ≡ g k) → (i : ℕ) → i < v.directions → with_rest v rho f i ≡ with_rest v rho g i
with_rest-same v rho f g same i known = elim (cases_eq i 0) [
  | inl first ↦ (
      let on : eqb i 0 ≡ true = eq-eqb i 0 first in
      let sums : sum_from_one v.directions f ≡ sum_from_one v.directions g = sum_below-same (v.directions - 1) (λ k. f (k + 1)) (λ k. g (k + 1)) (λ k below. same (k + 1) (omega arith) (omega arith)) in
      rw (on, sums) refl)
  | inr ne ↦ (let off : eqb i 0 ≡ false = ne_eqb i 0 ne in rw off (same i (omega arith) known))
]

-- populations that are those of another cell have its density
pub density-same : (v : Stencil) (f g : ℕ → ℤ) (rho : ℤ) → ((i : ℕ) → i < v.directions → f i ≡ g i) → density v g ≡ rho → density v f ≡ rho
density-same v f g rho same is = sum_below-same v.directions f g same ∙ is

-- a collision keeps the density
pub density-collision : (v : Stencil) (r : RelaxationRates) (g : List ℤ) (f : ℕ → ℤ) → 0 < v.directions → density v (collision v r g f) ≡ density v f
density-collision v r g f some = density-with_rest v (density v f) (λ i. f i +ℤ relaxation v r f i +ℤ push v g i) some

-- the first populations have the given density
pub density-first_population : (v : Stencil) (rho : ℤ) (j : List ℤ) → 0 < v.directions → density v (first_population v rho j) ≡ rho
density-first_population v rho j some = density-with_rest v rho (equilibrium v rho j) some

-- so does bounce-back
pub density-reflection : (v : Stencil) (f : ℕ → ℤ) → IsVelocitySet v → density v (reflection v f) ≡ density v f
density-reflection v f laws =
    sum_below-reindex v.directions (opposite v) (opposite v) f laws.opposite_exists laws.opposite_exists laws.opposite_twice laws.opposite_twice
