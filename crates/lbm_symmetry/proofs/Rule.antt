-- What one cell does is moved with its directions.
use Rattle.std.proofs.Common.{◌≡◌, ℕ, zero, suc, ◌+◌, ◌-◌, ◌<◌, ◌≤◌, Bool, true, false, eqb, List, [], ◌∷◌, ℤ, pos, ◌+ℤ◌, ◌-ℤ◌, ◌*ℤ◌, neg_ℤ, refl, sym, ap, ◌∙◌, inl, inr, arith, lit<}
use Rattle.std.specs.Prelude.{◌&&◌, int_le}
use Rattle.std.proofs.lemmas.Int.{ints}
use Rattle.std.proofs.lemmas.Bool.{cases_Bool, cases_eq, eq-eqb, ne_eqb, and_from, both_ways}
use Rattle.lbm_space.specs.Sum.{sum_below, sum_from_one, all_below}
use Rattle.lbm_space.specs.Stencil.{Stencil, IsVelocitySet, part, dot, velocity, weight, opposite}
use Rattle.lbm_space.specs.Laws.{all_below_at}
use Rattle.lbm_space.proofs.Sums.{sum_below-same, sum_below-reindex, sum_below-from_one}
use Rattle.lbm_cell.specs.Moments.{density, momentum_part, momentum, in_limits}
use Rattle.lbm_cell.specs.Collision.{RelaxationRates, equilibrium_numerator, floor_div, departure, relaxation, push, with_rest, collision, reflection, equilibrium, first_population}
use Rattle.lbm_symmetry.specs.Motions.{Motion, IsMotion, signed, moved_vector}
use Rattle.lbm_symmetry.proofs.Axes.{each_axis, signed-product, part-moved, dot-moved}
use Rattle.lbm_symmetry.proofs.Directions.{Turns}

-- sums and tests in another order
pub sum-signed : (r : Bool) (n : ℕ) (f : ℕ → ℤ) → sum_below n (λ k. signed r (f k)) ≡ signed r (sum_below n f)
sum-signed true zero f = refl
sum-signed true (suc n) f = omega (arith, ints, sum-signed true n f)
sum-signed false n f = refl

all_below-each : (n : ℕ) (test : ℕ → Bool) → ((k : ℕ) → k < n → test k ≡ true) → all_below n test ≡ true
all_below-each zero test each = refl
all_below-each (suc n) test each = and_from (all_below n test) (test n) (all_below-each n test (λ k below. each k (omega arith))) (each n (omega arith))

all_below-reindex : (n : ℕ) (to from : ℕ → ℕ) (test : ℕ → Bool) → ((k : ℕ) → k < n → to k < n) → ((k : ℕ) → k < n → from k < n) → ((k : ℕ) → k < n → to (from k) ≡ k) → all_below n (λ k. test (to k)) ≡ all_below n test
all_below-reindex n to from test to_below from_below to_from = elim (cases_Bool (all_below n test)) [
  | inl all ↦ all_below-each n (λ k. test (to k)) (λ k below. all_below_at test n all (to k) (to_below k below)) ∙ sym all
  | inr some ↦ elim (cases_Bool (all_below n (λ k. test (to k)))) [
    | inl each ↦ absurd (both_ways (all_below n test) some (all_below-each n test (λ k below. ap test (sym (to_from k below)) ∙ all_below_at (λ k. test (to k)) n each (from k) (from_below k below))))
    | inr none ↦ none ∙ sym some
  ]
]

-- the populations g are the populations f, each moved to its direction
pub record AreMoved (v : Stencil) (from : ℕ → ℕ) (f g : ℕ → ℤ) : Type 0 where
  pub same : (j : ℕ) → j < v.directions → g j ≡ f (from j)

module _ (d : ℕ) (m : Motion) (v : Stencil) (from to : ℕ → ℕ) (motion : IsMotion d m) (laws : IsVelocitySet v) (turns : Turns m v from to) where
  sum-moved : (f g : ℕ → ℤ) → AreMoved v from f g → sum_below v.directions g ≡ sum_below v.directions f
  sum-moved f g moved = sum_below-same v.directions g (λ j. f (from j)) moved.same ∙ sum_below-reindex v.directions from to f turns.from_known turns.to_known turns.to-from turns.from-to

  pub density-moved : (f g : ℕ → ℤ) → AreMoved v from f g → density v g ≡ density v f
  density-moved f g moved = sum-moved f g moved

  part-velocity : (j a : ℕ) → j < v.directions → a < 3 → part (velocity v j) a ≡ signed (m.reversed a) (part (velocity v (from j)) (m.axis a))
  part-velocity j a known axis = ap (λ (u : List ℤ). part u a) (turns.velocities j known) ∙ part-moved m (velocity v (from j)) a axis

  pub momentum_part-moved : (f g : ℕ → ℤ) (a : ℕ) → AreMoved v from f g → a < 3 → momentum_part v g a ≡ signed (m.reversed a) (momentum_part v f (m.axis a))
  momentum_part-moved f g a moved axis =
      let r : Bool = m.reversed a in
      let b : ℕ = m.axis a in
      let carried : ℕ → ℤ = λ i. part (velocity v i) b *ℤ f i in
      sum-moved (λ i. signed r (carried i)) (λ j. part (velocity v j) a *ℤ g j) (record {
        same = λ j known.
            ap (λ (c : ℤ). c *ℤ g j) (part-velocity j a known axis) ∙ ap (λ (z : ℤ). signed r (part (velocity v (from j)) b) *ℤ z) (moved.same j known)
            ∙ signed-product r (part (velocity v (from j)) b) (f (from j));
      })
      ∙ sum-signed r v.directions carried

  part-momentum : (f : ℕ → ℤ) (b : ℕ) → b < 3 → part (momentum v f) b ≡ momentum_part v f b
  part-momentum f = each_axis (λ (b : ℕ). part (momentum v f) b ≡ momentum_part v f b) refl refl refl

  pub momentum-moved : (f g : ℕ → ℤ) → AreMoved v from f g → momentum v g ≡ moved_vector m (momentum v f)
  momentum-moved f g moved =
      let each : (a : ℕ) → a < 3 → momentum_part v g a ≡ signed (m.reversed a) (part (momentum v f) (m.axis a)) = λ a axis.
      momentum_part-moved f g a moved axis ∙ ap (signed (m.reversed a)) (sym (part-momentum f (m.axis a) (motion.known a axis))) in
      let x = each 0 (lit< tt) in
      let y = each 1 (lit< tt) in
      let z = each 2 (lit< tt) in
      cc

  pub in_limits-moved : (f g : ℕ → ℤ) → AreMoved v from f g → in_limits v g ≡ in_limits v f
  in_limits-moved f g moved =
      let tested : all_below v.directions (λ j. int_le (pos 0) (g j)) ≡ all_below v.directions (λ i. int_le (pos 0) (f i)) =
      all_below-same v.directions (λ j. int_le (pos 0) (g j)) (λ j. int_le (pos 0) (f (from j))) (λ j known. ap (int_le (pos 0)) (moved.same j known))
      ∙ all_below-reindex v.directions from to (λ i. int_le (pos 0) (f i)) turns.from_known turns.to_known turns.from-to in
      ap (λ (b : Bool). b && int_le (pos 442368) (density v g) && int_le (density v g) (pos 1769472)) tested
      ∙ ap (λ (rho : ℤ). all_below v.directions (λ i. int_le (pos 0) (f i)) && int_le (pos 442368) rho && int_le rho (pos 1769472)) (density-moved f g moved)
    where
      all_below-same : (n : ℕ) (p q : ℕ → Bool) → ((k : ℕ) → k < n → p k ≡ q k) → all_below n p ≡ all_below n q
      all_below-same zero p q same = refl
      all_below-same (suc n) p q same = ap (λ (b : Bool). b && p n) (all_below-same n p q (λ k below. same k (omega arith))) ∙ ap (λ (b : Bool). all_below n q && b) (same n (omega arith))

  -- ---- collisions

  numerator-moved : (rho : ℤ) (u : List ℤ) (j : ℕ) → j < v.directions → equilibrium_numerator rho (moved_vector m u) (velocity v j) ≡ equilibrium_numerator rho u (velocity v (from j))
  numerator-moved rho u j known =
      let c : List ℤ = velocity v (from j) in
      let by = λ (x y : ℤ). pos 2 *ℤ (rho *ℤ rho) +ℤ pos 6 *ℤ (rho *ℤ x) +ℤ pos 9 *ℤ (x *ℤ x) -ℤ pos 3 *ℤ y in
      ap (equilibrium_numerator rho (moved_vector m u)) (turns.velocities j known)
      ∙ ap (λ (x : ℤ). by x (dot (moved_vector m u) (moved_vector m u))) (dot-moved d m c u motion)
      ∙ ap (by (dot c u)) (dot-moved d m u u motion)

  departure-moved : (f g : ℕ → ℤ) (j : ℕ) → AreMoved v from f g → j < v.directions → departure v g j ≡ departure v f (from j)
  departure-moved f g j moved known =
      let i : ℕ = from j in
      let by = λ (w e rho x : ℤ). w *ℤ e -ℤ pos 2 *ℤ (v.denominator *ℤ rho *ℤ x) in
      ap (λ (w : ℤ). by w (equilibrium_numerator (density v g) (momentum v g) (velocity v j)) (density v g) (g j)) (sym (turns.weights j known))
      ∙ ap (λ (u : List ℤ). by (weight v i) (equilibrium_numerator (density v g) u (velocity v j)) (density v g) (g j)) (momentum-moved f g moved)
      ∙ ap (λ (e : ℤ). by (weight v i) e (density v g) (g j)) (numerator-moved (density v g) (momentum v f) j known)
      ∙ ap (λ (rho : ℤ). by (weight v i) (equilibrium_numerator rho (momentum v f) (velocity v i)) rho (g j)) (density-moved f g moved)
      ∙ ap (by (weight v i) (equilibrium_numerator (density v f) (momentum v f) (velocity v i)) (density v f)) (moved.same j known)

  relaxation-moved : (r : RelaxationRates) (f g : ℕ → ℤ) (j : ℕ) → AreMoved v from f g → j < v.directions → relaxation v r g j ≡ relaxation v r f (from j)
  relaxation-moved r f g j moved known =
      let i : ℕ = from j in
      let o : ℕ = opposite v j in
      let by = λ (a b rho : ℤ). floor_div (r.p *ℤ (a +ℤ b) +ℤ r.m *ℤ (a -ℤ b)) (pos 4 *ℤ (v.denominator *ℤ rho *ℤ r.q)) in
      ap (λ (a : ℤ). by a (departure v g o) (density v g)) (departure-moved f g j moved known)
      ∙ ap (λ (b : ℤ). by (departure v f i) b (density v g)) (departure-moved f g o moved (laws.opposite_exists j known) ∙ ap (departure v f) (turns.opposites j known))
      ∙ ap (by (departure v f i) (departure v f (opposite v i))) (density-moved f g moved)

  pub push-moved : (u : List ℤ) (j : ℕ) → j < v.directions → push v (moved_vector m u) j ≡ push v u (from j)
  push-moved u j known =
      let i : ℕ = from j in
      ap (λ (w : ℤ). w *ℤ dot (velocity v j) (moved_vector m u)) (sym (turns.weights j known))
      ∙ ap (λ (c : List ℤ). weight v i *ℤ dot c (moved_vector m u)) (turns.velocities j known)
      ∙ ap (λ (z : ℤ). weight v i *ℤ z) (dot-moved d m (velocity v i) u motion)

  -- only direction 0 was direction 0
  from-moving : (j : ℕ) → j < v.directions → (j ≡ 0 → ⊥) → from j ≡ 0 → ⊥
  from-moving j known moving still = moving (sym (turns.to-from j known) ∙ ap to (still ∙ sym turns.rest) ∙ turns.to-from 0 laws.some_direction)

  with_rest-moved : (rho : ℤ) (f g : ℕ → ℤ) (j : ℕ) → AreMoved v from f g → j < v.directions → with_rest v rho g j ≡ with_rest v rho f (from j)
  with_rest-moved rho f g j moved known = elim (cases_eq j 0) [
    | inl first ↦ (
        let on : eqb j 0 ≡ true = eq-eqb j 0 first in
        let there : eqb (from j) 0 ≡ true = eq-eqb (from j) 0 (ap from first ∙ turns.rest) in
        let all = sum-moved f g moved in
        let of_g = sum_below-from_one v.directions g laws.some_direction in
        let of_f = sum_below-from_one v.directions f laws.some_direction in
        let still : g 0 ≡ f 0 = moved.same 0 laws.some_direction ∙ ap f turns.rest in
        rw (on, there) (omega (arith, ints, all, of_g, of_f, still)))
    | inr other ↦ (
        let off : eqb j 0 ≡ false = ne_eqb j 0 other in
        let there : eqb (from j) 0 ≡ false = ne_eqb (from j) 0 (from-moving j known other) in
        rw (off, there) (moved.same j known))
  ]

  pub collision-moved : (r : RelaxationRates) (u : List ℤ) (f g : ℕ → ℤ) (j : ℕ) → AreMoved v from f g → j < v.directions → collision v r (moved_vector m u) g j ≡ collision v r u f (from j)
  collision-moved r u f g j moved known =
      let f_sent : ℕ → ℤ = λ i. f i +ℤ relaxation v r f i +ℤ push v u i in
      let g_sent : ℕ → ℤ = λ k. g k +ℤ relaxation v r g k +ℤ push v (moved_vector m u) k in
      let sent : AreMoved v from f_sent g_sent = record {
        same = λ k below.
            ap (λ (z : ℤ). z +ℤ relaxation v r g k +ℤ push v (moved_vector m u) k) (moved.same k below)
            ∙ ap (λ (z : ℤ). f (from k) +ℤ z +ℤ push v (moved_vector m u) k) (relaxation-moved r f g k moved below)
            ∙ ap (λ (z : ℤ). f (from k) +ℤ relaxation v r f (from k) +ℤ z) (push-moved u k below);
      } in
      ap (λ (rho : ℤ). with_rest v rho g_sent j) (density-moved f g moved) ∙ with_rest-moved (density v f) f_sent g_sent j sent known

  pub reflection-moved : (f g : ℕ → ℤ) (j : ℕ) → AreMoved v from f g → j < v.directions → reflection v g j ≡ reflection v f (from j)
  reflection-moved f g j moved known = moved.same (opposite v j) (laws.opposite_exists j known) ∙ ap f (turns.opposites j known)

  -- ---- first populations

  pub first_population-moved : (rho : ℤ) (u : List ℤ) (j : ℕ) → j < v.directions → first_population v rho (moved_vector m u) j ≡ first_population v rho u (from j)
  first_population-moved rho u j known =
      with_rest-moved rho (equilibrium v rho u) (equilibrium v rho (moved_vector m u)) j (record {
        same = λ k below.
            let over : ℤ = pos 2 *ℤ (v.denominator *ℤ rho) in
            ap (λ (w : ℤ). floor_div (w *ℤ equilibrium_numerator rho (moved_vector m u) (velocity v k)) over) (sym (turns.weights k below))
            ∙ ap (λ (e : ℤ). floor_div (weight v (from k) *ℤ e) over) (numerator-moved rho u k below);
      }) known
