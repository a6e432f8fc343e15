-- The momentum of what a force gives to a cell, and of an equilibrium.
use Rattle.std.proofs.Common.{◌≡◌, ℕ, zero, suc, ◌<◌, false, eqb, List, ℤ, pos, ◌+ℤ◌, ◌-ℤ◌, ◌*ℤ◌, neg_ℤ, refl, ap, ◌∙◌, arith, lit<, inl, inr}
use Rattle.std.specs.Prelude.{if◌then◌else◌}
use Rattle.std.proofs.lemmas.Int.{ints}
use Rattle.std.proofs.lemmas.Bool.{cases_lt, ne_eqb}
use Rattle.std.proofs.Math.IntN.{*ℤ_comm}
use Rattle.lbm_space.specs.Sum.{sum_below}
use Rattle.lbm_space.specs.Stencil.{Stencil, IsVelocitySet, part, dot, velocity, weight, opposite}
use Rattle.lbm_space.proofs.Sums.{sum_below-same, sum_below-zero, sum_below-add}
use Rattle.lbm_cell.specs.Moments.{density, momentum, momentum_part}
use Rattle.lbm_cell.specs.Collision.{departure, push}
use Rattle.lbm_sets.proofs.Products.{product-add, product-neg, product_assoc, product_swap}
use Rattle.lbm_sets.proofs.Momentum.{sum_below-scale, momentum-same, momentum-add, momentum-subtract, momentum-scale, momentum-even}

-- a third of the denominator where a is b, and 0 otherwise
abbrev pub second_moment : Stencil → ℕ → ℕ → ℤ
second_moment v a b = sum_below v.directions (λ i. weight v i *ℤ part (velocity v i) a *ℤ part (velocity v i) b)

-- past the dimension too
pub thrice : (v : Stencil) (a b : ℕ) → IsVelocitySet v → a < v.dimension → b < 3 → pos 3 *ℤ second_moment v a b ≡ (if eqb a b then v.denominator else pos 0)
thrice v a b laws known axis = elim (cases_lt b v.dimension) [
  | inl within ↦ laws.isotropic a b known within
  | inr past ↦ (
      let off : eqb a b ≡ false = ne_eqb a b (λ same. omega arith) in
      let none : second_moment v a b ≡ pos 0 =
      sum_below-same v.directions (λ i. weight v i *ℤ part (velocity v i) a *ℤ part (velocity v i) b) (λ _. pos 0) (λ i inside. flat (weight v i *ℤ part (velocity v i) a) (part (velocity v i) b) (laws.flat_parts i b inside axis past))
      ∙ sum_below-zero v.directions in
      rw (off, none) refl)
]
  where
    flat : (x c : ℤ) → c ≡ pos 0 → x *ℤ c ≡ pos 0
    flat x c none = rw none (omega (arith, ints))

-- a product with an inner product, by the parts of the second vector
regrouped : (w a x p : ℤ) → a *ℤ (w *ℤ (x *ℤ p)) ≡ p *ℤ (w *ℤ a *ℤ x)
regrouped w a x p =
    let one = product_assoc a w (x *ℤ p) in
    let two = product_assoc (a *ℤ w) x p in
    let three = *ℤ_comm (a *ℤ w *ℤ x) p in
    let four = *ℤ_comm a w in
    cc

spread : (w a : ℤ) (c u : List ℤ) → a *ℤ (w *ℤ dot c u) ≡ part u 0 *ℤ (w *ℤ a *ℤ part c 0) +ℤ part u 1 *ℤ (w *ℤ a *ℤ part c 1) +ℤ part u 2 *ℤ (w *ℤ a *ℤ part c 2)
spread w a c u =
    let x : ℤ = part c 0 *ℤ part u 0 in
    let y : ℤ = part c 1 *ℤ part u 1 in
    let z : ℤ = part c 2 *ℤ part u 2 in
    ap (λ (s : ℤ). a *ℤ s) (product-add w (x +ℤ y) z ∙ ap (λ (s : ℤ). s +ℤ w *ℤ z) (product-add w x y))
    ∙ product-add a (w *ℤ x +ℤ w *ℤ y) (w *ℤ z)
    ∙ ap (λ (s : ℤ). s +ℤ a *ℤ (w *ℤ z)) (product-add a (w *ℤ x) (w *ℤ y))
    ∙ omega (arith, ints, regrouped w a (part c 0) (part u 0), regrouped w a (part c 1) (part u 1), regrouped w a (part c 2) (part u 2))

momentum-push_by_parts : (v : Stencil) (u : List ℤ) (a : ℕ) → momentum_part v (push v u) a ≡ part u 0 *ℤ second_moment v a 0 +ℤ part u 1 *ℤ second_moment v a 1 +ℤ part u 2 *ℤ second_moment v a 2
momentum-push_by_parts v u a =
    let term : ℕ → ℕ → ℤ = λ b i. part u b *ℤ (weight v i *ℤ part (velocity v i) a *ℤ part (velocity v i) b) in
    let scaled : (b : ℕ) → sum_below v.directions (term b) ≡ part u b *ℤ second_moment v a b = λ b. sum_below-scale v.directions (part u b) (λ i. weight v i *ℤ part (velocity v i) a *ℤ part (velocity v i) b) in
    sum_below-same v.directions (λ i. part (velocity v i) a *ℤ push v u i) (λ i. term 0 i +ℤ term 1 i +ℤ term 2 i) (λ i _. spread (weight v i) (part (velocity v i) a) (velocity v i) u)
    ∙ sum_below-add v.directions (λ i. term 0 i +ℤ term 1 i) (term 2)
    ∙ ap (λ (s : ℤ). s +ℤ sum_below v.directions (term 2)) (sum_below-add v.directions (term 0) (term 1))
    ∙ omega (arith, ints, scaled 0, scaled 1, scaled 2)

one_of_three : (x y z s n k d : ℤ) → pos 3 *ℤ s ≡ d → pos 3 *ℤ n ≡ pos 0 → pos 3 *ℤ k ≡ pos 0 → pos 3 *ℤ (x *ℤ s +ℤ y *ℤ n +ℤ z *ℤ k) ≡ d *ℤ x
one_of_three x y z s n k d whole none_n none_k =
    let no_n : n ≡ pos 0 = omega (arith, ints, none_n) in
    let no_k : k ≡ pos 0 = omega (arith, ints, none_k) in
    rw (no_n, no_k, ← whole) (omega (arith, ints, product_assoc (pos 3) s x))

second_first : (x y z : ℤ) → x +ℤ y +ℤ z ≡ y +ℤ x +ℤ z
second_first x y z = omega (arith, ints)

third_first : (x y z : ℤ) → x +ℤ y +ℤ z ≡ z +ℤ x +ℤ y
third_first x y z = omega (arith, ints)

-- three times the momentum of what a force gives is the denominator times the force
pub momentum-push : (v : Stencil) (u : List ℤ) (a : ℕ) → IsVelocitySet v → a < v.dimension → a < 3 → pos 3 *ℤ momentum_part v (push v u) a ≡ v.denominator *ℤ part u a
momentum-push v u zero laws known axis =
    ap (λ (s : ℤ). pos 3 *ℤ s) (momentum-push_by_parts v u 0)
    ∙ one_of_three (part u 0) (part u 1) (part u 2) (second_moment v 0 0) (second_moment v 0 1) (second_moment v 0 2) v.denominator (thrice v 0 0 laws known (lit< tt)) (thrice v 0 1 laws known (lit< tt)) (thrice v 0 2 laws known (lit< tt))
momentum-push v u (suc zero) laws known axis =
    ap (λ (s : ℤ). pos 3 *ℤ s) (momentum-push_by_parts v u 1 ∙ second_first (part u 0 *ℤ second_moment v 1 0) (part u 1 *ℤ second_moment v 1 1) (part u 2 *ℤ second_moment v 1 2))
    ∙ one_of_three (part u 1) (part u 0) (part u 2) (second_moment v 1 1) (second_moment v 1 0) (second_moment v 1 2) v.denominator (thrice v 1 1 laws known (lit< tt)) (thrice v 1 0 laws known (lit< tt)) (thrice v 1 2 laws known (lit< tt))
momentum-push v u (suc (suc zero)) laws known axis =
    ap (λ (s : ℤ). pos 3 *ℤ s) (momentum-push_by_parts v u 2 ∙ third_first (part u 0 *ℤ second_moment v 2 0) (part u 1 *ℤ second_moment v 2 1) (part u 2 *ℤ second_moment v 2 2))
    ∙ one_of_three (part u 2) (part u 0) (part u 1) (second_moment v 2 2) (second_moment v 2 0) (second_moment v 2 1) v.denominator (thrice v 2 2 laws known (lit< tt)) (thrice v 2 0 laws known (lit< tt)) (thrice v 2 1 laws known (lit< tt))
momentum-push v u (suc (suc (suc a))) laws known axis = absurd (omega arith)

-- an inner product with the reversed velocity
dot-reversed : (c d u : List ℤ) → ((a : ℕ) → a < 3 → part d a ≡ neg_ℤ (part c a)) → dot d u ≡ neg_ℤ (dot c u)
dot-reversed c d u reversed =
    rw (reversed 0 (lit< tt), reversed 1 (lit< tt), reversed 2 (lit< tt))
    (omega (arith, ints, product-neg (part c 0) (part u 0), product-neg (part c 1) (part u 1), product-neg (part c 2) (part u 2)))

-- an equilibrium numerator without its odd term
abbrev even_numerator : ℤ → ℤ → ℤ → ℤ
even_numerator rho u s = pos 2 *ℤ (rho *ℤ rho) +ℤ pos 9 *ℤ (u *ℤ u) -ℤ pos 3 *ℤ s

even_numerator-reversed : (rho u w s : ℤ) → w ≡ neg_ℤ u → even_numerator rho w s ≡ even_numerator rho u s
even_numerator-reversed rho u w s reversed =
    let square : neg_ℤ u *ℤ neg_ℤ u ≡ u *ℤ u = (let one = product-neg u (neg_ℤ u) in let two = *ℤ_comm u (neg_ℤ u) in let three = product-neg u u in omega (arith, ints, one, two, three)) in
    rw (reversed, square) refl

-- a weighted numerator less the population, by its even and its odd term
by_parity : (w rho u s d x : ℤ) →
    w *ℤ (pos 2 *ℤ (rho *ℤ rho) +ℤ pos 6 *ℤ (rho *ℤ u) +ℤ pos 9 *ℤ (u *ℤ u) -ℤ pos 3 *ℤ s) -ℤ pos 2 *ℤ (d *ℤ rho *ℤ x) ≡ w *ℤ even_numerator rho u s +ℤ pos 6 *ℤ (rho *ℤ (w *ℤ u)) -ℤ pos 2 *ℤ (d *ℤ rho *ℤ x)
by_parity w rho u s d x =
    let apart : pos 2 *ℤ (rho *ℤ rho) +ℤ pos 6 *ℤ (rho *ℤ u) +ℤ pos 9 *ℤ (u *ℤ u) -ℤ pos 3 *ℤ s ≡ even_numerator rho u s +ℤ pos 6 *ℤ (rho *ℤ u) = omega (arith, ints) in
    let both : w *ℤ (even_numerator rho u s +ℤ pos 6 *ℤ (rho *ℤ u)) ≡ w *ℤ even_numerator rho u s +ℤ w *ℤ (pos 6 *ℤ (rho *ℤ u)) = product-add w (even_numerator rho u s) (pos 6 *ℤ (rho *ℤ u)) in
    let turned : w *ℤ (pos 6 *ℤ (rho *ℤ u)) ≡ pos 6 *ℤ (rho *ℤ (w *ℤ u)) = product_swap w (pos 6) (rho *ℤ u) ∙ ap (λ (z : ℤ). pos 6 *ℤ z) (product_swap w rho u) in
    ap (λ (z : ℤ). w *ℤ z -ℤ pos 2 *ℤ (d *ℤ rho *ℤ x)) apart ∙ ap (λ (z : ℤ). z -ℤ pos 2 *ℤ (d *ℤ rho *ℤ x)) (both ∙ ap (λ (z : ℤ). w *ℤ even_numerator rho u s +ℤ z) turned)

balance : (rho d j p : ℤ) → pos 3 *ℤ p ≡ d *ℤ j → pos 0 +ℤ pos 6 *ℤ (rho *ℤ p) -ℤ pos 2 *ℤ (d *ℤ rho *ℤ j) ≡ pos 0
balance rho d j p e =
    let one : rho *ℤ (pos 3 *ℤ p) ≡ rho *ℤ (d *ℤ j) = ap (λ (z : ℤ). rho *ℤ z) e in
    let two : rho *ℤ (pos 3 *ℤ p) ≡ pos 3 *ℤ (rho *ℤ p) = product_swap rho (pos 3) p in
    let three : rho *ℤ (d *ℤ j) ≡ d *ℤ (rho *ℤ j) = product_swap rho d j in
    let four : d *ℤ (rho *ℤ j) ≡ d *ℤ rho *ℤ j = product_assoc d rho j in
    omega (arith, ints, one, two, three, four)

-- a cell and its equilibrium have the same momentum
pub momentum-departure : (v : Stencil) (f : ℕ → ℤ) (a : ℕ) → IsVelocitySet v → a < v.dimension → a < 3 → momentum_part v (departure v f) a ≡ pos 0
momentum-departure v f a laws known axis =
    let rho : ℤ = density v f in
    let j : List ℤ = momentum v f in
    let own : ℤ = dot j j in
    let even : ℕ → ℤ = λ i. weight v i *ℤ even_numerator rho (dot (velocity v i) j) own in
    let odd : ℕ → ℤ = λ i. pos 6 *ℤ (rho *ℤ push v j i) in
    let held : ℕ → ℤ = λ i. pos 2 *ℤ (v.denominator *ℤ rho *ℤ f i) in
    let split : momentum_part v (departure v f) a ≡ momentum_part v (λ i. even i +ℤ odd i -ℤ held i) a =
    momentum-same v a (departure v f) (λ i. even i +ℤ odd i -ℤ held i) (λ i _. by_parity (weight v i) rho (dot (velocity v i) j) own v.denominator (f i)) in
    let apart : momentum_part v (λ i. even i +ℤ odd i -ℤ held i) a ≡ momentum_part v even a +ℤ momentum_part v odd a -ℤ momentum_part v held a =
    momentum-subtract v a (λ i. even i +ℤ odd i) held ∙ ap (λ (z : ℤ). z -ℤ momentum_part v held a) (momentum-add v a even odd) in
    let no_even : momentum_part v even a ≡ pos 0 = momentum-even v a laws axis even (λ i inside.
    let turned : dot (velocity v (opposite v i)) j ≡ neg_ℤ (dot (velocity v i) j) = dot-reversed (velocity v i) (velocity v (opposite v i)) j (λ b known_b. laws.opposite_velocity i b inside known_b) in
    ap (λ (z : ℤ). z *ℤ even_numerator rho (dot (velocity v (opposite v i)) j) own) (laws.opposite_weight i inside)
    ∙ ap (λ (z : ℤ). weight v i *ℤ z) (even_numerator-reversed rho (dot (velocity v i) j) (dot (velocity v (opposite v i)) j) own turned)) in
    let of_odd : momentum_part v odd a ≡ pos 6 *ℤ (rho *ℤ momentum_part v (push v j) a) =
    momentum-scale v a (pos 6) (λ i. rho *ℤ push v j i) ∙ ap (λ (z : ℤ). pos 6 *ℤ z) (momentum-scale v a rho (push v j)) in
    let of_held : momentum_part v held a ≡ pos 2 *ℤ (v.denominator *ℤ rho *ℤ momentum_part v f a) =
    momentum-scale v a (pos 2) (λ i. v.denominator *ℤ rho *ℤ f i) ∙ ap (λ (z : ℤ). pos 2 *ℤ z) (momentum-scale v a (v.denominator *ℤ rho) f) in
    let pushed : pos 3 *ℤ momentum_part v (push v j) a ≡ v.denominator *ℤ momentum_part v f a = momentum-push v j a laws known axis ∙ ap (λ (z : ℤ). v.denominator *ℤ z) (own_part a axis) in
    split ∙ apart
    ∙ ap (λ (z : ℤ). z +ℤ momentum_part v odd a -ℤ momentum_part v held a) no_even
    ∙ ap (λ (z : ℤ). pos 0 +ℤ z -ℤ momentum_part v held a) of_odd
    ∙ ap (λ (z : ℤ). pos 0 +ℤ pos 6 *ℤ (rho *ℤ momentum_part v (push v j) a) -ℤ z) of_held
    ∙ balance rho v.denominator (momentum_part v f a) (momentum_part v (push v j) a) pushed
  where
    own_part : (a : ℕ) → a < 3 → part (momentum v f) a ≡ momentum_part v f a
    own_part zero axis = refl
    own_part (suc zero) axis = refl
    own_part (suc (suc zero)) axis = refl
    own_part (suc (suc (suc a))) axis = absurd (omega arith)
