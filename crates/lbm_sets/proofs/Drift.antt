-- The drift of momentum in a collision is what rounding leaves.
use Rattle.std.proofs.Common.{◌≡◌, ℕ, zero, suc, ◌-◌, ◌*◌, ◌<◌, ◌≤◌, true, false, eqb, List, ℤ, pos, negsuc, ◌+ℤ◌, ◌-ℤ◌, ◌*ℤ◌, ◌<ℤ◌, neg_ℤ, unsigned_abs, refl, ap, sym, subst, ◌∙◌, arith, inl, inr}
use Rattle.std.specs.Prelude.{IsTrue}
use Rattle.std.proofs.Math.Nat.{mul-le-mul_left}
use Rattle.std.proofs.Math.IntN.{*ℤ_comm}
use Rattle.std.proofs.lemmas.Int.{ints, unsigned_abs-mul}
use Rattle.std.proofs.lemmas.Bool.{cases_eq, cases_lt, eq-eqb, ne_eqb}
use Rattle.lbm_space.specs.Stencil.{Stencil, IsVelocitySet, part, velocity, weight, opposite}
use Rattle.lbm_space.proofs.Sums.{sum_below-same}
use Rattle.lbm_cell.specs.Moments.{density, momentum_part, in_limits}
use Rattle.lbm_cell.specs.Collision.{RelaxationRates, IsRates, floor_div, departure, relaxation, push, with_rest, collision, reflection}
use Rattle.lbm_cell.proofs.Limits.{InLimits-from_test, denominator_above, density_above, divisor_above, weight_small}
use Rattle.lbm_sets.specs.Drift.{forward_directions, impulse, collision_drift, DriftOfCollision}
use Rattle.lbm_sets.proofs.Products.{product_assoc}
use Rattle.lbm_sets.proofs.Momentum.{momentum-add, momentum-subtract, momentum-scale, momentum-reflection, momentum-even}
use Rattle.lbm_sets.proofs.Isotropy.{second_moment, thrice, momentum-push, momentum-departure}
use Rattle.lbm_sets.proofs.Rests.{rest, IsRest, IsRest-rest, momentum-rests}

-- an axis of the set is one of three
pub axis_of : (v : Stencil) (a : ℕ) → IsVelocitySet v → a < v.dimension → a < 3
axis_of v a laws known = elim laws.plane_or_space [
  | inl plane ↦ omega arith
  | inr space ↦ omega arith
]

-- three times the moment of an axis with itself is the denominator
own_moment : (v : Stencil) (a : ℕ) → IsVelocitySet v → a < v.dimension → pos 3 *ℤ second_moment v a a ≡ v.denominator
own_moment v a laws known = let on : eqb a a ≡ true = eq-eqb a a refl in rw on at (thrice v a a laws known (axis_of v a laws known))

third_of : (d s : ℤ) → pos 3 *ℤ s ≡ d → floor_div d (pos 3) ≡ s
third_of d s e = let left : IsRest 2 (rest d (pos 3)) = IsRest-rest d 2 in omega (arith, ints, e, left.not_negative, left.at_most)

-- a force gives its impulse
momentum-impulse : (v : Stencil) (g : List ℤ) (a : ℕ) → IsVelocitySet v → a < v.dimension → momentum_part v (push v g) a ≡ impulse v g a
momentum-impulse v g a laws known =
    let s : ℤ = second_moment v a a in
    let whole : pos 3 *ℤ s ≡ v.denominator = own_moment v a laws known in
    let third : floor_div v.denominator (pos 3) ≡ s = third_of v.denominator s whole in
    let pushed : pos 3 *ℤ momentum_part v (push v g) a ≡ v.denominator *ℤ part g a = momentum-push v g a laws known (axis_of v a laws known) in
    let times : pos 3 *ℤ (s *ℤ part g a) ≡ pos 3 *ℤ s *ℤ part g a = product_assoc (pos 3) s (part g a) in
    let by_whole : pos 3 *ℤ s *ℤ part g a ≡ v.denominator *ℤ part g a = ap (λ (z : ℤ). z *ℤ part g a) whole in
    let same : momentum_part v (push v g) a ≡ s *ℤ part g a = omega (arith, ints, pushed, times, by_whole) in
    same ∙ ap (λ (z : ℤ). z *ℤ part g a) (sym third)

-- some direction leads forward
pub some_forward : (v : Stencil) (a : ℕ) → IsVelocitySet v → a < v.dimension → 0 < forward_directions v a
some_forward v a laws known =
    let axis : a < 3 = axis_of v a laws known in
    let lifted : ℕ → ℤ = λ i. weight v i +ℤ weight v i *ℤ part (velocity v i) a in
    let small : (i : ℕ) → i < v.directions → IsRest 432 (lifted i) = λ i inside. lifted_small (weight v i) (part (velocity v i) a) (laws.positive_weights i inside) (weight_small v i laws inside) (laws.unit_parts i a inside axis) in
    let size : unsigned_abs (momentum_part v lifted a) ≤ 432 * forward_directions v a = momentum-rests v laws a axis 432 lifted small in
    let apart : momentum_part v lifted a ≡ momentum_part v (weight v) a +ℤ momentum_part v (λ i. weight v i *ℤ part (velocity v i) a) a = momentum-add v a (weight v) (λ i. weight v i *ℤ part (velocity v i) a) in
    let still : momentum_part v (weight v) a ≡ pos 0 = momentum-even v a laws axis (weight v) laws.opposite_weight in
    let second : momentum_part v (λ i. weight v i *ℤ part (velocity v i) a) a ≡ second_moment v a a =
    sum_below-same v.directions (λ i. part (velocity v i) a *ℤ (weight v i *ℤ part (velocity v i) a)) (λ i. weight v i *ℤ part (velocity v i) a *ℤ part (velocity v i) a) (λ i _. *ℤ_comm (part (velocity v i) a) (weight v i *ℤ part (velocity v i) a)) in
    let whole : pos 3 *ℤ second_moment v a a ≡ v.denominator = own_moment v a laws known in
    let above : pos 0 <ℤ v.denominator = denominator_above v laws in
    elim (cases_lt 0 (forward_directions v a)) [
      | inl some ↦ some
      | inr none ↦ absurd (omega (arith, ints, size, apart, still, second, whole, above))
    ]
  where
    lifted_small : (w c : ℤ) → pos 0 <ℤ w → unsigned_abs w ≤ 216 → unsigned_abs c ≤ 1 → IsRest 432 (w +ℤ w *ℤ c)
    lifted_small w (pos zero) above small unit = record { not_negative = omega (arith, ints); at_most = omega (arith, ints) }
    lifted_small w (pos (suc zero)) above small unit = record { not_negative = omega (arith, ints); at_most = omega (arith, ints) }
    lifted_small w (pos (suc (suc c))) above small unit = absurd (omega arith)
    lifted_small w (negsuc zero) above small unit = record { not_negative = omega (arith, ints); at_most = omega (arith, ints) }
    lifted_small w (negsuc (suc c)) above small unit = absurd (omega arith)

-- what a relaxation divides
abbrev dividend : Stencil → RelaxationRates → (ℕ → ℤ) → ℕ → ℤ
dividend v r f i =
    let a = departure v f i in
    let b = departure v f (opposite v i) in
    r.p *ℤ (a +ℤ b) +ℤ r.m *ℤ (a -ℤ b)

-- it has no momentum
momentum-dividend : (v : Stencil) (r : RelaxationRates) (f : ℕ → ℤ) (a : ℕ) → IsVelocitySet v → a < v.dimension → momentum_part v (dividend v r f) a ≡ pos 0
momentum-dividend v r f a laws known =
    let axis : a < 3 = axis_of v a laws known in
    let here : ℕ → ℤ = departure v f in
    let there : ℕ → ℤ = reflection v (departure v f) in
    let none : momentum_part v here a ≡ pos 0 = momentum-departure v f a laws known axis in
    let none_back : momentum_part v there a ≡ neg_ℤ (momentum_part v here a) = momentum-reflection v a laws axis here in
    let sum : momentum_part v (λ i. r.p *ℤ (here i +ℤ there i)) a ≡ r.p *ℤ (momentum_part v here a +ℤ momentum_part v there a) =
    momentum-scale v a r.p (λ i. here i +ℤ there i) ∙ ap (λ (z : ℤ). r.p *ℤ z) (momentum-add v a here there) in
    let difference : momentum_part v (λ i. r.m *ℤ (here i -ℤ there i)) a ≡ r.m *ℤ (momentum_part v here a -ℤ momentum_part v there a) =
    momentum-scale v a r.m (λ i. here i -ℤ there i) ∙ ap (λ (z : ℤ). r.m *ℤ z) (momentum-subtract v a here there) in
    momentum-add v a (λ i. r.p *ℤ (here i +ℤ there i)) (λ i. r.m *ℤ (here i -ℤ there i))
    ∙ nothing r.p r.m (momentum_part v here a) (momentum_part v there a) _ _ none none_back sum difference
  where
    nothing : (p m x y s d : ℤ) → x ≡ pos 0 → y ≡ neg_ℤ x → s ≡ p *ℤ (x +ℤ y) → d ≡ m *ℤ (x -ℤ y) → s +ℤ d ≡ pos 0
    nothing p m x y s d none back is_s is_d =
        let no_y : y ≡ pos 0 = omega (arith, ints, none, back) in
        rw (is_s, is_d, no_y, none) (omega (arith, ints))

-- where K times x and less than K times n have no sum, x is below n
below_count : (m n : ℕ) (x y : ℤ) → pos (suc m) *ℤ x +ℤ y ≡ pos 0 → unsigned_abs y ≤ m * n → 0 < n → unsigned_abs x < n
below_count m n x y none small some = elim (cases_lt (unsigned_abs x) n) [
  | inl below ↦ below
  | inr more ↦ (
      let product : unsigned_abs (pos (suc m) *ℤ x) ≡ suc m * unsigned_abs x = unsigned_abs-mul (pos (suc m)) x in
      let same : unsigned_abs (pos (suc m) *ℤ x) ≡ unsigned_abs y = omega (arith, ints, none) in
      let large : suc m * n ≤ suc m * unsigned_abs x = mul-le-mul_left (suc m) more in
      absurd (omega (arith, product, same, large, small)))
]

-- what relaxation adds to the momentum
momentum-relaxation : (v : Stencil) (r : RelaxationRates) (f : ℕ → ℤ) (a : ℕ) → IsVelocitySet v → IsRates r → IsTrue (in_limits v f) → a < v.dimension → unsigned_abs (momentum_part v (relaxation v r f) a) < forward_directions v a
momentum-relaxation v r f a laws allowed within known =
    let axis : a < 3 = axis_of v a laws known in
    let k : ℤ = pos 4 *ℤ (v.denominator *ℤ density v f *ℤ r.q) in
    let m : ℕ = unsigned_abs k - 1 in
    let above : pos 0 <ℤ k = divisor_above v.denominator (density v f) r.q (denominator_above v laws) (density_above v f (InLimits-from_test v f within)) allowed.q_above in
    let number : k ≡ pos (suc m) = omega (arith, ints, above) in
    let left : ℕ → ℤ = λ i. rest (dividend v r f i) k in
    let rests : (i : ℕ) → i < v.directions → IsRest m (left i) = λ i _. subst (λ (d : ℤ). IsRest m (rest (dividend v r f i) d)) (sym number) (IsRest-rest (dividend v r f i) m) in
    let parts : momentum_part v left a ≡ momentum_part v (dividend v r f) a -ℤ k *ℤ momentum_part v (relaxation v r f) a =
    momentum-subtract v a (dividend v r f) (λ i. k *ℤ relaxation v r f i) ∙ ap (λ (z : ℤ). momentum_part v (dividend v r f) a -ℤ z) (momentum-scale v a k (relaxation v r f)) in
    let none : momentum_part v (dividend v r f) a ≡ pos 0 = momentum-dividend v r f a laws known in
    let by_number : k *ℤ momentum_part v (relaxation v r f) a ≡ pos (suc m) *ℤ momentum_part v (relaxation v r f) a = ap (λ (z : ℤ). z *ℤ momentum_part v (relaxation v r f) a) number in
    below_count m (forward_directions v a) (momentum_part v (relaxation v r f) a) (momentum_part v left a) (omega (arith, ints, parts, none, by_number)) (momentum-rests v laws a axis m left rests) (some_forward v a laws known)

-- the momentum knows nothing of the population at rest
momentum-with_rest : (v : Stencil) (rho : ℤ) (moving : ℕ → ℤ) (a : ℕ) → IsVelocitySet v → a < 3 → momentum_part v (with_rest v rho moving) a ≡ momentum_part v moving a
momentum-with_rest v rho moving a laws axis =
    sum_below-same v.directions (λ i. part (velocity v i) a *ℤ with_rest v rho moving i) (λ i. part (velocity v i) a *ℤ moving i) (λ i _. elim (cases_eq i 0) [
      | inl first ↦ (let resting : part (velocity v i) a ≡ pos 0 = ap (λ (k : ℕ). part (velocity v k) a) first ∙ laws.rest a axis in rw resting (omega (arith, ints)))
      | inr ne ↦ (let off : eqb i 0 ≡ false = ne_eqb i 0 ne in rw off refl)
    ])

-- the drift of a collision is what relaxation adds
drift-relaxation : (v : Stencil) (r : RelaxationRates) (g : List ℤ) (f : ℕ → ℤ) (a : ℕ) → IsVelocitySet v → a < v.dimension → collision_drift v r g f a ≡ momentum_part v (relaxation v r f) a
drift-relaxation v r g f a laws known =
    let moved : momentum_part v (collision v r g f) a ≡ momentum_part v (λ i. f i +ℤ relaxation v r f i +ℤ push v g i) a =
    momentum-with_rest v (density v f) (λ i. f i +ℤ relaxation v r f i +ℤ push v g i) a laws (axis_of v a laws known) in
    let outer = momentum-add v a (λ i. f i +ℤ relaxation v r f i) (push v g) in
    let inner = momentum-add v a f (relaxation v r f) in
    let given : momentum_part v (push v g) a ≡ impulse v g a = momentum-impulse v g a laws known in
    remains (momentum_part v (collision v r g f) a) (momentum_part v f a) (momentum_part v (relaxation v r f) a) (momentum_part v (push v g) a) (impulse v g a)
    (moved ∙ outer ∙ ap (λ (z : ℤ). z +ℤ momentum_part v (push v g) a) inner) given
  where
    remains : (after before added pushed impulse : ℤ) → after ≡ before +ℤ added +ℤ pushed → pushed ≡ impulse → after -ℤ before -ℤ impulse ≡ added
    remains after before added pushed impulse sum given = omega (arith, ints, sum, given)

pub drift-collision : DriftOfCollision
drift-collision v r g f a laws allowed within known = rw (drift-relaxation v r g f a laws known) (momentum-relaxation v r f a laws allowed within known)
