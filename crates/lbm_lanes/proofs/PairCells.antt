-- The change of a lane is the relaxation of its cell.
use Rattle.std.proofs.Common.{◌≡◌, ℕ, ◌+◌, ◌*◌, ◌<◌, List, ℤ, pos, ◌+ℤ◌, ◌-ℤ◌, ◌*ℤ◌, neg_ℤ, refl, arith, ◌∙◌, lit<}
use Rattle.std.proofs.lemmas.Int.{ints}
use borrow.Author.Differences.{up, down}
use Rattle.lbm_space.specs.Stencil.{Stencil, part, dot, velocity, weight, opposite, IsVelocitySet}
use Rattle.lbm_cell.specs.Moments.{density, momentum}
use Rattle.lbm_cell.specs.Collision.{RelaxationRates, floor_div, departure, relaxation}
use Rattle.lbm_lanes.specs.Pairs.{shortfall, change}
use Rattle.lbm_lanes.proofs.Expansion.{IsDifference, of_product, of_parts, equal_from}

-- a product with a number that is reversed
times_reversed : (a b x : ℤ) → b ≡ neg_ℤ a → b *ℤ x ≡ neg_ℤ (a *ℤ x)
times_reversed a b x e =
    let first : IsDifference b (down a) (up a) = record { is = omega (arith, ints, e) } in
    let product : IsDifference (a *ℤ x) (up a * up x + down a * down x) (up a * down x + down a * up x) = of_product (of_parts a) (of_parts x) in
    let reversed : IsDifference (neg_ℤ (a *ℤ x)) (up a * down x + down a * up x) (up a * up x + down a * down x) = record { is = omega (arith, ints, product.is) } in
    equal_from (of_product first (of_parts x)) reversed (omega arith)

reversed_sum : (a b c a' b' c' : ℤ) (x y : ℕ) → a' ≡ neg_ℤ a → b' ≡ neg_ℤ b → c' ≡ neg_ℤ c → a +ℤ b +ℤ c ≡ pos x -ℤ pos y → a' +ℤ b' +ℤ c' ≡ pos y -ℤ pos x
reversed_sum a b c a' b' c' x y first second third sum = omega (arith, ints, first, second, third, sum)

-- the momentum along the velocity of the opposite direction
pub opposite_dot : (v : Stencil) (i : ℕ) (j : List ℤ) (x y : ℕ) → IsVelocitySet v → i < v.directions → dot (velocity v i) j ≡ pos x -ℤ pos y → dot (velocity v (opposite v i)) j ≡ pos y -ℤ pos x
opposite_dot v i j x y laws known along =
    let c = velocity v i in
    let o = velocity v (opposite v i) in
    reversed_sum (part c 0 *ℤ part j 0) (part c 1 *ℤ part j 1) (part c 2 *ℤ part j 2) (part o 0 *ℤ part j 0) (part o 1 *ℤ part j 1) (part o 2 *ℤ part j 2) x y
    (times_reversed (part c 0) (part o 0) (part j 0) (laws.opposite_velocity i 0 known (lit< tt)))
    (times_reversed (part c 1) (part o 1) (part j 1) (laws.opposite_velocity i 1 known (lit< tt)))
    (times_reversed (part c 2) (part o 2) (part j 2) (laws.opposite_velocity i 2 known (lit< tt)))
    along

-- the numbers of a cell and of one of its directions, as natural numbers
pub record IsNumbered (v : Stencil) (rates : RelaxationRates) (h : ℕ → ℤ) (i : ℕ) (w d p m q r own raised f o : ℕ) : Type 0 where
  pub weight_is : weight v i ≡ pos w
  pub denominator_is : v.denominator ≡ pos d
  pub p_is : rates.p ≡ pos p
  pub m_is : rates.m ≡ pos m
  pub q_is : rates.q ≡ pos q
  pub density_is : density v h ≡ pos r
  pub square_is : dot (momentum v h) (momentum v h) ≡ pos own
  pub along_is : dot (velocity v i) (momentum v h) ≡ pos raised -ℤ pos 8388608
  pub ahead_is : h i ≡ pos f
  pub behind_is : h (opposite v i) ≡ pos o

shortfall_from : (w d rho own u f : ℤ) (w' d' rho' own' u' f' : ℤ) → w ≡ w' → d ≡ d' → rho ≡ rho' → own ≡ own' → u ≡ u' → f ≡ f' → shortfall w d rho own u f ≡ shortfall w' d' rho' own' u' f'
shortfall_from w d rho own u f w' d' rho' own' u' f' a b c e g h = rw (a, b, c, e, g, h) refl

relaxed_from : (p m q d rho a b p' m' q' d' rho' a' b' : ℤ) → p ≡ p' → m ≡ m' → q ≡ q' → d ≡ d' → rho ≡ rho' → a ≡ a' → b ≡ b' →
    floor_div (p *ℤ (a +ℤ b) +ℤ m *ℤ (a -ℤ b)) (pos 4 *ℤ (d *ℤ rho *ℤ q)) ≡ floor_div (p' *ℤ (a' +ℤ b') +ℤ m' *ℤ (a' -ℤ b')) (pos 4 *ℤ (d' *ℤ rho' *ℤ q'))
relaxed_from p m q d rho a b p' m' q' d' rho' a' b' e1 e2 e3 e4 e5 e6 e7 = rw (e1, e2, e3, e4, e5, e6, e7) refl

pub relaxation_is : (v : Stencil) (rates : RelaxationRates) (h : ℕ → ℤ) (i : ℕ) (w d p m q r own raised f o : ℕ) → IsVelocitySet v → i < v.directions → IsNumbered v rates h i w d p m q r own raised f o →
    relaxation v rates h i ≡ change w d p m q r own raised f o
relaxation_is v rates h i w d p m q r own raised f o laws known is =
    let j = momentum v h in
    let k = opposite v i in
    let ahead : departure v h i ≡ shortfall (pos w) (pos d) (pos r) (pos own) (pos raised -ℤ pos 8388608) (pos f) =
    shortfall_from (weight v i) v.denominator (density v h) (dot j j) (dot (velocity v i) j) (h i) (pos w) (pos d) (pos r) (pos own) (pos raised -ℤ pos 8388608) (pos f) is.weight_is is.denominator_is is.density_is is.square_is is.along_is is.ahead_is in
    let behind : departure v h k ≡ shortfall (pos w) (pos d) (pos r) (pos own) (pos 8388608 -ℤ pos raised) (pos o) =
    shortfall_from (weight v k) v.denominator (density v h) (dot j j) (dot (velocity v k) j) (h k) (pos w) (pos d) (pos r) (pos own) (pos 8388608 -ℤ pos raised) (pos o)
    (laws.opposite_weight i known ∙ is.weight_is) is.denominator_is is.density_is is.square_is (opposite_dot v i j raised 8388608 laws known is.along_is) is.behind_is in
    relaxed_from rates.p rates.m rates.q v.denominator (density v h) (departure v h i) (departure v h k) (pos p) (pos m) (pos q) (pos d) (pos r)
    (shortfall (pos w) (pos d) (pos r) (pos own) (pos raised -ℤ pos 8388608) (pos f)) (shortfall (pos w) (pos d) (pos r) (pos own) (pos 8388608 -ℤ pos raised) (pos o))
    is.p_is is.m_is is.q_is is.denominator_is is.density_is ahead behind
