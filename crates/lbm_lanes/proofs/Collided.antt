-- A pair of directions of a lane, whether it collides or not.
use Rattle.std.proofs.Common.{◌≡◌, ℕ, ◌+◌, ◌-◌, ◌*◌, ◌<◌, ◌≤◌, Bool, true, false, List, ℤ, pos, ◌+ℤ◌, ◌-ℤ◌, ◌*ℤ◌, ◌≤ℤ◌, unsigned_abs, refl, ap, sym, arith, lit<, ◌∙◌, replicate, eqb}
use Rattle.std.specs.Int.{w64}
use Rattle.std.proofs.lemmas.Simd.{get_or-replicate}
use Rattle.std.proofs.lemmas.Bool.{ne_eqb}
use Rattle.lbm_lanes.specs.Lanes.{entry}
use Rattle.std.specs.Prelude.{if◌then◌else◌, FitsSigned}
use Rattle.std.proofs.lemmas.Int.{ints, fits_signed_from_abs}
use Rattle.std.proofs.lemmas.Nat.{mul-le}
use Rattle.std.proofs.Math.Nat.{mul-le-mul_right}
use Rattle.lbm_space.specs.Stencil.{Stencil, dot, velocity, weight, opposite, moving_axes, IsVelocitySet}
use Rattle.lbm_cell.specs.Moments.{momentum}
use Rattle.lbm_cell.specs.Collision.{RelaxationRates, IsRates, collision}
use Rattle.lbm_cell.proofs.Bounds.{one_at_most, dot_size, dot-same}
use Rattle.lbm_cell.proofs.Limits.{InLimits-from_test, moves, denominator_above}
use Rattle.lbm_lanes.specs.Cells.{IsSound, IsCell, lowered, own_square, moved, settled}
use Rattle.lbm_lanes.specs.Pairs.{IsLane, change}
use Rattle.lbm_lanes.proofs.PairCells.{IsNumbered, opposite_dot}

-- a pair of directions and the rates, by natural numbers
pub record IsWeighed (v : Stencil) (rates : RelaxationRates) (i w d p m q : ℕ) : Type 0 where
  pub weight_is : weight v i ≡ pos w
  pub denominator_is : v.denominator ≡ pos d
  pub p_is : rates.p ≡ pos p
  pub m_is : rates.m ≡ pos m
  pub q_is : rates.q ≡ pos q
  pub allowed : IsRates rates

-- a population of a cell in limits
pub population_held : (v : Stencil) (h : ℕ → ℤ) (r x y z i : ℕ) → IsCell v h r x y z → i < v.directions → (pos 0 ≤ℤ h i) × (unsigned_abs (h i) ≤ r)
population_held v h r x y z i is known =
    let limits = InLimits-from_test v h is.limits in
    let most = one_at_most v.directions h limits.not_negative i known in
    (limits.not_negative i known, omega (arith, ints, most.1, limits.not_negative i known, is.density_is))

held_small : (chosen : Bool) (r f : ℕ) (a : ℤ) → f ≡ (if chosen then unsigned_abs a else 0) → (chosen ≡ true → unsigned_abs a ≤ r) → f ≤ r
held_small true r f a is small = rw is (small refl)
held_small false r f a is small = omega (arith, is)

held_is : (chosen : Bool) (f : ℕ) (a : ℤ) → chosen ≡ true → f ≡ (if chosen then unsigned_abs a else 0) → pos 0 ≤ℤ a → a ≡ pos f
held_is true f a on is above = omega (arith, ints, is, above)
held_is false f a on is above = absurd cc

axes : (v : Stencil) (i : ℕ) → IsVelocitySet v → i < v.directions → moving_axes (velocity v i) ≤ 3
axes v i laws known = omega (arith, laws.unit_parts i 0 known (lit< tt), laws.unit_parts i 1 known (lit< tt), laws.unit_parts i 2 known (lit< tt))

square_most : (x y z r : ℕ) → x ≤ r → y ≤ r → z ≤ r → x * x + y * y + z * z ≤ 3 * (r * r)
square_most x y z r a b c = omega (arith, mul-le x x r r a a, mul-le y y r r b b, mul-le z z r r c c)

light_is : (w d k : ℕ) (weight denominator : ℤ) → weight ≡ pos w → denominator ≡ pos d → (weight *ℤ pos k) ≤ℤ (pos 2 *ℤ denominator) → w * k ≤ 2 * d
light_is w d k weight denominator is_w is_d light =
    let numbers : (pos w *ℤ pos k) ≤ℤ (pos 2 *ℤ pos d) = rw (is_w, is_d) at light in omega (arith, ints, numbers)

module _ (v : Stencil) (rates : RelaxationRates) (h : ℕ → ℤ) (i w d p m q : ℕ) (chosen : Bool) (r reciprocal base x y z raised f o : ℕ) (a b : ℤ)
    (laws : IsVelocitySet v) (moving : 0 < i) (known : i < v.directions) (weighed : IsWeighed v rates i w d p m q)
    (sound : IsSound r reciprocal base x y z) (cell : chosen ≡ true → IsCell v h r x y z) (along : dot (velocity v i) (lowered x y z) ≡ pos raised -ℤ pos 8388608)
    (ahead : h i ≡ a) (behind : h (opposite v i) ≡ b) (f_is : f ≡ (if chosen then unsigned_abs a else 0)) (o_is : o ≡ (if chosen then unsigned_abs b else 0)) where
  along_size : unsigned_abs (pos raised -ℤ pos 8388608) ≤ moving_axes (velocity v i) * r
  along_size = rw (← along) (dot_size (velocity v i) (lowered x y z) r sound.x_small sound.y_small sound.z_small)

  pub lane_is : IsLane w d p m q (moving_axes (velocity v i)) r (own_square x y z) base raised f o
  lane_is =
      let rates_are = weighed.allowed in
      let above = denominator_above v laws in
      record {
        moves = moves v i laws moving known;
        axes = axes v i laws known;
        light = light_is w d (2 + 6 * moving_axes (velocity v i) + 9 * moving_axes (velocity v i) * moving_axes (velocity v i)) (weight v i) v.denominator weighed.weight_is weighed.denominator_is (laws.light i moving known);
        divides = omega (arith, ints, above, weighed.denominator_is);
        rated = omega (arith, ints, rates_are.q_above, weighed.q_is);
        p_stable = omega (arith, ints, rates_are.p_stable, weighed.p_is, weighed.q_is);
        m_stable = omega (arith, ints, rates_are.m_stable, weighed.m_is, weighed.q_is);
        not_thin = sound.not_thin;
        not_dense = sound.not_dense;
        square = square_most (unsigned_abs (pos x -ℤ pos 8388608)) (unsigned_abs (pos y -ℤ pos 8388608)) (unsigned_abs (pos z -ℤ pos 8388608)) r sound.x_small sound.y_small sound.z_small;
        base_is = sound.base_is;
        forward = omega (arith, ints, along_size);
        backward = omega (arith, ints, along_size);
        ahead = held_small chosen r f a f_is (λ on. rw (← ahead) (population_held v h r x y z i (cell on) known).1);
        behind = held_small chosen r o b o_is (λ on. rw (← behind) (population_held v h r x y z (opposite v i) (cell on) (laws.opposite_exists i known)).1);
      }

  pub numbered : chosen ≡ true → IsNumbered v rates h i w d p m q r (own_square x y z) raised f o
  numbered on =
      let is = cell on in
      let not_negative = (population_held v h r x y z i is known).0 in
      let not_negative' = (population_held v h r x y z (opposite v i) is (laws.opposite_exists i known)).0 in
      record {
        weight_is = weighed.weight_is;
        denominator_is = weighed.denominator_is;
        p_is = weighed.p_is;
        m_is = weighed.m_is;
        q_is = weighed.q_is;
        density_is = is.density_is;
        square_is = ap (λ (j : List ℤ). dot j j) is.momentum_is ∙ dot-same (lowered x y z);
        along_is = ap (λ (j : List ℤ). dot (velocity v i) j) is.momentum_is ∙ along;
        ahead_is = ahead ∙ held_is chosen f a on f_is (rw (← ahead) not_negative);
        behind_is = behind ∙ held_is chosen o b on o_is (rw (← behind) not_negative');
      }

  pub opposite_numbered : chosen ≡ true → IsNumbered v rates h (opposite v i) w d p m q r (own_square x y z) (16777216 - raised) o f
  opposite_numbered on =
      let is = numbered on in
      let turned = opposite_dot v i (momentum v h) raised 8388608 laws known is.along_is in
      let most = mul-le-mul_right r (axes v i laws known) in
      record {
        weight_is = laws.opposite_weight i known ∙ is.weight_is;
        denominator_is = is.denominator_is;
        p_is = is.p_is;
        m_is = is.m_is;
        q_is = is.q_is;
        density_is = is.density_is;
        square_is = is.square_is;
        along_is = turned ∙ turned_is raised (omega (arith, most, lane_is.forward, sound.not_dense));
        ahead_is = is.behind_is;
        behind_is = ap h (laws.opposite_twice i known) ∙ is.ahead_is;
      }
    where
      turned_is : (raised : ℕ) → raised ≤ 16777216 → pos 8388608 -ℤ pos raised ≡ pos (16777216 - raised) -ℤ pos 8388608
      turned_is raised most = omega (arith, ints, most)

-- a lane of zeros
pub zero_lane : (l : ℕ) → l < 8 → entry (replicate 8 (pos 0)) l ≡ pos 0
zero_lane l known = get_or-replicate 8 l (pos 0) (pos 0) known

pub small_fits : (z : ℤ) → unsigned_abs z ≤ 4294967296 → FitsSigned w64 z
small_fits z small = fits_signed_from_abs w64 z (omega (arith, small))

pub zero_fits : (l : ℕ) → l < 8 → FitsSigned w64 (entry (replicate 8 (pos 0)) l)
zero_fits l known = small_fits (entry (replicate 8 (pos 0)) l) (omega (arith, ints, zero_lane l known))

-- a population where its lane collides, and zero elsewhere
pub held_from : (on : Bool) (a k z : ℤ) (f : ℕ) → k ≡ (if on then a else z) → z ≡ pos 0 → k ≡ pos f → f ≡ (if on then unsigned_abs a else 0)
held_from true a k z f is none number = omega (arith, ints, is, number)
held_from false a k z f is none number = omega (arith, ints, is, none, number)

pub kept_above : (on : Bool) (a k z : ℤ) → k ≡ (if on then a else z) → z ≡ pos 0 → (on ≡ true → pos 0 ≤ℤ a) → pos 0 ≤ℤ k
kept_above true a k z is none above = omega (arith, ints, is, above refl)
kept_above false a k z is none above = omega (arith, ints, is, none)

pub kept_small : (on : Bool) (a k z : ℤ) → k ≡ (if on then a else z) → z ≡ pos 0 → unsigned_abs a ≤ 2147483648 → unsigned_abs k < 4611686018427387904
kept_small true a k z is none small = omega (arith, ints, is, small)
kept_small false a k z is none small = omega (arith, ints, is, none)

-- what a population becomes
pub moved_is : (result : ℤ) (x f : ℕ) (own change change' push push' : ℤ) → result ≡ pos x -ℤ pos 8388608 +ℤ push → pos x -ℤ pos 8388608 ≡ pos f +ℤ change → own ≡ pos f → change ≡ change' → push ≡ push' → result ≡ own +ℤ change' +ℤ push'
moved_is result x f own change change' push push' is raised same changed pushed = omega (arith, ints, is, raised, same, changed, pushed)

pub lowered_small : (result : ℤ) (x : ℕ) (push : ℤ) → result ≡ pos x -ℤ pos 8388608 +ℤ push → x < 33554432 → unsigned_abs push ≤ 663552 → unsigned_abs result ≤ 4294967296
lowered_small result x push is small pushed = omega (arith, ints, is, small, pushed)

-- what a lane is to become, by what is done with it
pub settled_is : (v : Stencil) (r : RelaxationRates) (g : List ℤ) (on back : Bool) (h : ℕ → ℤ) (i : ℕ) (result moved' own other : ℤ) → 0 < i → result ≡ (if on then moved' else (if back then other else own)) → (on ≡ true → moved' ≡ moved v r g h i) → h i ≡ own → h (opposite v i) ≡ other →
    result ≡ settled v r g on back h i
settled_is v r g true back h i result moved' own other moving is moved_is same there =
    let off : eqb i 0 ≡ false = ne_eqb i 0 (omega arith) in
    let rest : collision v r g h i ≡ moved v r g h i = rw off refl in
    is ∙ moved_is refl ∙ sym rest
settled_is v r g false true h i result moved' own other moving is moved_is same there = is ∙ sym there
settled_is v r g false false h i result moved' own other moving is moved_is same there = is ∙ sym same

pub settled_small : (on back : Bool) (result moved' own other : ℤ) → result ≡ (if on then moved' else (if back then other else own)) → unsigned_abs moved' ≤ 4294967296 → unsigned_abs own ≤ 2147483648 → unsigned_abs other ≤ 2147483648 → unsigned_abs result ≤ 4294967296
settled_small true back result moved' own other is a b c = omega (arith, ints, is, a)
settled_small false true result moved' own other is a b c = omega (arith, ints, is, c)
settled_small false false result moved' own other is a b c = omega (arith, ints, is, b)
