use Rattle.std.specs.Prelude.{ℕ, ◌==◌, List, ℤ, pos, ◌+ℤ◌, ◌-ℤ◌, ◌*ℤ◌, ◌<ℤ◌, ◌≤ℤ◌, ◌≤◌, ◌≡◌, length, unsigned_abs, if◌then◌else◌}
use Rattle.std.specs.Int.{int_div_euclid}
use Rattle.lbm_space.specs.Sum.{sum_from_one}
use Rattle.lbm_space.specs.Stencil.{Stencil, part, dot, velocity, weight, opposite}
use Rattle.lbm_cell.specs.Limits.{greatest_rate, greatest_force}
use Rattle.lbm_cell.specs.Moments.{density, momentum}

-- two relaxation times: the even part of a pair of opposite directions relaxes by p / q, and the odd part by m / q
pub record RelaxationRates : Type 0 where
  pub p : ℤ
  pub m : ℤ
  pub q : ℤ

-- the rates that are allowed
pub record IsRates (r : RelaxationRates) : Type 0 where
  pub p_above : pos 0 <ℤ r.p
  pub m_above : pos 0 <ℤ r.m
  pub q_above : pos 0 <ℤ r.q
  pub p_at_most : r.p ≤ℤ pos greatest_rate
  pub m_at_most : r.m ≤ℤ pos greatest_rate
  pub q_at_most : r.q ≤ℤ pos greatest_rate
  pub p_stable : r.p <ℤ (pos 2 *ℤ r.q)
  pub m_stable : r.m <ℤ (pos 2 *ℤ r.q)

abbrev pub rates : ℤ → ℤ → ℤ → RelaxationRates
rates p m q = record { p = p; m = m; q = q }

-- the forces, and the velocities of a wall, that are allowed
pub record IsForce (u : List ℤ) : Type 0 where
  pub three_parts : length u ≡ 3
  pub x_small : unsigned_abs (part u 0) ≤ greatest_force
  pub y_small : unsigned_abs (part u 1) ≤ greatest_force
  pub z_small : unsigned_abs (part u 2) ≤ greatest_force

-- a / b for b above 0, rounded toward minus infinity
abbrev pub floor_div : ℤ → ℤ → ℤ
floor_div a b = int_div_euclid a b

-- the second-order equilibrium of velocity c is this number times its weight, over 2 den rho
abbrev pub equilibrium_numerator : ℤ → List ℤ → List ℤ → ℤ
equilibrium_numerator rho j c =
    let u = dot c j in
    pos 2 *ℤ (rho *ℤ rho) +ℤ pos 6 *ℤ (rho *ℤ u) +ℤ pos 9 *ℤ (u *ℤ u) -ℤ pos 3 *ℤ dot j j

-- how far population i is below its equilibrium, times 2 den rho
abbrev pub departure : Stencil → (ℕ → ℤ) → ℕ → ℤ
departure v f i =
    let rho = density v f in
    weight v i *ℤ equilibrium_numerator rho (momentum v f) (velocity v i) -ℤ pos 2 *ℤ (v.denominator *ℤ rho *ℤ f i)

-- what relaxation adds to population i
abbrev pub relaxation : Stencil → RelaxationRates → (ℕ → ℤ) → ℕ → ℤ
relaxation v r f i =
    let a = departure v f i in
    let b = departure v f (opposite v i) in
    floor_div (r.p *ℤ (a +ℤ b) +ℤ r.m *ℤ (a -ℤ b)) (pos 4 *ℤ (v.denominator *ℤ density v f *ℤ r.q))

-- what a force, or a wall that moves, gives to what moves in direction i
abbrev pub push : Stencil → List ℤ → ℕ → ℤ
push v g i = weight v i *ℤ dot (velocity v i) g

-- the moving populations as they are given, and at rest what is left of the density
abbrev pub with_rest : Stencil → ℤ → (ℕ → ℤ) → ℕ → ℤ
with_rest v rho moving i = if i == 0 then rho -ℤ sum_from_one v.directions moving else moving i

-- population i after a collision
abbrev pub collision : Stencil → RelaxationRates → List ℤ → (ℕ → ℤ) → ℕ → ℤ
collision v r g f = with_rest v (density v f) (λ i. f i +ℤ relaxation v r f i +ℤ push v g i)

-- population i after full-way bounce-back
abbrev pub reflection : Stencil → (ℕ → ℤ) → ℕ → ℤ
reflection v f i = f (opposite v i)

-- the equilibrium of direction i at a density and a momentum, rounded down
abbrev pub equilibrium : Stencil → ℤ → List ℤ → ℕ → ℤ
equilibrium v rho j i =
    floor_div (weight v i *ℤ equilibrium_numerator rho j (velocity v i)) (pos 2 *ℤ (v.denominator *ℤ rho))

-- the first population i of a fluid cell
abbrev pub first_population : Stencil → ℤ → List ℤ → ℕ → ℤ
first_population v rho j = with_rest v rho (equilibrium v rho j)
