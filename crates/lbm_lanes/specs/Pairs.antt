-- What relaxation adds to a population, by the numbers of its cell and of its pair.
--     w          the weight of the pair, over the denominator d
--     rho, own   the density, and the square of the momentum
--     u          the momentum along the velocity of the direction, and against that of its opposite
--     f, o       the populations of the direction and of its opposite
use Rattle.std.specs.Prelude.{◌≡◌, ℕ, ◌+◌, ◌-◌, ◌*◌, ◌/◌, ◌^◌, ◌<◌, ◌≤◌, ℤ, pos, ◌+ℤ◌, ◌-ℤ◌, ◌*ℤ◌}
use Rattle.lbm_space.specs.Limits.{greatest_denominator}
use Rattle.lbm_cell.specs.Limits.{least_density, greatest_density}
use Rattle.lbm_cell.specs.Collision.{RelaxationRates, floor_div}

-- how far a population is below its equilibrium, times 2 d rho
abbrev pub shortfall : (w d rho own u f : ℤ) → ℤ
shortfall w d rho own u f =
    w *ℤ (pos 2 *ℤ (rho *ℤ rho) +ℤ pos 6 *ℤ (rho *ℤ u) +ℤ pos 9 *ℤ (u *ℤ u) -ℤ pos 3 *ℤ own) -ℤ pos 2 *ℤ (d *ℤ rho *ℤ f)

-- a divisor with its reciprocal, of which the last digits of a dividend are cut off by a shift
pub record IsDivisor (d shift reciprocal : ℕ) : Type 0 where
  pub above : 2 * 2 ^ shift ≤ d
  pub below : d < 128 * 2 ^ shift
  pub known : shift ≤ 12
  pub reciprocal_is : reciprocal ≡ 2 ^ shift * 4294967296 / d

-- rates of one
pub record IsOne (r : RelaxationRates) : Type 0 where
  pub p_is : r.p ≡ pos 1
  pub m_is : r.m ≡ pos 1
  pub q_is : r.q ≡ pos 1

-- a cell of density rho, with the reciprocal of rho, and of whose momentum the square is own
pub record IsPrepared (rho reciprocal own base : ℕ) : Type 0 where
  pub not_thin : least_density ≤ rho
  pub not_dense : rho ≤ greatest_density
  pub reciprocal_is : reciprocal ≡ 562949953421312 / rho
  pub square : own ≤ 3 * (rho * rho)
  pub base_is : base + 3 * own ≡ 11 * (rho * rho)

-- a pair of directions of weight w over d, whose velocities have n parts other than 0
pub record IsMoving (w d n : ℕ) : Type 0 where
  pub moves : 1 ≤ n
  pub axes : n ≤ 3
  pub some : 0 < d
  pub small : d ≤ greatest_denominator
  pub weight : w ≤ 216
  pub light : w * (2 + 6 * n + 9 * n * n) ≤ 2 * d

-- The dividend of a direction as a difference of natural numbers, raised by 2^23 divisors. `raised` is the momentum along its velocity plus 2^23.
abbrev pub above : (speed odd divisor shared raised o : ℕ) → ℕ
above speed odd divisor shared raised o = shared + speed * raised + (odd * o + divisor * 8388608)

abbrev pub below : (even mean speed odd rho f o : ℕ) → ℕ
below even mean speed odd rho f o = 9 * even * rho + mean * (f + o) + (speed * 8388608 + odd * f)

-- What is divided by 2 d in equilibrium, raised by 2^23 divisors.
abbrev pub balance : (w d r raised shared : ℕ) → ℕ
balance w d r raised shared = shared + (2 * d - 6 * w) * 8388608 - 9 * w * r + 6 * w * raised

-- a lane of a pair: a pair of weight w over d with rates p / q and m / q, whose velocities have n parts other than 0, in a cell of density r with the square own of its momentum
pub record IsLane (w d p m q n r own base raised f o : ℕ) : Type 0 where
  pub moves : 1 ≤ n
  pub axes : n ≤ 3
  pub light : w * (2 + 6 * n + 9 * n * n) ≤ 2 * d
  pub divides : 0 < d
  pub rated : 0 < q
  pub p_stable : p ≤ 2 * q
  pub m_stable : m ≤ 2 * q
  pub not_thin : least_density ≤ r
  pub not_dense : r ≤ greatest_density
  pub square : own ≤ 3 * (r * r)
  pub base_is : base + 3 * own ≡ 11 * (r * r)
  pub forward : raised ≤ 8388608 + n * r
  pub backward : 8388608 ≤ raised + n * r
  pub ahead : f ≤ r
  pub behind : o ≤ r

-- even y / r, rounded down, where y is base + 9 u^2, and `raised` is u + 2^23
pub record IsShared (even r base raised square y shared : ℕ) : Type 0 where
  pub is_square : square + 16777216 * raised ≡ raised * raised + 70368744177664
  pub is_y : y ≡ base + 9 * square
  pub is_shared : shared ≡ even * (y / r) + even * (y - y / r * r) / r

-- what relaxation adds to f, of a lane by natural numbers
abbrev pub change : (w d p m q r own raised f o : ℕ) → ℤ
change w d p m q r own raised f o =
    let a = shortfall (pos w) (pos d) (pos r) (pos own) (pos raised -ℤ pos 8388608) (pos f) in
    let b = shortfall (pos w) (pos d) (pos r) (pos own) (pos 8388608 -ℤ pos raised) (pos o) in
    floor_div (pos p *ℤ (a +ℤ b) +ℤ pos m *ℤ (a -ℤ b)) (pos 4 *ℤ (pos d *ℤ pos r *ℤ pos q))
