-- The cells of a block that collide, by natural numbers.
use Rattle.std.specs.Prelude.{◌≡◌, ℕ, ◌+◌, ◌*◌, ◌/◌, ◌≤◌, Bool, true, List, [], ◌∷◌, ℤ, pos, ◌+ℤ◌, ◌-ℤ◌, ◌≤ℤ◌, IsTrue, unsigned_abs, nat_lt, slice_index, if◌then◌else◌}
use Rattle.lbm_space.specs.Stencil.{Stencil}
use Rattle.lbm_cell.specs.Limits.{least_density, greatest_density}
use Rattle.lbm_cell.specs.Moments.{density, momentum, in_limits}
use Rattle.lbm_cell.specs.Collision.{RelaxationRates, relaxation, push, collision, reflection}

-- a vector whose parts are given raised by 2^23, and its square
abbrev pub lowered : (x y z : ℕ) → List ℤ
lowered x y z = (pos x -ℤ pos 8388608) ∷ (pos y -ℤ pos 8388608) ∷ (pos z -ℤ pos 8388608) ∷ []

abbrev pub own_square : (x y z : ℕ) → ℕ
own_square x y z =
    unsigned_abs (pos x -ℤ pos 8388608) * unsigned_abs (pos x -ℤ pos 8388608) + unsigned_abs (pos y -ℤ pos 8388608) * unsigned_abs (pos y -ℤ pos 8388608) + unsigned_abs (pos z -ℤ pos 8388608) * unsigned_abs (pos z -ℤ pos 8388608)

-- numbers that a lane may have: a density, its reciprocal, a momentum raised by 2^23, and 11 rho^2 less three times its square
pub record IsSound (rho reciprocal base x y z : ℕ) : Type 0 where
  pub not_thin : least_density ≤ rho
  pub not_dense : rho ≤ greatest_density
  pub reciprocal_is : reciprocal ≡ 562949953421312 / rho
  pub base_is : base + 3 * own_square x y z ≡ 11 * (rho * rho)
  pub x_small : unsigned_abs (pos x -ℤ pos 8388608) ≤ rho
  pub y_small : unsigned_abs (pos y -ℤ pos 8388608) ≤ rho
  pub z_small : unsigned_abs (pos z -ℤ pos 8388608) ≤ rho

-- they are those of a cell in limits
pub record IsCell (v : Stencil) (h : ℕ → ℤ) (rho x y z : ℕ) : Type 0 where
  pub limits : IsTrue (in_limits v h)
  pub density_is : density v h ≡ pos rho
  pub momentum_is : momentum v h ≡ lowered x y z

-- whether a lane collides: in a mixed block where its flag is above 0, and in another block everywhere
abbrev pub is_on : Bool → ℕ → Bool
is_on mixed flag = if mixed then nat_lt 0 flag else true

-- sums that are small, and those of a cell in limits where a lane collides
pub record IsWithin (chosen : Bool) (rho x y z : ℤ) : Type 0 where
  pub rho_small : unsigned_abs rho ≤ 57982058496
  pub x_small : unsigned_abs x ≤ 57982058496
  pub y_small : unsigned_abs y ≤ 57982058496
  pub z_small : unsigned_abs z ≤ 57982058496
  pub not_thin : chosen ≡ true → pos least_density ≤ℤ rho
  pub not_dense : chosen ≡ true → rho ≤ℤ pos greatest_density
  pub x_within : chosen ≡ true → unsigned_abs x ≤ unsigned_abs rho
  pub y_within : chosen ≡ true → unsigned_abs y ≤ unsigned_abs rho
  pub z_within : chosen ≡ true → unsigned_abs z ≤ unsigned_abs rho

-- the numbers of a lane, whose cell has populations h, where it collides
pub record IsReady (v : Stencil) (chosen : Bool) (rho reciprocal base x y z : ℕ) (h : ℕ → ℤ) : Type 0 where
  pub sound : IsSound rho reciprocal base x y z
  pub cell : chosen ≡ true → IsCell v h rho x y z

-- what a lane becomes, by what is done with it
abbrev pub settled : Stencil → RelaxationRates → List ℤ → (chosen solid : Bool) → (ℕ → ℤ) → ℕ → ℤ
settled v r g chosen solid f = if chosen then collision v r g f else (if solid then reflection v f else f)

-- a moving population after it has relaxed and been pushed
abbrev pub moved : Stencil → RelaxationRates → List ℤ → (ℕ → ℤ) → ℕ → ℤ
moved v r g h i = h i +ℤ relaxation v r h i +ℤ push v g i

-- what lane l becomes, of a block whose lanes collide and turn back where they are flagged
abbrev pub after : Stencil → RelaxationRates → List ℤ → (mixed : Bool) (colliding turning : List ℕ) (h : ℕ → ℕ → ℤ) → ℕ → ℕ → ℤ
after v r g mixed colliding turning h l = settled v r g (is_on mixed (slice_index colliding l)) (nat_lt 0 (slice_index turning l)) (h l)
