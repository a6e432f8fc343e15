-- How far the momentum of a cell may drift in a collision.
use Rattle.std.specs.Prelude.{ℕ, ◌<◌, IsTrue, List, ℤ, pos, ◌-ℤ◌, ◌*ℤ◌, unsigned_abs, count_by}
use Rattle.std.specs.Ordering.{int_eq}
use Rattle.lbm_space.specs.Stencil.{Stencil, IsVelocitySet, part}
use Rattle.lbm_cell.specs.Moments.{momentum_part, in_limits}
use Rattle.lbm_cell.specs.Collision.{RelaxationRates, IsRates, collision, floor_div}

-- how many directions lead forward along axis a
abbrev pub forward_directions : Stencil → ℕ → ℕ
forward_directions v a = count_by (λ c. int_eq (part c a) (pos 1)) v.velocities

-- the momentum that a force gives to a cell in a step: den times the square of the speed of sound, which is 1/3, times the force
abbrev pub impulse : Stencil → List ℤ → ℕ → ℤ
impulse v g a = floor_div v.denominator (pos 3) *ℤ part g a

-- what a collision adds to the momentum beyond the impulse of the force
abbrev pub collision_drift : Stencil → RelaxationRates → List ℤ → (ℕ → ℤ) → ℕ → ℤ
collision_drift v r g f a = momentum_part v (collision v r g f) a -ℤ momentum_part v f a -ℤ impulse v g a

-- it is smaller on each axis than the number of directions that lead forward along it
abbrev pub DriftOfCollision : Type 0
DriftOfCollision = (v : Stencil) (r : RelaxationRates) (g : List ℤ) (f : ℕ → ℤ) (a : ℕ) → IsVelocitySet v → IsRates r → IsTrue (in_limits v f) → a < v.dimension →
    unsigned_abs (collision_drift v r g f a) < forward_directions v a
