-- The directions in which a tracer moves: rest, and the neighbours along an axis, numbered as the first ones of D2Q9 and of D3Q19.
use Rattle.std.specs.Prelude.{ℕ, ◌+◌, List, [], ◌∷◌, ℤ, pos, negsuc, nat_eq, if◌then◌else◌}
use Rattle.lbm_space.specs.Stencil.{Stencil}
use Rattle.lbm_tracer.specs.declared.set.TracerSet.{TracerSet}
use Rattle.lbm_tracer.specs.declared.set.TracerSet.TheVariants.{D2Q5, D3Q7}

abbrev vector : ℤ → ℤ → ℤ → List ℤ
vector x y z = x ∷ y ∷ z ∷ []

abbrev minus_one : ℤ
minus_one = negsuc 0

-- five directions in the plane
abbrev pub d2q5 : Stencil
d2q5 = record {
  directions = 5;
  dimension = 2;
  denominator = pos 6;
  velocities =
      vector (pos 0) (pos 0) (pos 0) ∷
      vector (pos 1) (pos 0) (pos 0) ∷
      vector (pos 0) (pos 1) (pos 0) ∷
      vector minus_one (pos 0) (pos 0) ∷
      vector (pos 0) minus_one (pos 0) ∷ [];
  weights = pos 2 ∷ pos 1 ∷ pos 1 ∷ pos 1 ∷ pos 1 ∷ [];
  opposites = 0 ∷ 3 ∷ 4 ∷ 1 ∷ 2 ∷ [];
}

-- seven directions in space
abbrev pub d3q7 : Stencil
d3q7 = record {
  directions = 7;
  dimension = 3;
  denominator = pos 8;
  velocities =
      vector (pos 0) (pos 0) (pos 0) ∷
      vector (pos 1) (pos 0) (pos 0) ∷
      vector minus_one (pos 0) (pos 0) ∷
      vector (pos 0) (pos 1) (pos 0) ∷
      vector (pos 0) minus_one (pos 0) ∷
      vector (pos 0) (pos 0) (pos 1) ∷
      vector (pos 0) (pos 0) minus_one ∷ [];
  weights = pos 2 ∷ pos 1 ∷ pos 1 ∷ pos 1 ∷ pos 1 ∷ pos 1 ∷ pos 1 ∷ [];
  opposites = 0 ∷ 2 ∷ 1 ∷ 4 ∷ 3 ∷ 6 ∷ 5 ∷ [];
}

-- the set of a number of dimensions
abbrev pub tracer_set : ℕ → Stencil
tracer_set dimension = if nat_eq dimension 2 then d2q5 else d3q7

-- the set that a name stands for
abbrev pub stencil_of : TracerSet → Stencil
stencil_of D2Q5 = d2q5
stencil_of D3Q7 = d3q7

-- one over the square of the set's speed of sound: 3 in the plane and 4 in space
abbrev pub inverse_sound_squared : Stencil → ℤ
inverse_sound_squared v = pos (v.dimension + 1)
