-- Sets in space whose directions stand in pairs: rest is first, and then come a velocity and its reverse for each pair.
use Rattle.std.specs.Prelude.{ℕ, zero, suc, ◌+◌, ◌*◌, List, [], ◌∷◌, ◌++◌, length, map, replicate, ℤ, pos, neg_ℤ}
use Rattle.lbm_space.specs.Stencil.{Stencil}

abbrev vector : ℤ → ℤ → ℤ → List ℤ
vector x y z = x ∷ y ∷ z ∷ []

abbrev minus_one : ℤ
minus_one = neg_ℤ (pos 1)

-- each velocity, and behind it its reverse
abbrev both_ways : List (List ℤ) → List (List ℤ)
both_ways [] = []
both_ways (c ∷ cs) = c ∷ map neg_ℤ c ∷ both_ways cs

-- the opposites within n pairs
abbrev exchanged : ℕ → List ℕ
exchanged zero = []
exchanged (suc n) = exchanged n ++ (2 * n + 2) ∷ (2 * n + 1) ∷ []

-- the set of these pairs, by the first velocity of each
abbrev paired : ℤ → List (List ℤ) → List ℤ → Stencil
paired denominator firsts weights = record {
  directions = 1 + 2 * length firsts;
  dimension = 3;
  denominator = denominator;
  velocities = vector (pos 0) (pos 0) (pos 0) ∷ both_ways firsts;
  weights = weights;
  opposites = 0 ∷ exchanged (length firsts);
}

-- along an axis: three pairs
abbrev axes : List (List ℤ)
axes =
    vector (pos 1) (pos 0) (pos 0) ∷
    vector (pos 0) (pos 1) (pos 0) ∷
    vector (pos 0) (pos 0) (pos 1) ∷ []

-- along a diagonal of a plane of two axes: six pairs
abbrev plane_diagonals : List (List ℤ)
plane_diagonals =
    vector (pos 1) (pos 1) (pos 0) ∷
    vector (pos 1) (pos 0) (pos 1) ∷
    vector (pos 0) (pos 1) (pos 1) ∷
    vector (pos 1) minus_one (pos 0) ∷
    vector (pos 1) (pos 0) minus_one ∷
    vector (pos 0) (pos 1) minus_one ∷ []

-- along a diagonal of the cube: four pairs
abbrev cube_diagonals : List (List ℤ)
cube_diagonals =
    vector (pos 1) (pos 1) (pos 1) ∷
    vector (pos 1) (pos 1) minus_one ∷
    vector (pos 1) minus_one (pos 1) ∷
    vector minus_one (pos 1) (pos 1) ∷ []

-- fifteen directions in space
abbrev pub d3q15 : Stencil
d3q15 = paired (pos 72) (axes ++ cube_diagonals)
    (pos 16 ∷ replicate 6 (pos 8) ++ replicate 8 (pos 1))

-- twenty-seven directions in space: all that there are
abbrev pub d3q27 : Stencil
d3q27 = paired (pos 216) (axes ++ plane_diagonals ++ cube_diagonals)
    (pos 64 ∷ replicate 6 (pos 16) ++ replicate 12 (pos 4) ++ replicate 8 (pos 1))
