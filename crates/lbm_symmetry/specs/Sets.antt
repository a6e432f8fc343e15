-- Velocity sets that prefer no orientation.
use Rattle.std.specs.Prelude.{◌≡◌, ℕ, ◌<◌, ◌==◌, ℤ, pos, ◌+ℤ◌, ◌*ℤ◌, if◌then◌else◌}
use Rattle.std.specs.Ordering.{int_eq}
use Rattle.std.specs.Cmp.Lexicographic.{pointwise}
use Rattle.lbm_space.specs.Sum.{sum_below}
use Rattle.lbm_space.specs.Stencil.{Stencil, part, velocity, weight}
use Rattle.lbm_model.specs.declared.sets.SetKind.{SetKind}
use Rattle.lbm_model.specs.Sets.{stencil_of}
use Rattle.lbm_symmetry.specs.Motions.{Motion, IsMotion, moved_vector, first_below}

-- every motion takes the velocity of each direction to that of a direction of equal weight
abbrev pub IsSymmetric : Stencil → Type 0
IsSymmetric v = (m : Motion) (i : ℕ) → IsMotion v.dimension m → i < v.directions →
    (j : ℕ) × (j < v.directions) × (velocity v j ≡ moved_vector m (velocity v i)) × (weight v j ≡ weight v i)

-- the direction whose velocity is moved to that of direction j
unfoldable pub former_direction : Motion → Stencil → ℕ → ℕ
former_direction m v j = first_below v.directions (λ i. pointwise int_eq (moved_vector m (velocity v i)) (velocity v j))

-- one where the axes are the same, and else zero
abbrev pub delta : ℕ → ℕ → ℤ
delta a b = if a == b then pos 1 else pos 0

-- the fourth moments of the weights are isotropic: the sum of the products of four parts of a velocity, each times its weight, is a
-- ninth of the denominator for each way to pair equal axes (Krüger et al., The Lattice Boltzmann Method, the chapter on velocity sets)
abbrev pub IsFourthOrderIsotropic : Stencil → Type 0
IsFourthOrderIsotropic v = (a b c d : ℕ) → a < v.dimension → b < v.dimension → c < v.dimension → d < v.dimension →
    pos 9 *ℤ sum_below v.directions (λ i. let u = velocity v i in weight v i *ℤ part u a *ℤ part u b *ℤ part u c *ℤ part u d)
    ≡ v.denominator *ℤ (delta a b *ℤ delta c d +ℤ delta a c *ℤ delta b d +ℤ delta a d *ℤ delta b c)

-- each of the named sets is so
abbrev pub SetsAreSymmetric : Type 0
SetsAreSymmetric = (set : SetKind) → IsSymmetric (stencil_of set)

abbrev pub SetsAreFourthOrderIsotropic : Type 0
SetsAreFourthOrderIsotropic = (set : SetKind) → IsFourthOrderIsotropic (stencil_of set)
