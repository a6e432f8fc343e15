-- The worked motions, by computation.
use Rattle.std.proofs.Common.{◌≡◌, ℕ, ◌<◌, ◌≤◌, ℤ, pos, refl, ap, sym, ◌∙◌, arith, lit<, lit≤}
use Rattle.lbm_space.specs.Stencil.{velocity, weight, IsVelocitySet}
use Rattle.lbm_space.specs.Laws.{all_pass, laws_from_tests}
use Rattle.lbm_symmetry.specs.Motions.{moved_cell, former_cell, exchange}
use Rattle.lbm_symmetry.specs.Sets.{IsSymmetric, former_direction}
use Rattle.lbm_symmetry.proofs.Named.{exchanges}
use Rattle.lbm_symmetry.specs.Worked.{MovedCells, MovedDirections, column, MovedCase, skewed, SkewedSet}

pub cells : MovedCells
unfolding moved_cell former_cell
cells = record {
  shifted = refl;
  shifted_left = refl;
  left_and_right = refl;
  up_and_down = refl;
  sides = refl;
  exchanged = refl;
  turned = refl;
  former = refl;
}

pub directions : MovedDirections
unfolding former_direction
directions = record { turned_vector = refl; turned = refl; mirrored = refl; shifted = refl }

pub case : MovedCase
unfolding column moved_cell former_cell
case = record { box = refl; densities = refl; moving = refl; wall = refl; force = refl; momentum = refl; twice = refl }

skewed_laws : IsVelocitySet skewed
unfolding all_pass skewed
skewed_laws = laws_from_tests skewed (record { some_direction = refl; few_directions = refl; plane_or_space = refl; all_velocities = refl; all_weights = refl; all_opposites = refl; three_parts = refl; unit_parts = refl; flat_parts = refl; rest = refl; distinct = refl; opposite_exists = refl; opposite_twice = refl; opposite_velocity = refl; opposite_weight = refl; positive_weights = refl; whole = refl; balanced = refl; isotropic = refl; small_denominator = refl; light = refl })

-- an exchange of x and z takes direction 1, of weight 6, to direction 5, of weight 4
skewed_not_symmetric : IsSymmetric skewed → ⊥
unfolding skewed
skewed_not_symmetric symmetric =
    let there = symmetric (exchange 0 2) 1 (exchanges 3 0 2 (lit≤ tt) (lit< tt) (lit< tt)) (lit< tt) in
    let along_z : velocity skewed 5 ≡ velocity skewed there.0 = sym there.2 in
    let same : 5 ≡ there.0 = skewed_laws.distinct 5 there.0 (lit< tt) there.1 along_z in
    let weights : weight skewed 5 ≡ pos 6 = ap (weight skewed) same ∙ there.3 in
    absurd cc

pub skewed_set : SkewedSet
skewed_set = record { laws = skewed_laws; not_symmetric = skewed_not_symmetric }
