use Rattle.std.specs.Prelude.{◌≡◌, ◌⊎◌, ℕ, ◌+◌, ◌*◌, ◌<◌, ◌≤◌, ◌==◌, List, [], length, ℤ, pos, ◌+ℤ◌, ◌*ℤ◌, ◌≤ℤ◌, ◌<ℤ◌, neg_ℤ, unsigned_abs, slice_index, slice_index_or, if◌then◌else◌}
use Rattle.lbm_space.specs.Sum.{sum_below}
use Rattle.lbm_space.specs.Limits.{most_directions, greatest_denominator}

-- a velocity set as data: one entry of each list for each direction
pub record Stencil : Type 0 where
  pub directions : ℕ
  pub dimension : ℕ
  pub denominator : ℤ
  pub velocities : List (List ℤ)
  pub weights : List ℤ
  pub opposites : List ℕ

-- a part of a vector: 0 is x, 1 is y and 2 is z
abbrev pub part : List ℤ → ℕ → ℤ
part u a = slice_index_or u a (pos 0)

-- the inner product of two vectors of three parts
abbrev pub dot : List ℤ → List ℤ → ℤ
dot u v = part u 0 *ℤ part v 0 +ℤ part u 1 *ℤ part v 1 +ℤ part u 2 *ℤ part v 2

-- the velocity, the weight and the opposite of direction i
abbrev pub velocity : Stencil → ℕ → List ℤ
velocity v i = slice_index_or v.velocities i []

abbrev pub weight : Stencil → ℕ → ℤ
weight v i = slice_index_or v.weights i (pos 0)

abbrev pub opposite : Stencil → ℕ → ℕ
opposite v i = slice_index v.opposites i

-- of a vector whose parts are -1, 0 or 1, how many are not 0
abbrev pub moving_axes : List ℤ → ℕ
moving_axes u = unsigned_abs (part u 0) + unsigned_abs (part u 1) + unsigned_abs (part u 2)

-- the eight laws of a velocity set (Krüger et al., The Lattice Boltzmann Method, the chapter on the method), and that the lists are whole
pub record IsVelocitySet (v : Stencil) : Type 0 where
  -- Each list has an entry for each direction, and a velocity has three parts.
  pub all_velocities : length v.velocities ≡ v.directions
  pub all_weights : length v.weights ≡ v.directions
  pub all_opposites : length v.opposites ≡ v.directions
  pub three_parts : (i : ℕ) → i < v.directions → length (velocity v i) ≡ 3
  -- 1. There are 1 to 27 directions, in two or three dimensions.
  pub some_direction : 0 < v.directions
  pub few_directions : v.directions ≤ most_directions
  pub plane_or_space : (v.dimension ≡ 2) ⊎ (v.dimension ≡ 3)
  -- 2. Each part of a velocity is -1, 0 or 1, and the parts past the dimension are 0.
  pub unit_parts : (i a : ℕ) → i < v.directions → a < 3 → unsigned_abs (part (velocity v i) a) ≤ 1
  pub flat_parts : (i a : ℕ) → i < v.directions → a < 3 → v.dimension ≤ a → part (velocity v i) a ≡ pos 0
  -- 3. Direction 0 rests, and no two directions have the same velocity.
  pub rest : (a : ℕ) → a < 3 → part (velocity v 0) a ≡ pos 0
  pub distinct : (i j : ℕ) → i < v.directions → j < v.directions → velocity v i ≡ velocity v j → i ≡ j
  -- 4. The opposite of a direction has the reversed velocity and the same weight, and its opposite is the direction.
  pub opposite_exists : (i : ℕ) → i < v.directions → opposite v i < v.directions
  pub opposite_twice : (i : ℕ) → i < v.directions → opposite v (opposite v i) ≡ i
  pub opposite_velocity : (i a : ℕ) → i < v.directions → a < 3 → part (velocity v (opposite v i)) a ≡ neg_ℤ (part (velocity v i) a)
  pub opposite_weight : (i : ℕ) → i < v.directions → weight v (opposite v i) ≡ weight v i
  -- 5. The weights are above 0, and their sum is the denominator.
  pub positive_weights : (i : ℕ) → i < v.directions → pos 0 <ℤ weight v i
  pub whole : sum_below v.directions (λ i. weight v i) ≡ v.denominator
  -- 6. The sum of the velocities, each times its weight, is zero.
  pub balanced : (a : ℕ) → a < 3 → sum_below v.directions (λ i. weight v i *ℤ part (velocity v i) a) ≡ pos 0
  -- 7. The sum of the products of parts a and b of a velocity, each times its weight, is a third of the denominator where a is b, and 0 otherwise.
  pub isotropic : (a b : ℕ) → a < v.dimension → b < v.dimension → pos 3 *ℤ sum_below v.directions (λ i. weight v i *ℤ part (velocity v i) a *ℤ part (velocity v i) b) ≡ (if a == b then v.denominator else pos 0)
  -- 8. The denominator is at most 216, and a moving direction that has n parts other than 0 has a weight of at most 2 den / (2 + 6 n + 9 n^2).
  pub small_denominator : v.denominator ≤ℤ pos greatest_denominator
  pub light : (i : ℕ) → 0 < i → i < v.directions → (let n = moving_axes (velocity v i) in (weight v i *ℤ pos (2 + 6 * n + 9 * n * n)) ≤ℤ (pos 2 *ℤ v.denominator))
