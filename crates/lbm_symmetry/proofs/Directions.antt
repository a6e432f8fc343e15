-- A motion takes the directions of a symmetric set to its directions.
use Rattle.std.proofs.Common.{◌≡◌, ℕ, ◌<◌, ◌≤◌, Bool, true, List, length, ℤ, pos, neg_ℤ, refl, sym, ap, ◌∙◌, arith, lit<}
use Rattle.std.specs.Ordering.{int_eq}
use Rattle.std.specs.Cmp.Rules.{signed_items}
use Rattle.std.specs.Cmp.Lexicographic.{pointwise}
use Rattle.lbm_space.specs.Stencil.{Stencil, IsVelocitySet, part, velocity, weight, opposite}
use Rattle.lbm_symmetry.specs.Motions.{Motion, IsMotion, signed, moved_vector}
use Rattle.lbm_symmetry.specs.Sets.{IsSymmetric, former_direction}
use Rattle.lbm_symmetry.proofs.Axes.{each_axis, came_to, came_to_known, came_to-axis, axis-came_to, signed_twice, signed-neg, signed-zero, part-moved, same_parts}
use Rattle.lbm_symmetry.proofs.Search.{first_below-found}

-- the motion that undoes what another does with vectors
abbrev pub undone : Motion → Motion
undone m = record { axis = came_to m; reversed = λ b. m.reversed (came_to m b); shift = λ _. pos 0 }

pub IsMotion-undone : (d : ℕ) (m : Motion) → IsMotion d m → IsMotion d (undone m)
IsMotion-undone d m motion = record {
  known = λ b _. came_to_known m b;
  distinct = λ b c known_b known_c same. sym (axis-came_to d m motion b known_b) ∙ ap m.axis same ∙ axis-came_to d m motion c known_c;
  flat = λ b known past. ap (came_to m) (sym (motion.flat b known past)) ∙ came_to-axis d m motion b known;
}

moved-undone : (d : ℕ) (m : Motion) (u : List ℤ) → IsMotion d m → length u ≡ 3 → moved_vector m (moved_vector (undone m) u) ≡ u
moved-undone d m u motion three =
    same_parts (moved_vector m (moved_vector (undone m) u)) u refl three (λ a axis.
    part-moved m (moved_vector (undone m) u) a axis
    ∙ ap (signed (m.reversed a)) (part-moved (undone m) u (m.axis a) (motion.known a axis))
    ∙ ap (λ (k : ℕ). signed (m.reversed a) (signed (m.reversed k) (part u k))) (came_to-axis d m motion a axis)
    ∙ signed_twice (m.reversed a) (part u a))

undone-moved : (d : ℕ) (m : Motion) (u : List ℤ) → IsMotion d m → length u ≡ 3 → moved_vector (undone m) (moved_vector m u) ≡ u
undone-moved d m u motion three =
    same_parts (moved_vector (undone m) (moved_vector m u)) u refl three (λ b axis.
    let a : ℕ = came_to m b in
    part-moved (undone m) (moved_vector m u) b axis
    ∙ ap (signed (m.reversed a)) (part-moved m u a (came_to_known m b))
    ∙ signed_twice (m.reversed a) (part u (m.axis a))
    ∙ ap (part u) (axis-came_to d m motion b axis))

-- the directions of a set go to one another: direction j was direction `from j`
pub record Turns (m : Motion) (v : Stencil) (from to : ℕ → ℕ) : Type 0 where
  pub from_known : (j : ℕ) → j < v.directions → from j < v.directions
  pub to_known : (i : ℕ) → i < v.directions → to i < v.directions
  pub to-from : (j : ℕ) → j < v.directions → to (from j) ≡ j
  pub from-to : (i : ℕ) → i < v.directions → from (to i) ≡ i
  pub velocities : (j : ℕ) → j < v.directions → velocity v j ≡ moved_vector m (velocity v (from j))
  pub weights : (j : ℕ) → j < v.directions → weight v (from j) ≡ weight v j
  pub rest : from 0 ≡ 0
  pub opposites : (j : ℕ) → j < v.directions → from (opposite v j) ≡ opposite v (from j)

module _ (m : Motion) (v : Stencil) (motion : IsMotion v.dimension m) (laws : IsVelocitySet v) (symmetric : IsSymmetric v) where
  abbrev from : ℕ → ℕ
  from j = former_direction m v j

  found : (j : ℕ) → j < v.directions → (from j < v.directions) × (pointwise int_eq (moved_vector m (velocity v (from j))) (velocity v j) ≡ true)
  unfolding former_direction
  found j known =
      let there = symmetric (undone m) j (IsMotion-undone v.dimension m motion) known in
      let back : moved_vector m (velocity v there.0) ≡ velocity v j = ap (moved_vector m) there.2 ∙ moved-undone v.dimension m (velocity v j) motion (laws.three_parts j known) in
      first_below-found v.directions (λ i. pointwise int_eq (moved_vector m (velocity v i)) (velocity v j)) there.0 there.1
      ((signed_items (moved_vector m (velocity v there.0)) (velocity v j)).1 back)

  pub former_direction_known : (j : ℕ) → j < v.directions → from j < v.directions
  former_direction_known j known = (found j known).0

  pub moved-former_direction : (j : ℕ) → j < v.directions → moved_vector m (velocity v (from j)) ≡ velocity v j
  moved-former_direction j known = (signed_items (moved_vector m (velocity v (from j))) (velocity v j)).0 (found j known).1

  -- there is no other
  pub only_direction : (i j : ℕ) → i < v.directions → j < v.directions → moved_vector m (velocity v i) ≡ velocity v j → from j ≡ i
  only_direction i j known_i known_j is =
      let k : ℕ = from j in
      let known_k : k < v.directions = former_direction_known j known_j in
      laws.distinct k i known_k known_i
      (sym (undone-moved v.dimension m (velocity v k) motion (laws.three_parts k known_k))
      ∙ ap (moved_vector (undone m)) (moved-former_direction j known_j ∙ sym is)
      ∙ undone-moved v.dimension m (velocity v i) motion (laws.three_parts i known_i))

  weight-former_direction : (j : ℕ) → j < v.directions → weight v (from j) ≡ weight v j
  weight-former_direction j known =
      let i : ℕ = from j in
      let known_i : i < v.directions = former_direction_known j known in
      let there = symmetric m i motion known_i in
      let same : there.0 ≡ j = laws.distinct there.0 j there.1 known (there.2 ∙ moved-former_direction j known) in
      sym there.3 ∙ ap (weight v) same

  rest-former_direction : from 0 ≡ 0
  rest-former_direction =
      only_direction 0 0 laws.some_direction laws.some_direction
      (same_parts (moved_vector m (velocity v 0)) (velocity v 0) refl (laws.three_parts 0 laws.some_direction) (λ a axis.
      part-moved m (velocity v 0) a axis ∙ ap (signed (m.reversed a)) (laws.rest (m.axis a) (motion.known a axis)) ∙ signed-zero (m.reversed a) ∙ sym (laws.rest a axis)))

  opposite-former_direction : (j : ℕ) → j < v.directions → from (opposite v j) ≡ opposite v (from j)
  opposite-former_direction j known =
      let i : ℕ = from j in
      let known_i : i < v.directions = former_direction_known j known in
      let known_o : opposite v j < v.directions = laws.opposite_exists j known in
      only_direction (opposite v i) (opposite v j) (laws.opposite_exists i known_i) known_o
      (same_parts (moved_vector m (velocity v (opposite v i))) (velocity v (opposite v j)) refl (laws.three_parts (opposite v j) known_o) (λ a axis.
      part-moved m (velocity v (opposite v i)) a axis
      ∙ ap (signed (m.reversed a)) (laws.opposite_velocity i (m.axis a) known_i (motion.known a axis))
      ∙ signed-neg (m.reversed a) (part (velocity v i) (m.axis a))
      ∙ ap neg_ℤ (sym (part-moved m (velocity v i) a axis) ∙ ap (λ (u : List ℤ). part u a) (moved-former_direction j known))
      ∙ sym (laws.opposite_velocity j a known axis)))

pub turns : (m : Motion) (v : Stencil) → IsMotion v.dimension m → IsVelocitySet v → IsSymmetric v → Turns m v (former_direction m v) (former_direction (undone m) v)
turns m v motion laws symmetric =
    let back : IsMotion v.dimension (undone m) = IsMotion-undone v.dimension m motion in
    record {
      from_known = former_direction_known m v motion laws symmetric;
      to_known = former_direction_known (undone m) v back laws symmetric;
      to-from = λ j known.
          let i : ℕ = former_direction m v j in
          let known_i : i < v.directions = former_direction_known m v motion laws symmetric j known in
          only_direction (undone m) v back laws symmetric j i known known_i
          (ap (moved_vector (undone m)) (sym (moved-former_direction m v motion laws symmetric j known)) ∙ undone-moved v.dimension m (velocity v i) motion (laws.three_parts i known_i));
      from-to = λ i known.
          let j : ℕ = former_direction (undone m) v i in
          let known_j : j < v.directions = former_direction_known (undone m) v back laws symmetric i known in
          only_direction m v motion laws symmetric i j known known_j
          (ap (moved_vector m) (sym (moved-former_direction (undone m) v back laws symmetric i known)) ∙ moved-undone v.dimension m (velocity v j) motion (laws.three_parts j known_j));
      velocities = λ j known. sym (moved-former_direction m v motion laws symmetric j known);
      weights = weight-former_direction m v motion laws symmetric;
      rest = rest-former_direction m v motion laws symmetric;
      opposites = opposite-former_direction m v motion laws symmetric;
    }
