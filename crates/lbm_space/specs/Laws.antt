-- Proofs, and no definition: that the two tables meet the laws of a velocity set, by tests that compute. What is claimed is
-- `IsVelocitySet` of Stencil alone. They stand here because the code names them (`ghost laws`), and it can name no lemma of proofs/.
use Rattle.std.specs.Prelude.{◌≡◌, ℕ, zero, suc, ◌+◌, ◌*◌, ◌<◌, Bool, true, not, ◌||◌, ◌==◌, nat_lt, nat_le, length, ℤ, pos, ◌*ℤ◌, ◌≤ℤ◌, ◌<ℤ◌, neg_ℤ, unsigned_abs, int_lt, int_le, T, if◌then◌else◌}
use Rattle.std.specs.Ordering.{int_eq}
use Rattle.std.specs.Cmp.Rules.{signed_items}
use Rattle.std.specs.Cmp.Lexicographic.{pointwise}
use Rattle.std.proofs.Common.{refl, arith, inl, inr, subst, sym}
use Rattle.std.proofs.lemmas.Bool.{and_parts, cases_lt, ltb-true, leb-true, eqb-true, or_cases, not-true, both_ways}
use Rattle.std.proofs.lemmas.Bool.Decides.{Decides-int_eq}
use Rattle.lbm_space.specs.Limits.{most_directions, greatest_denominator}
use Rattle.lbm_space.specs.Sum.{sum_below, all_below}
use Rattle.lbm_space.specs.Stencil.{Stencil, part, velocity, weight, opposite, moving_axes, IsVelocitySet}
use Rattle.lbm_space.specs.Tables.{d2q9, d3q19}

-- `all_below`, shut so that a test over a table stays in one piece
unfoldable pub all_pass : ℕ → (ℕ → Bool) → Bool
all_pass n test = all_below n test

pub all_below_at : (test : ℕ → Bool) (n : ℕ) → all_below n test ≡ true → (k : ℕ) → k < n → test k ≡ true
all_below_at test zero passed k below = absurd (omega arith)
all_below_at test (suc n) passed k below =
    let parts : (all_below n test ≡ true) × (test n ≡ true) = and_parts _ _ passed in
    elim (cases_lt k n) [
      | inl smaller ↦ all_below_at test n parts.0 k smaller
      | inr last ↦ (let same : n ≡ k = omega arith in subst (λ (j : ℕ). test j ≡ true) same parts.1)
    ]

at_each : (test : ℕ → Bool) (n : ℕ) → all_pass n test ≡ true → (k : ℕ) → k < n → test k ≡ true
unfolding all_pass
at_each test n passed k below = all_below_at test n passed k below

-- two equal numbers, from a test
same_numbers : (x y : ℤ) → int_eq x y ≡ true → x ≡ y
same_numbers x y passed = (Decides-int_eq x y).0 passed

below_number : (x y : ℤ) → int_lt x y ≡ true → x <ℤ y
below_number x y passed = record { lt = subst T (sym passed) tt }

at_most_number : (x y : ℤ) → int_le x y ≡ true → x ≤ℤ y
at_most_number x y passed = record { le = subst T (sym passed) tt }

-- the laws of a velocity set as tests over its lists: at a written table each computes, under `unfolding all_pass`
pub record Passes (v : Stencil) : Type 0 where
  pub all_velocities : (length v.velocities == v.directions) ≡ true
  pub all_weights : (length v.weights == v.directions) ≡ true
  pub all_opposites : (length v.opposites == v.directions) ≡ true
  pub three_parts : all_pass v.directions (λ i. length (velocity v i) == 3) ≡ true
  -- 1
  pub some_direction : nat_lt 0 v.directions ≡ true
  pub few_directions : nat_le v.directions most_directions ≡ true
  pub plane_or_space : (v.dimension == 2 || v.dimension == 3) ≡ true
  -- 2
  pub unit_parts : all_pass v.directions (λ i. all_pass 3 (λ a. nat_le (unsigned_abs (part (velocity v i) a)) 1)) ≡ true
  pub flat_parts : all_pass v.directions (λ i. all_pass 3 (λ a. nat_lt a v.dimension || int_eq (part (velocity v i) a) (pos 0))) ≡ true
  -- 3
  pub rest : all_pass 3 (λ a. int_eq (part (velocity v 0) a) (pos 0)) ≡ true
  pub distinct : all_pass v.directions (λ i. all_pass v.directions (λ j. i == j || not (pointwise int_eq (velocity v i) (velocity v j)))) ≡ true
  -- 4
  pub opposite_exists : all_pass v.directions (λ i. nat_lt (opposite v i) v.directions) ≡ true
  pub opposite_twice : all_pass v.directions (λ i. opposite v (opposite v i) == i) ≡ true
  pub opposite_velocity : all_pass v.directions (λ i. all_pass 3 (λ a. int_eq (part (velocity v (opposite v i)) a) (neg_ℤ (part (velocity v i) a)))) ≡ true
  pub opposite_weight : all_pass v.directions (λ i. int_eq (weight v (opposite v i)) (weight v i)) ≡ true
  -- 5
  pub positive_weights : all_pass v.directions (λ i. int_lt (pos 0) (weight v i)) ≡ true
  pub whole : sum_below v.directions (λ i. weight v i) ≡ v.denominator
  -- 6
  pub balanced : all_pass 3 (λ a. int_eq (sum_below v.directions (λ i. weight v i *ℤ part (velocity v i) a)) (pos 0)) ≡ true
  -- 7
  pub isotropic : all_pass v.dimension (λ a. all_pass v.dimension (λ b. int_eq (pos 3 *ℤ sum_below v.directions (λ i. weight v i *ℤ part (velocity v i) a *ℤ part (velocity v i) b)) (if a == b then v.denominator else pos 0))) ≡ true
  -- 8
  pub small_denominator : int_le v.denominator (pos greatest_denominator) ≡ true
  pub light : all_pass v.directions (λ i. i == 0 || int_le (weight v i *ℤ pos (2 + 6 * moving_axes (velocity v i) + 9 * moving_axes (velocity v i) * moving_axes (velocity v i))) (pos 2 *ℤ v.denominator)) ≡ true

-- a set that passes the tests is a velocity set
pub laws_from_tests : (v : Stencil) → Passes v → IsVelocitySet v
laws_from_tests v t = record {
  some_direction = ltb-true _ _ t.some_direction;
  few_directions = leb-true _ _ t.few_directions;
  plane_or_space = elim (or_cases _ _ t.plane_or_space) [ inl two ↦ inl (eqb-true _ _ two) | inr three ↦ inr (eqb-true _ _ three) ];
  all_velocities = eqb-true _ _ t.all_velocities;
  all_weights = eqb-true _ _ t.all_weights;
  all_opposites = eqb-true _ _ t.all_opposites;
  three_parts = λ i known. eqb-true _ _ (at_each _ _ t.three_parts i known);
  unit_parts = λ i a known axis. leb-true _ _ (at_each _ _ (at_each _ _ t.unit_parts i known) a axis);
  flat_parts = λ i a known axis past. elim (or_cases _ _ (at_each _ _ (at_each _ _ t.flat_parts i known) a axis)) [
    | inl within ↦ (let lower : a < v.dimension = ltb-true _ _ within in absurd (omega arith))
    | inr none ↦ same_numbers _ _ none
  ];
  rest = λ a axis. same_numbers _ _ (at_each _ _ t.rest a axis);
  distinct = λ i j known_i known_j same. elim (or_cases _ _ (at_each _ _ (at_each _ _ t.distinct i known_i) j known_j)) [
    | inl one ↦ eqb-true _ _ one
    | inr differ ↦ absurd (both_ways _ (not-true _ differ) ((signed_items (velocity v i) (velocity v j)).1 same))
  ];
  opposite_exists = λ i known. ltb-true _ _ (at_each _ _ t.opposite_exists i known);
  opposite_twice = λ i known. eqb-true _ _ (at_each _ _ t.opposite_twice i known);
  opposite_velocity = λ i a known axis. same_numbers _ _ (at_each _ _ (at_each _ _ t.opposite_velocity i known) a axis);
  opposite_weight = λ i known. same_numbers _ _ (at_each _ _ t.opposite_weight i known);
  positive_weights = λ i known. below_number _ _ (at_each _ _ t.positive_weights i known);
  whole = t.whole;
  balanced = λ a axis. same_numbers _ _ (at_each _ _ t.balanced a axis);
  isotropic = λ a b axis_a axis_b. same_numbers _ _ (at_each _ _ (at_each _ _ t.isotropic a axis_a) b axis_b);
  small_denominator = at_most_number _ _ t.small_denominator;
  light = λ i moving known. elim (or_cases _ _ (at_each _ _ t.light i known)) [
    | inl still ↦ (let zero_index : i ≡ 0 = eqb-true _ _ still in absurd (omega arith))
    | inr small ↦ at_most_number _ _ small
  ];
}

pub d2q9_laws : IsVelocitySet d2q9
unfolding all_pass
d2q9_laws = laws_from_tests d2q9 (record { some_direction = refl; few_directions = refl; plane_or_space = refl; all_velocities = refl; all_weights = refl; all_opposites = refl; three_parts = refl; unit_parts = refl; flat_parts = refl; rest = refl; distinct = refl; opposite_exists = refl; opposite_twice = refl; opposite_velocity = refl; opposite_weight = refl; positive_weights = refl; whole = refl; balanced = refl; isotropic = refl; small_denominator = refl; light = refl })

pub d3q19_laws : IsVelocitySet d3q19
unfolding all_pass
d3q19_laws = laws_from_tests d3q19 (record { some_direction = refl; few_directions = refl; plane_or_space = refl; all_velocities = refl; all_weights = refl; all_opposites = refl; three_parts = refl; unit_parts = refl; flat_parts = refl; rest = refl; distinct = refl; opposite_exists = refl; opposite_twice = refl; opposite_velocity = refl; opposite_weight = refl; positive_weights = refl; whole = refl; balanced = refl; isotropic = refl; small_denominator = refl; light = refl })
