-- The four sets, by tests that compute: directions of equal speed have equal weights, and all vectors of unit parts of that speed are
-- velocities; and the fourth moments.
use Rattle.std.proofs.Common.{◌≡◌, ℕ, zero, suc, ◌+◌, ◌*◌, ◌<◌, ◌≤◌, Bool, true, false, not, ◌||◌, ◌&&◌, eqb, List, [], ◌∷◌, length, ℤ, pos, negsuc, ◌+ℤ◌, ◌-ℤ◌, ◌*ℤ◌, unsigned_abs, refl, sym, ap, subst, ◌∙◌, inl, inr, arith, lit<}
use Rattle.std.specs.Prelude.{◌==◌, if◌then◌else◌}
use Rattle.std.specs.Ordering.{int_eq}
use Rattle.std.specs.Cmp.Rules.{signed_items}
use Rattle.std.specs.Cmp.Lexicographic.{pointwise}
use Rattle.std.proofs.lemmas.Int.{ints}
use Rattle.std.proofs.lemmas.Bool.{or_cases, and_cases, and_parts, not-true, not-false, both_ways, eq-eqb, eqb-true}
use Rattle.std.proofs.lemmas.Bool.Decides.{Decides-int_eq}
use Rattle.lbm_space.specs.Sum.{sum_below, all_below}
use Rattle.lbm_space.specs.Stencil.{Stencil, IsVelocitySet, part, velocity, weight, moving_axes}
use Rattle.lbm_space.specs.Tables.{d2q9, d3q19}
use Rattle.lbm_space.specs.Laws.{all_pass, all_below_at, d2q9_laws, d3q19_laws}
use Rattle.lbm_sets.specs.Tables.{d3q15, d3q27}
use Rattle.lbm_sets.specs.Laws.{d3q15_laws, d3q27_laws}
use Rattle.lbm_model.specs.declared.sets.SetKind.{SetKind}
use Rattle.lbm_model.specs.declared.sets.SetKind.TheVariants.{D2Q9, D3Q19, D3Q15, D3Q27}
use Rattle.lbm_model.specs.Sets.{stencil_of}
use Rattle.lbm_symmetry.specs.Motions.{Motion, IsMotion, signed, moved_vector}
use Rattle.lbm_symmetry.specs.Sets.{IsSymmetric, delta, IsFourthOrderIsotropic, SetsAreSymmetric, SetsAreFourthOrderIsotropic}
use Rattle.lbm_symmetry.proofs.Axes.{each_axis, ordered, part-moved, size-signed, signed-zero}

at_each : (test : ℕ → Bool) (n : ℕ) → all_pass n test ≡ true → (k : ℕ) → k < n → test k ≡ true
unfolding all_pass
at_each test n passed k below = all_below_at test n passed k below

-- -1, 0 and 1
abbrev unit : ℕ → ℤ
unit k = pos k -ℤ pos 1

abbrev unit_vector : ℕ → ℕ → ℕ → List ℤ
unit_vector x y z = unit x ∷ unit y ∷ unit z ∷ []

-- some direction has this velocity
abbrev has : Stencil → List ℤ → Bool
has v u = not (all_pass v.directions (λ j. not (pointwise int_eq (velocity v j) u)))

-- as tests: of two directions of equal speed the weights are equal; a vector that is as fast as a direction is a velocity, unless it
-- leaves the plane of a set in the plane
record Shells (v : Stencil) : Type 0 where
  equal_weights : all_pass v.directions (λ i. all_pass v.directions (λ j. not (moving_axes (velocity v i) == moving_axes (velocity v j)) || int_eq (weight v i) (weight v j))) ≡ true
  whole_shells : all_pass 3 (λ x. all_pass 3 (λ y. all_pass 3 (λ z. all_pass v.directions (λ i.
      not (moving_axes (velocity v i) == moving_axes (unit_vector x y z)) || ((v.dimension == 2 && not (z == 1)) || has v (unit_vector x y z)))))) ≡ true

d2q9_shells : Shells d2q9
unfolding all_pass
d2q9_shells = record { equal_weights = refl; whole_shells = refl }

d3q15_shells : Shells d3q15
unfolding all_pass
d3q15_shells = record { equal_weights = refl; whole_shells = refl }

d3q19_shells : Shells d3q19
unfolding all_pass
d3q19_shells = record { equal_weights = refl; whole_shells = refl }

d3q27_shells : Shells d3q27
unfolding all_pass
d3q27_shells = record { equal_weights = refl; whole_shells = refl }

-- where not all fail one passes
some_passes : (n : ℕ) (test : ℕ → Bool) → all_below n (λ j. not (test j)) ≡ false → (j : ℕ) × (j < n) × (test j ≡ true)
some_passes zero test failed = absurd cc
some_passes (suc n) test failed = elim (and_cases (all_below n (λ j. not (test j))) (not (test n)) failed) [
  | inl front ↦ (let there = some_passes n test front in (there.0, omega (arith, there.1), there.2))
  | inr last ↦ (n, omega arith, not-false (test n) last)
]

has_direction : (v : Stencil) (u : List ℤ) → has v u ≡ true → (j : ℕ) × (j < v.directions) × (velocity v j ≡ u)
unfolding all_pass
has_direction v u passed =
    let there = some_passes v.directions (λ j. pointwise int_eq (velocity v j) u) (not-true _ passed) in
    (there.0, there.1, (signed_items (velocity v there.0) u).0 there.2)

as_unit : (z : ℤ) → unsigned_abs z ≤ 1 → (k : ℕ) × (k < 3) × (z ≡ unit k)
as_unit (pos zero) small = (1, lit< tt, refl)
as_unit (pos (suc zero)) small = (2, lit< tt, refl)
as_unit (pos (suc (suc n))) small = absurd (omega arith)
as_unit (negsuc zero) small = (0, lit< tt, refl)
as_unit (negsuc (suc n)) small = absurd (omega arith)

unit-zero : (k : ℕ) → k < 3 → unit k ≡ pos 0 → k ≡ 1
unit-zero = each_axis (λ (k : ℕ). unit k ≡ pos 0 → k ≡ 1) (λ e. absurd cc) (λ e. refl) (λ e. absurd cc)

-- a motion keeps the speed
moving_axes-moved : (d : ℕ) (m : Motion) (u : List ℤ) → IsMotion d m → moving_axes (moved_vector m u) ≡ moving_axes u
moving_axes-moved d m u motion =
    let size : (a : ℕ) → unsigned_abs (signed (m.reversed a) (part u (m.axis a))) ≡ unsigned_abs (part u (m.axis a)) = λ a. size-signed (m.reversed a) (part u (m.axis a)) in
    rw (size 0, size 1, size 2)
    (ordered (λ (a b c : ℕ). unsigned_abs (part u a) + unsigned_abs (part u b) + unsigned_abs (part u c) ≡ moving_axes u) d m motion refl (omega arith) (omega arith) (omega arith) (omega arith) (omega arith))

-- a test that holds unless the speeds differ
of_equal_speed : (x y : ℕ) (rest : Bool) → x ≡ y → (not (x == y) || rest) ≡ true → rest ≡ true
of_equal_speed x y rest same passed = elim (or_cases (not (x == y)) rest passed) [
  | inl differ ↦ absurd (both_ways (x == y) (not-true (x == y) differ) (eq-eqb x y same))
  | inr is ↦ is
]

in_plane : (d z : ℕ) (rest : Bool) → (d ≡ 2 → z ≡ 1) → ((d == 2 && not (z == 1)) || rest) ≡ true → rest ≡ true
in_plane d z rest flat passed = elim (or_cases (d == 2 && not (z == 1)) rest passed) [
  | inl leaves ↦ (
      let parts : ((d == 2) ≡ true) × (not (z == 1) ≡ true) = and_parts (d == 2) (not (z == 1)) leaves in
      absurd (both_ways (z == 1) (not-true (z == 1) parts.1) (eq-eqb z 1 (flat (eqb-true d 2 parts.0)))))
  | inr is ↦ is
]

same_number : (a b : ℤ) → int_eq a b ≡ true → a ≡ b
same_number a b passed = (Decides-int_eq a b).0 passed

-- a vector of unit parts that is as fast as direction i is the velocity of a direction of equal weight
of_shell : (v : Stencil) → Shells v → (i x y z : ℕ) → i < v.directions → x < 3 → y < 3 → z < 3 → moving_axes (velocity v i) ≡ moving_axes (unit_vector x y z) → (v.dimension ≡ 2 → z ≡ 1) →
    (j : ℕ) × (j < v.directions) × (velocity v j ≡ unit_vector x y z) × (weight v j ≡ weight v i)
of_shell v shells i x y z known known_x known_y known_z speed flat =
    let tested = at_each _ _ (at_each _ _ (at_each _ _ (at_each _ _ shells.whole_shells x known_x) y known_y) z known_z) i known in
    let there = has_direction v (unit_vector x y z) (in_plane v.dimension z _ flat (of_equal_speed _ _ _ speed tested)) in
    let weighed = at_each _ _ (at_each _ _ shells.equal_weights there.0 there.1) i known in
    (there.0, there.1, there.2, same_number (weight v there.0) (weight v i) (of_equal_speed _ _ _ (ap moving_axes there.2 ∙ sym speed) weighed))

-- the moved velocity of direction i is one
as_units : (u : List ℤ) (x y z : ℤ) → u ≡ part u 0 ∷ part u 1 ∷ part u 2 ∷ [] → part u 0 ≡ x → part u 1 ≡ y → part u 2 ≡ z → u ≡ x ∷ y ∷ z ∷ []
as_units u x y z whole is_x is_y is_z = cc

moved_unit : (d : ℕ) (m : Motion) (c : List ℤ) → IsMotion d m → ((a : ℕ) → a < 3 → unsigned_abs (part c a) ≤ 1) → (a : ℕ) → a < 3 → unsigned_abs (part (moved_vector m c) a) ≤ 1
moved_unit d m c motion small a axis = rw (part-moved m c a axis, size-signed (m.reversed a) (part c (m.axis a))) (small (m.axis a) (motion.known a axis))

moved_flat : (d : ℕ) (m : Motion) (c : List ℤ) → IsMotion d m → d ≤ 2 → part c 2 ≡ pos 0 → part (moved_vector m c) 2 ≡ pos 0
moved_flat d m c motion plane none =
    ap (λ (b : ℕ). signed (m.reversed 2) (part c b)) (motion.flat 2 (lit< tt) plane) ∙ ap (signed (m.reversed 2)) none ∙ signed-zero (m.reversed 2)

-- so a set of whole shells is symmetric
symmetric_from_shells : (v : Stencil) → IsVelocitySet v → Shells v → IsSymmetric v
symmetric_from_shells v laws shells m i motion known =
    let small = moved_unit v.dimension m (velocity v i) motion (λ a axis. laws.unit_parts i a known axis) in
    let x = as_unit (part (moved_vector m (velocity v i)) 0) (small 0 (lit< tt)) in
    let y = as_unit (part (moved_vector m (velocity v i)) 1) (small 1 (lit< tt)) in
    let z = as_unit (part (moved_vector m (velocity v i)) 2) (small 2 (lit< tt)) in
    let is : moved_vector m (velocity v i) ≡ unit_vector x.0 y.0 z.0 = as_units (moved_vector m (velocity v i)) (unit x.0) (unit y.0) (unit z.0) refl x.2 y.2 z.2 in
    let speed : moving_axes (velocity v i) ≡ moving_axes (unit_vector x.0 y.0 z.0) = sym (moving_axes-moved v.dimension m (velocity v i) motion) ∙ ap moving_axes is in
    let flat : v.dimension ≡ 2 → z.0 ≡ 1 = λ plane. unit-zero z.0 z.1 (sym z.2 ∙ moved_flat v.dimension m (velocity v i) motion (omega arith) (laws.flat_parts i 2 known (lit< tt) (omega arith))) in
    let there = of_shell v shells i x.0 y.0 z.0 known x.1 y.1 z.1 speed flat in
    (there.0, there.1, there.2 ∙ sym is, there.3)

pub sets_are_symmetric : SetsAreSymmetric
sets_are_symmetric D2Q9 = symmetric_from_shells d2q9 d2q9_laws d2q9_shells
sets_are_symmetric D3Q19 = symmetric_from_shells d3q19 d3q19_laws d3q19_shells
sets_are_symmetric D3Q15 = symmetric_from_shells d3q15 d3q15_laws d3q15_shells
sets_are_symmetric D3Q27 = symmetric_from_shells d3q27 d3q27_laws d3q27_shells

-- ---- fourth moments

abbrev fourth_moment : Stencil → ℕ → ℕ → ℕ → ℕ → ℤ
fourth_moment v a b c d = sum_below v.directions (λ i. let u = velocity v i in weight v i *ℤ part u a *ℤ part u b *ℤ part u c *ℤ part u d)

abbrev pairings : ℕ → ℕ → ℕ → ℕ → ℤ
pairings a b c d = delta a b *ℤ delta c d +ℤ delta a c *ℤ delta b d +ℤ delta a d *ℤ delta b c

record FourthMoments (v : Stencil) : Type 0 where
  isotropic : all_pass v.dimension (λ a. all_pass v.dimension (λ b. all_pass v.dimension (λ c. all_pass v.dimension (λ d.
      int_eq (pos 9 *ℤ fourth_moment v a b c d) (v.denominator *ℤ pairings a b c d))))) ≡ true

d2q9_moments : FourthMoments d2q9
unfolding all_pass
d2q9_moments = record { isotropic = refl }

d3q15_moments : FourthMoments d3q15
unfolding all_pass
d3q15_moments = record { isotropic = refl }

d3q19_moments : FourthMoments d3q19
unfolding all_pass
d3q19_moments = record { isotropic = refl }

d3q27_moments : FourthMoments d3q27
unfolding all_pass
d3q27_moments = record { isotropic = refl }

isotropic_from_test : (v : Stencil) → FourthMoments v → IsFourthOrderIsotropic v
isotropic_from_test v moments a b c d axis_a axis_b axis_c axis_d =
    (Decides-int_eq (pos 9 *ℤ fourth_moment v a b c d) (v.denominator *ℤ pairings a b c d)).0
    (at_each _ _ (at_each _ _ (at_each _ _ (at_each _ _ moments.isotropic a axis_a) b axis_b) c axis_c) d axis_d)

pub sets_are_isotropic : SetsAreFourthOrderIsotropic
sets_are_isotropic D2Q9 = isotropic_from_test d2q9 d2q9_moments
sets_are_isotropic D3Q19 = isotropic_from_test d3q19 d3q19_moments
sets_are_isotropic D3Q15 = isotropic_from_test d3q15 d3q15_moments
sets_are_isotropic D3Q27 = isotropic_from_test d3q27 d3q27_moments
