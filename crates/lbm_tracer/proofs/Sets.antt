-- What is known of the sets of a tracer, by tests that compute.
use Rattle.std.proofs.Common.{◌≡◌, ℕ, ◌<◌, ◌≤◌, Bool, true, false, ℤ, pos, neg_ℤ, unsigned_abs, arith, refl}
use Rattle.std.specs.Prelude.{◌==◌, nat_lt, nat_le, nat_eq, if◌then◌else◌}
use Rattle.std.specs.Ordering.{int_eq}
use Rattle.std.proofs.lemmas.Bool.{ltb-true, leb-true, eqb-true}
use Rattle.std.proofs.lemmas.Bool.Decides.{Decides-int_eq}
use Rattle.lbm_space.specs.Sum.{all_below}
use Rattle.lbm_space.specs.Stencil.{Stencil, part, velocity, weight, opposite}
use Rattle.lbm_space.specs.Laws.{all_below_at}
use Rattle.lbm_tracer.specs.Sets.{d2q5, d3q7, tracer_set, inverse_sound_squared, stencil_of}
use Rattle.lbm_tracer.specs.declared.set.TracerSet.{TracerSet}
use Rattle.lbm_tracer.specs.declared.set.TracerSet.TheVariants.{D2Q5, D3Q7}

pub record IsTracerSet (v : Stencil) : Type 0 where
  pub some : 0 < v.directions
  pub few : v.directions ≤ 7
  pub unit_parts : (k a : ℕ) → k < v.directions → a < 3 → unsigned_abs (part (velocity v k) a) ≤ 1
  pub opposite_exists : (k : ℕ) → k < v.directions → opposite v k < v.directions
  pub opposite_twice : (k : ℕ) → k < v.directions → opposite v (opposite v k) ≡ k
  pub opposite_velocity : (k a : ℕ) → k < v.directions → a < 3 → part (velocity v (opposite v k)) a ≡ neg_ℤ (part (velocity v k) a)
  pub light : (k : ℕ) → k < v.directions → unsigned_abs (weight v k) ≤ 2
  pub denominator : v.denominator ≡ pos (unsigned_abs v.denominator)
  pub denominator_least : 6 ≤ unsigned_abs v.denominator
  pub denominator_most : unsigned_abs v.denominator ≤ 8
  pub sound_small : unsigned_abs (inverse_sound_squared v) ≤ 4

record Passes (v : Stencil) : Type 0 where
  unit_parts : all_below v.directions (λ k. all_below 3 (λ a. nat_le (unsigned_abs (part (velocity v k) a)) 1)) ≡ true
  opposite_exists : all_below v.directions (λ k. nat_lt (opposite v k) v.directions) ≡ true
  opposite_twice : all_below v.directions (λ k. opposite v (opposite v k) == k) ≡ true
  opposite_velocity : all_below v.directions (λ k. all_below 3 (λ a. int_eq (part (velocity v (opposite v k)) a) (neg_ℤ (part (velocity v k) a)))) ≡ true
  light : all_below v.directions (λ k. nat_le (unsigned_abs (weight v k)) 2) ≡ true

same_numbers : (x y : ℤ) → int_eq x y ≡ true → x ≡ y
same_numbers x y passed = (Decides-int_eq x y).0 passed

from_tests : (v : Stencil) → Passes v → 0 < v.directions → v.directions ≤ 7 → v.denominator ≡ pos (unsigned_abs v.denominator) → 6 ≤ unsigned_abs v.denominator → unsigned_abs v.denominator ≤ 8 → unsigned_abs (inverse_sound_squared v) ≤ 4 → IsTracerSet v
from_tests v t some few denominator least most sound = record {
  some = some;
  few = few;
  unit_parts = λ k a known axis. leb-true _ _ (all_below_at (λ b. nat_le (unsigned_abs (part (velocity v k) b)) 1) 3 (all_below_at (λ j. all_below 3 (λ b. nat_le (unsigned_abs (part (velocity v j) b)) 1)) v.directions t.unit_parts k known) a axis);
  opposite_exists = λ k known. ltb-true _ _ (all_below_at (λ j. nat_lt (opposite v j) v.directions) v.directions t.opposite_exists k known);
  opposite_twice = λ k known. eqb-true _ _ (all_below_at (λ j. opposite v (opposite v j) == j) v.directions t.opposite_twice k known);
  opposite_velocity = λ k a known axis. same_numbers _ _ (all_below_at (λ b. int_eq (part (velocity v (opposite v k)) b) (neg_ℤ (part (velocity v k) b))) 3 (all_below_at (λ j. all_below 3 (λ b. int_eq (part (velocity v (opposite v j)) b) (neg_ℤ (part (velocity v j) b)))) v.directions t.opposite_velocity k known) a axis);
  light = λ k known. leb-true _ _ (all_below_at (λ j. nat_le (unsigned_abs (weight v j)) 2) v.directions t.light k known);
  denominator = denominator;
  denominator_least = least;
  denominator_most = most;
  sound_small = sound;
}

in_plane : IsTracerSet d2q5
in_plane = from_tests d2q5 (record { unit_parts = refl; opposite_exists = refl; opposite_twice = refl; opposite_velocity = refl; light = refl }) (omega arith) (omega arith) refl (omega arith) (omega arith) (omega arith)

in_space : IsTracerSet d3q7
in_space = from_tests d3q7 (record { unit_parts = refl; opposite_exists = refl; opposite_twice = refl; opposite_velocity = refl; light = refl }) (omega arith) (omega arith) refl (omega arith) (omega arith) (omega arith)

pub set_facts : (dimension : ℕ) → IsTracerSet (tracer_set dimension)
set_facts dimension = by_case (nat_eq dimension 2)
  where
    by_case : (flat : Bool) → IsTracerSet (if flat then d2q5 else d3q7)
    by_case true = in_plane
    by_case false = in_space

pub named_facts : (set : TracerSet) → IsTracerSet (stencil_of set)
named_facts D2Q5 = in_plane
named_facts D3Q7 = in_space
