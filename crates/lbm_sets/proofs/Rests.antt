-- What rounding down leaves of a number, and how large the momentum of such rests is.
use Rattle.std.proofs.Common.{◌≡◌, ℕ, zero, suc, ◌+◌, ◌*◌, ◌<◌, ◌≤◌, Bool, List, [], ℤ, pos, negsuc, ◌-ℤ◌, ◌*ℤ◌, ◌≤ℤ◌, neg_ℤ, unsigned_abs, get_or, length, take, refl, ap, sym, ◌∙◌, arith, inl, inr}
use Rattle.std.specs.Prelude.{if◌then◌else◌, count_by}
use Rattle.std.specs.Ordering.{int_eq}
use Rattle.std.proofs.Math.Seq.{take-length}
use Rattle.std.proofs.lemmas.Int.{ints}
use Rattle.std.proofs.lemmas.Bool.{cases_Bool}
use Rattle.std.proofs.lemmas.List.Sums.{count_by_more_no, count_by_more_yes}
use Rattle.lbm_space.specs.Sum.{sum_below}
use Rattle.lbm_space.specs.Stencil.{Stencil, IsVelocitySet, part, velocity, opposite}
use Rattle.lbm_cell.specs.Moments.{momentum_part}
use Rattle.lbm_cell.specs.Collision.{floor_div, reflection}
use Rattle.lbm_sets.specs.Drift.{forward_directions}
use Rattle.lbm_sets.proofs.Momentum.{sum_below-scale, momentum-reflection}

-- what is left of z by a division that rounds down
abbrev pub rest : ℤ → ℤ → ℤ
rest z d = z -ℤ d *ℤ floor_div z d

-- a number from 0 to m
pub record IsRest (m : ℕ) (r : ℤ) : Type 0 where
  pub not_negative : pos 0 ≤ℤ r
  pub at_most : r ≤ℤ pos m

pub IsRest-rest : (z : ℤ) (m : ℕ) → IsRest m (rest z (pos (suc m)))
IsRest-rest (pos a) m = record { not_negative = omega (arith, ints); at_most = omega (arith, ints) }
IsRest-rest (negsuc a) m = record { not_negative = omega (arith, ints); at_most = omega (arith, ints) }

-- a sum of numbers that are no larger is no larger
sum_below-at_most : (n : ℕ) (f g : ℕ → ℤ) → ((k : ℕ) → k < n → f k ≤ℤ g k) → sum_below n f ≤ℤ sum_below n g
sum_below-at_most zero f g less = omega (arith, ints)
sum_below-at_most (suc n) f g less =
    let front : sum_below n f ≤ℤ sum_below n g = sum_below-at_most n f g (λ k below. less k (omega arith)) in
    let last : f n ≤ℤ g n = less n (omega arith) in
    omega (arith, ints, front, last)

-- 1 for a part that leads forward
abbrev forward : ℤ → ℤ
forward c = if int_eq c (pos 1) then pos 1 else pos 0

-- a rest counts only where the part is 1
carried_at_most : (c r : ℤ) (m : ℕ) → unsigned_abs c ≤ 1 → IsRest m r → (c *ℤ r) ≤ℤ (pos m *ℤ forward c)
carried_at_most (pos zero) r m unit small = omega (arith, ints)
carried_at_most (pos (suc zero)) r m unit small = omega (arith, ints, small.at_most)
carried_at_most (pos (suc (suc c))) r m unit small = absurd (omega arith)
carried_at_most (negsuc zero) r m unit small = omega (arith, ints, small.not_negative)
carried_at_most (negsuc (suc c)) r m unit small = absurd (omega arith)

-- a count is a sum
counted : (p : List ℤ → Bool) (cs : List (List ℤ)) (n : ℕ) → n ≤ length cs → pos (count_by p (take n cs)) ≡ sum_below n (λ i. if p (get_or cs i []) then pos 1 else pos 0)
counted p cs zero within = refl
counted p cs (suc n) within =
    let e : n + 1 ≡ suc n = omega arith in
    let front : pos (count_by p (take n cs)) ≡ sum_below n (λ i. if p (get_or cs i []) then pos 1 else pos 0) = counted p cs n (omega arith) in
    elim (cases_Bool (p (get_or cs n []))) [
      | inl passes ↦ (
          let more : count_by p (take (n + 1) cs) ≡ count_by p (take n cs) + 1 = count_by_more_yes p cs n [] (omega arith) passes in
          let here : count_by p (take (suc n) cs) ≡ count_by p (take n cs) + 1 = ap (λ (k : ℕ). count_by p (take k cs)) (sym e) ∙ more in
          rw passes (omega (arith, ints, here, front)))
      | inr fails ↦ (
          let more : count_by p (take (n + 1) cs) ≡ count_by p (take n cs) = count_by_more_no p cs n [] (omega arith) fails in
          let here : count_by p (take (suc n) cs) ≡ count_by p (take n cs) = ap (λ (k : ℕ). count_by p (take k cs)) (sym e) ∙ more in
          rw fails (omega (arith, ints, here, front)))
    ]

module _ (v : Stencil) (laws : IsVelocitySet v) (a : ℕ) (axis : a < 3) where
  forward_directions-sum : pos (forward_directions v a) ≡ sum_below v.directions (λ i. forward (part (velocity v i) a))
  forward_directions-sum =
      let p : List ℤ → Bool = λ c. int_eq (part c a) (pos 1) in
      ap (λ (cs : List (List ℤ)). pos (count_by p cs)) (sym (take-length v.velocities))
      ∙ counted p v.velocities (length v.velocities) (omega arith)
      ∙ ap (λ (n : ℕ). sum_below n (λ i. forward (part (velocity v i) a))) laws.all_velocities

  module _ (m : ℕ) (r : ℕ → ℤ) (rests : (i : ℕ) → i < v.directions → IsRest m (r i)) where
    momentum_at_most : momentum_part v r a ≤ℤ (pos m *ℤ pos (forward_directions v a))
    momentum_at_most =
        let bound : momentum_part v r a ≤ℤ sum_below v.directions (λ i. pos m *ℤ forward (part (velocity v i) a)) =
        sum_below-at_most v.directions (λ i. part (velocity v i) a *ℤ r i) (λ i. pos m *ℤ forward (part (velocity v i) a)) (λ i known. carried_at_most (part (velocity v i) a) (r i) m (laws.unit_parts i a known axis) (rests i known)) in
        let whole : sum_below v.directions (λ i. pos m *ℤ forward (part (velocity v i) a)) ≡ pos m *ℤ pos (forward_directions v a) =
        sum_below-scale v.directions (pos m) (λ i. forward (part (velocity v i) a)) ∙ ap (λ (z : ℤ). pos m *ℤ z) (sym forward_directions-sum) in
        rw (← whole) bound

  -- the momentum of rests, of which a direction and its opposite carry opposite parts
  pub momentum-rests : (m : ℕ) (r : ℕ → ℤ) → ((i : ℕ) → i < v.directions → IsRest m (r i)) → unsigned_abs (momentum_part v r a) ≤ m * forward_directions v a
  momentum-rests m r rests =
      let above : momentum_part v r a ≤ℤ (pos m *ℤ pos (forward_directions v a)) = momentum_at_most m r rests in
      let turned : momentum_part v (reflection v r) a ≤ℤ (pos m *ℤ pos (forward_directions v a)) = momentum_at_most m (reflection v r) (λ i known. rests (opposite v i) (laws.opposite_exists i known)) in
      let reversed : momentum_part v (reflection v r) a ≡ neg_ℤ (momentum_part v r a) = momentum-reflection v a laws axis r in
      omega (arith, ints, above, turned, reversed)
