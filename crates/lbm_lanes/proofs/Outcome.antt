-- What a lane becomes, and which lane is out of limits.
use Rattle.std.proofs.Common.{◌≡◌, ℕ, zero, suc, ◌+◌, ◌-◌, ◌<◌, ◌≤◌, min, Bool, true, false, eqb, List, [], ◌∷◌, Option, None, ℤ, pos, ◌-ℤ◌, ◌*ℤ◌, refl, ap, sym, arith, lit<, ◌∙◌}
use Rattle.std.specs.Prelude.{if◌then◌else◌, ◌&&◌, not, nat_lt, int_le}
use Rattle.std.proofs.lemmas.Bool.{ne_eqb, lt-ltb, le-ltb}
use Rattle.lbm_space.specs.Sum.{sum_below, sum_from_one, all_below}
use Rattle.lbm_space.specs.Stencil.{Stencil, part, velocity, IsVelocitySet}
use Rattle.lbm_space.proofs.Sums.{sum_below-same, sum_below-zero}
use Rattle.lbm_cell.specs.Moments.{density, momentum_part, in_limits}
use Rattle.lbm_cell.specs.Collision.{RelaxationRates, collision}
use Rattle.lbm_cell.proofs.Limits.{InLimits-from_test, momentum_small}
use Rattle.lbm_walk.specs.Turns.{turn, sum_before}
use Rattle.lbm_walk.proofs.Turns.{opposite_rest, sum_all}
use Rattle.lbm_lanes.specs.Cells.{IsCell, IsWithin, moved, settled}
use Rattle.lbm_lanes.specs.Lanes.{held, becomes, found_or, least_passing}
use Rattle.lbm_lanes.specs.Sums.{IsSummed}

-- before any turn nothing is summed
pub sum_start : (v : Stencil) (f : ℕ → ℤ) → sum_before v 0 f ≡ pos 0
sum_start v f =
    sum_below-same (v.directions - 1) (λ k. if nat_lt (turn v (k + 1)) 0 then f (k + 1) else pos 0) (λ _. pos 0) (λ k below. let off : nat_lt (turn v (k + 1)) 0 ≡ false = le-ltb (turn v (k + 1)) 0 (omega arith) in rw off refl)
    ∙ sum_below-zero (v.directions - 1)

-- what the rest direction keeps
pub rest_is : (v : Stencil) (r : RelaxationRates) (g : List ℤ) (on back : Bool) (h : ℕ → ℤ) (own left f total : ℤ) (rho : ℕ) → IsVelocitySet v → own ≡ (if on then left else f) → left ≡ pos rho -ℤ total → total ≡ sum_before v 27 (settled v r g on back h) →
    (on ≡ true → density v h ≡ pos rho) → h 0 ≡ f → own ≡ settled v r g on back h 0
rest_is v r g true back h own left f total rho laws is left_is total_is dense rest =
    let moves : sum_from_one v.directions (collision v r g h) ≡ sum_from_one v.directions (moved v r g h) =
    sum_below-same (v.directions - 1) (λ k. collision v r g h (k + 1)) (λ k. moved v r g h (k + 1)) (λ k below. let off : eqb (k + 1) 0 ≡ false = ne_eqb (k + 1) 0 (omega arith) in rw off refl) in
    let all : total ≡ sum_from_one v.directions (moved v r g h) = total_is ∙ sum_all v (collision v r g h) laws ∙ moves in
    is ∙ left_is ∙ ap (λ (z : ℤ). pos rho -ℤ z) all ∙ ap (λ (z : ℤ). z -ℤ sum_from_one v.directions (moved v r g h)) (sym (dense refl))
rest_is v r g false true h own left f total rho laws is left_is total_is dense rest = is ∙ sym rest ∙ sym (ap h (opposite_rest v laws))
rest_is v r g false false h own left f total rho laws is left_is total_is dense rest = is ∙ sym rest

-- what is done with a lane is the rule of its cell
pub becomes_is : (v : Stencil) (r : RelaxationRates) (g : List ℤ) (fluid solid on back : Bool) (h : ℕ → ℤ) (i : ℕ) → (fluid ≡ true → solid ≡ false) → on ≡ (fluid && in_limits v h) → back ≡ solid → settled v r g on back h i ≡ becomes v r g fluid solid h i
becomes_is v r g true true on back h i apart is turns = absurd (let off = apart refl in cc)
becomes_is v r g true false on back h i apart is turns = rw (is, turns) refl
becomes_is v r g false true on back h i apart is turns = rw (is, turns) refl
becomes_is v r g false false on back h i apart is turns = rw (is, turns) refl

pub becomes_all : (v : Stencil) (r : RelaxationRates) (g : List ℤ) (fluid solid : Bool) (h : ℕ → ℤ) (i : ℕ) → (fluid ≡ true → solid ≡ false) → fluid ≡ true → in_limits v h ≡ true → collision v r g h i ≡ becomes v r g fluid solid h i
becomes_all v r g fluid solid h i apart on within = let off : solid ≡ false = apart on in rw (on, off, within) refl

-- the sums over all directions are those of the cell
all_directions : (v : Stencil) → IsVelocitySet v → min 27 v.directions ≡ v.directions
all_directions v laws = omega (arith, laws.few_directions)

pub density_of : (v : Stencil) (h : ℕ → ℤ) (rho x y z signs : ℤ) → IsVelocitySet v → IsSummed v 27 h rho x y z signs → rho ≡ density v h
density_of v h rho x y z signs laws is = is.density_is ∙ ap (λ (n : ℕ). sum_below n h) (all_directions v laws)

pub x_of : (v : Stencil) (h : ℕ → ℤ) (rho x y z signs : ℤ) → IsVelocitySet v → IsSummed v 27 h rho x y z signs → x ≡ momentum_part v h 0
x_of v h rho x y z signs laws is = is.x_is ∙ ap (λ (n : ℕ). sum_below n (λ i. part (velocity v i) 0 *ℤ h i)) (all_directions v laws)

pub y_of : (v : Stencil) (h : ℕ → ℤ) (rho x y z signs : ℤ) → IsVelocitySet v → IsSummed v 27 h rho x y z signs → y ≡ momentum_part v h 1
y_of v h rho x y z signs laws is = is.y_is ∙ ap (λ (n : ℕ). sum_below n (λ i. part (velocity v i) 1 *ℤ h i)) (all_directions v laws)

pub z_of : (v : Stencil) (h : ℕ → ℤ) (rho x y z signs : ℤ) → IsVelocitySet v → IsSummed v 27 h rho x y z signs → z ≡ momentum_part v h 2
z_of v h rho x y z signs laws is = is.z_is ∙ ap (λ (n : ℕ). sum_below n (λ i. part (velocity v i) 2 *ℤ h i)) (all_directions v laws)

-- a lane is out of limits where its cell is
pub limits_of : (v : Stencil) (h : ℕ → ℤ) (rho x y z signs : ℤ) (out : Bool) → IsVelocitySet v → IsSummed v 27 h rho x y z signs → out ≡ not (int_le (pos 0) signs && int_le (pos 442368) rho && int_le rho (pos 1769472)) → out ≡ not (in_limits v h)
limits_of v h rho x y z signs out laws is tests =
    let dense = density_of v h rho x y z signs laws is in
    let sign : int_le (pos 0) signs ≡ all_below v.directions (λ i. int_le (pos 0) (h i)) = is.sign_is ∙ ap (λ (n : ℕ). all_below n (λ i. int_le (pos 0) (h i))) (all_directions v laws) in
    tests ∙ ap (λ (b : Bool). not (b && int_le (pos 442368) rho && int_le rho (pos 1769472))) sign
    ∙ ap (λ (r : ℤ). not (all_below v.directions (λ i. int_le (pos 0) (h i)) && int_le (pos 442368) r && int_le r (pos 1769472))) dense

-- the sums of a lane that collides are those of a cell in limits
pub within_from : (v : Stencil) (h : ℕ → ℤ) (on : Bool) (rho x y z signs : ℤ) → IsVelocitySet v → IsSummed v 27 h rho x y z signs → (on ≡ true → in_limits v h ≡ true) → IsWithin on rho x y z
within_from v h on rho x y z signs laws is within =
    let dense = density_of v h rho x y z signs laws is in
    record {
      rho_small = omega (arith, is.rho_small);
      x_small = omega (arith, is.x_small);
      y_small = omega (arith, is.y_small);
      z_small = omega (arith, is.z_small);
      not_thin = λ chosen. rw dense (InLimits-from_test v h (within chosen)).not_thin;
      not_dense = λ chosen. rw dense (InLimits-from_test v h (within chosen)).not_dense;
      x_within = λ chosen. rw (dense, x_of v h rho x y z signs laws is) (momentum_small v h 0 laws (InLimits-from_test v h (within chosen)) (lit< tt));
      y_within = λ chosen. rw (dense, y_of v h rho x y z signs laws is) (momentum_small v h 1 laws (InLimits-from_test v h (within chosen)) (lit< tt));
      z_within = λ chosen. rw (dense, z_of v h rho x y z signs laws is) (momentum_small v h 2 laws (InLimits-from_test v h (within chosen)) (lit< tt));
    }

-- the numbers of a lane that collides are those of its cell
pub cell_of : (v : Stencil) (h : ℕ → ℤ) (rho x y z signs : ℤ) (r a b c : ℕ) → IsVelocitySet v → IsSummed v 27 h rho x y z signs → in_limits v h ≡ true → rho ≡ pos r → x ≡ pos a -ℤ pos 8388608 → y ≡ pos b -ℤ pos 8388608 → z ≡ pos c -ℤ pos 8388608 → IsCell v h r a b c
cell_of v h rho x y z signs r a b c laws is within is_rho is_x is_y is_z = record {
  limits = within;
  density_is = sym (density_of v h rho x y z signs laws is) ∙ is_rho;
  momentum_is =
      let first = sym (x_of v h rho x y z signs laws is) ∙ is_x in
      let second = sym (y_of v h rho x y z signs laws is) ∙ is_y in
      let third = sym (z_of v h rho x y z signs laws is) ∙ is_z in
      ap (λ (k : ℤ). k ∷ momentum_part v h 1 ∷ momentum_part v h 2 ∷ []) first
      ∙ ap (λ (k : ℤ). (pos a -ℤ pos 8388608) ∷ k ∷ momentum_part v h 2 ∷ []) second
      ∙ ap (λ (k : ℤ). (pos a -ℤ pos 8388608) ∷ (pos b -ℤ pos 8388608) ∷ k ∷ []) third;
}

pub held_past : (n : ℕ) (there : ℕ → ℕ → ℤ) (k l : ℕ) → n ≤ l → held n there l k ≡ pos 0
held_past n there k l beyond = let off : nat_lt l n ≡ false = le-ltb l n beyond in rw off refl

pub held_there : (n : ℕ) (there : ℕ → ℕ → ℤ) (k l : ℕ) → l < n → there k l ≡ held n there l k
held_there n there k l within = let on : nat_lt l n ≡ true = lt-ltb l n within in rw on refl

-- the least lane that passes
pub least_same : (n : ℕ) (t u : ℕ → Bool) → ((j : ℕ) → j < n → t j ≡ u j) → least_passing n t ≡ least_passing n u
least_same zero t u same = refl
least_same (suc n) t u same = ap (λ (o : Option ℕ). found_or o (t n) n) (least_same n t u (λ j below. same j (omega arith))) ∙ ap (λ (b : Bool). found_or (least_passing n u) b n) (same n (omega arith))

pub least_none : (n : ℕ) (t : ℕ → Bool) → ((j : ℕ) → j < n → t j ≡ false) → None ≡ least_passing n t
least_none zero t none = refl
least_none (suc n) t none = rw (← least_none n t (λ j below. none j (omega arith)), none n (omega arith)) refl

pub flip_not : (a b : Bool) → a ≡ not b → a ≡ false → b ≡ true
flip_not a true is off = refl
flip_not a false is off = absurd cc

pub no_out : (a b c : Bool) → a ≡ true → b ≡ false → b ≡ not c → (a && not c) ≡ false
no_out a b c on off is = rw (on, ← is, off) refl

pub chosen_within : (a b c on : Bool) → on ≡ (a && not b) → b ≡ not c → on ≡ (a && c)
chosen_within true b true on is out = is ∙ rw out refl
chosen_within true b false on is out = is ∙ rw out refl
chosen_within false b c on is out = is

pub on_within : (a c on : Bool) → on ≡ (a && c) → on ≡ true → c ≡ true
on_within true c on is chosen = sym is ∙ chosen
on_within false c on is chosen = absurd cc
