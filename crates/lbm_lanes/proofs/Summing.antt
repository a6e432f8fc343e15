-- The sums over the directions, one direction after the other.
use Rattle.std.proofs.Common.{◌≡◌, ◌≢◌, ℕ, zero, suc, ◌+◌, ◌*◌, ◌<◌, ◌≤◌, ℤ, pos, negsuc, ◌+ℤ◌, ◌-ℤ◌, ◌*ℤ◌, ◌≤ℤ◌, unsigned_abs, min, refl, ap, sym, subst, ◌∙◌, arith, Bool, true, false, T, lit<, inl, inr, to_z, of_z}
use Rattle.std.proofs.lemmas.Int.{to_z-of_z}
use Rattle.std.proofs.lemmas.Bool.{cases_lt, lt-ltb, le-ltb}
use Rattle.lbm_lanes.specs.Lanes.{held}
use Rattle.std.specs.Prelude.{int_le, nat_lt, ◌&&◌, FitsSigned}
use Rattle.std.specs.Int.{w32, w64}
use Rattle.std.proofs.lemmas.Int.{ints}
use Rattle.lbm_space.specs.Sum.{sum_below, all_below}
use Rattle.lbm_space.specs.Stencil.{Stencil, part, velocity}
use Rattle.lbm_cell.proofs.Sizes.{size_of_32, product_size}
use Rattle.lbm_lanes.specs.Sums.{IsSummed}

-- a past direction
pub summed_past : (v : Stencil) (m : ℕ) (h : ℕ → ℤ) (rho x y z signs : ℤ) → v.directions ≤ m → IsSummed v m h rho x y z signs → IsSummed v (m + 1) h rho x y z signs
summed_past v m h rho x y z signs past is =
    let same : min m v.directions ≡ min (m + 1) v.directions = omega arith in
    record {
      density_is = is.density_is ∙ ap (λ (n : ℕ). sum_below n h) same;
      x_is = is.x_is ∙ ap (λ (n : ℕ). sum_below n (λ i. part (velocity v i) 0 *ℤ h i)) same;
      y_is = is.y_is ∙ ap (λ (n : ℕ). sum_below n (λ i. part (velocity v i) 1 *ℤ h i)) same;
      z_is = is.z_is ∙ ap (λ (n : ℕ). sum_below n (λ i. part (velocity v i) 2 *ℤ h i)) same;
      sign_is = is.sign_is ∙ ap (λ (n : ℕ). all_below n (λ i. int_le (pos 0) (h i))) same;
      rho_small = omega (arith, is.rho_small);
      x_small = omega (arith, is.x_small);
      y_small = omega (arith, is.y_small);
      z_small = omega (arith, is.z_small);
      signs_fit = is.signs_fit;
    }

part_small : (m : ℕ) (x c f x' : ℤ) → unsigned_abs x ≤ m * 2147483648 → unsigned_abs c ≤ 1 → unsigned_abs f ≤ 2147483648 → x' ≡ x +ℤ c *ℤ f → unsigned_abs x' ≤ (m + 1) * 2147483648
part_small m x c f x' small unit size is = omega (arith, ints, small, product_size c f 1 2147483648 unit size, is)

pub summed_next : (v : Stencil) (m : ℕ) (h : ℕ → ℤ) (rho x y z signs rho' x' y' z' signs' f : ℤ) (c : ℕ → ℤ) → m < v.directions → ((a : ℕ) → a < 3 → c a ≡ part (velocity v m) a) → ((a : ℕ) → a < 3 → unsigned_abs (c a) ≤ 1) → f ≡ h m → FitsSigned w32 f →
    rho' ≡ rho +ℤ f → x' ≡ x +ℤ c 0 *ℤ f → y' ≡ y +ℤ c 1 *ℤ f → z' ≡ z +ℤ c 2 *ℤ f → int_le (pos 0) signs' ≡ (int_le (pos 0) signs && int_le (pos 0) f) → FitsSigned w64 signs' →
    IsSummed v m h rho x y z signs → IsSummed v (m + 1) h rho' x' y' z' signs'
summed_next v m h rho x y z signs rho' x' y' z' signs' f c known c_is unit f_is fits is_rho is_x is_y is_z is_signs fits' is =
    let q : min m v.directions ≡ m = omega arith in
    let next : suc m ≡ min (m + 1) v.directions = omega arith in
    let size = size_of_32 f fits in
    record {
      density_is = is_rho ∙ ap (λ (z : ℤ). z +ℤ f) (is.density_is ∙ ap (λ (n : ℕ). sum_below n h) q) ∙ ap (λ (z : ℤ). sum_below m h +ℤ z) f_is ∙ ap (λ (n : ℕ). sum_below n h) next;
      x_is = is_x ∙ part_is 0 (lit< tt) x is.x_is;
      y_is = is_y ∙ part_is 1 (lit< tt) y is.y_is;
      z_is = is_z ∙ part_is 2 (lit< tt) z is.z_is;
      sign_is = is_signs ∙ ap (λ (b : Bool). b && int_le (pos 0) f) (is.sign_is ∙ ap (λ (n : ℕ). all_below n (λ i. int_le (pos 0) (h i))) q) ∙ ap (λ (z : ℤ). all_below m (λ i. int_le (pos 0) (h i)) && int_le (pos 0) z) f_is ∙ ap (λ (n : ℕ). all_below n (λ i. int_le (pos 0) (h i))) next;
      rho_small = omega (arith, ints, is.rho_small, is_rho, size);
      x_small = part_small m x (c 0) f x' is.x_small (unit 0 (lit< tt)) size is_x;
      y_small = part_small m y (c 1) f y' is.y_small (unit 1 (lit< tt)) size is_y;
      z_small = part_small m z (c 2) f z' is.z_small (unit 2 (lit< tt)) size is_z;
      signs_fit = fits';
    }
  where
    part_is : (a : ℕ) → a < 3 → (t : ℤ) → t ≡ sum_below (min m v.directions) (λ i. part (velocity v i) a *ℤ h i) → t +ℤ c a *ℤ f ≡ sum_below (min (m + 1) v.directions) (λ i. part (velocity v i) a *ℤ h i)
    part_is a axis t is_t =
        let q : min m v.directions ≡ m = omega arith in
        let next : suc m ≡ min (m + 1) v.directions = omega arith in
        ap (λ (z : ℤ). z +ℤ c a *ℤ f) (is_t ∙ ap (λ (n : ℕ). sum_below n (λ i. part (velocity v i) a *ℤ h i)) q)
        ∙ ap (λ (z : ℤ). sum_below m (λ i. part (velocity v i) a *ℤ h i) +ℤ z *ℤ f) (c_is a axis)
        ∙ ap (λ (z : ℤ). sum_below m (λ i. part (velocity v i) a *ℤ h i) +ℤ part (velocity v m) a *ℤ z) f_is
        ∙ ap (λ (n : ℕ). sum_below n (λ i. part (velocity v i) a *ℤ h i)) next

-- the same, by another count of directions
pub summed_at : (v : Stencil) (m m' : ℕ) (h : ℕ → ℤ) (rho x y z signs : ℤ) → m ≡ m' → IsSummed v m h rho x y z signs → IsSummed v m' h rho x y z signs
summed_at v m m' h rho x y z signs same is = subst (λ (n : ℕ). IsSummed v n h rho x y z signs) same is

pub unit_sum : (c x f y : ℤ) → c ≡ pos 1 → y ≡ x +ℤ f → y ≡ x +ℤ c *ℤ f
unit_sum c x f y one is = rw one (omega (arith, ints, is))

pub unit_difference : (c x f y : ℤ) → c ≡ negsuc 0 → y ≡ x -ℤ f → y ≡ x +ℤ c *ℤ f
unit_difference c x f y one is = rw one (omega (arith, ints, is))

pub unit_none : (c x f : ℤ) → unsigned_abs c ≤ 1 → c ≢ pos 1 → c ≢ negsuc 0 → x ≡ x +ℤ c *ℤ f
unit_none (pos zero) x f unit a b = omega (arith, ints)
unit_none (pos (suc zero)) x f unit a b = absurd (a refl)
unit_none (pos (suc (suc n))) x f unit a b = absurd (omega (arith, unit))
unit_none (negsuc zero) x f unit a b = absurd (b refl)
unit_none (negsuc (suc n)) x f unit a b = absurd (omega (arith, unit))

true_of : (b : Bool) → T b → b ≡ true
true_of true t = refl
true_of false t = absurd t

same_flags : (b c : Bool) → (b ≡ true → c ≡ true) → (c ≡ true → b ≡ true) → b ≡ c
same_flags true c to from = sym (to refl)
same_flags false true to from = from refl
same_flags false false to from = refl

pub le_from : (x y : ℤ) → int_le x y ≡ true → x ≤ℤ y
le_from x y e = record { le = subst T (sym e) tt }

pub le_true : (x y : ℤ) → x ≤ℤ y → int_le x y ≡ true
le_true x y le = true_of (int_le x y) le.le

same_test : (a b c d : ℤ) → (a ≤ℤ b → c ≤ℤ d) → (c ≤ℤ d → a ≤ℤ b) → int_le a b ≡ int_le c d
same_test a b c d to from = same_flags (int_le a b) (int_le c d) (λ e. le_true c d (to (le_from a b e))) (λ e. le_true a b (from (le_from c d e)))

-- the three tests of limits in one sign
pub limits_is : (signs rho thin dense one two : ℤ) → thin ≡ rho -ℤ pos 442368 → dense ≡ pos 1769472 -ℤ rho → int_le (pos 0) one ≡ (int_le (pos 0) signs && int_le (pos 0) thin) → int_le (pos 0) two ≡ (int_le (pos 0) one && int_le (pos 0) dense) →
    int_le (pos 0) two ≡ (int_le (pos 0) signs && int_le (pos 442368) rho && int_le rho (pos 1769472))
limits_is signs rho thin dense one two is_thin is_dense is_one is_two =
    let low : int_le (pos 0) thin ≡ int_le (pos 442368) rho = rw is_thin (low_is rho) in
    let high : int_le (pos 0) dense ≡ int_le rho (pos 1769472) = rw is_dense (high_is rho) in
    is_two ∙ ap (λ (b : Bool). b && int_le (pos 0) dense) is_one ∙ ap (λ (b : Bool). int_le (pos 0) signs && b && int_le (pos 0) dense) low ∙ ap (λ (b : Bool). int_le (pos 0) signs && int_le (pos 442368) rho && b) high
  where
    low_is : (rho : ℤ) → int_le (pos 0) (rho -ℤ pos 442368) ≡ int_le (pos 442368) rho
    low_is rho = same_test (pos 0) (rho -ℤ pos 442368) (pos 442368) rho (λ e. omega (arith, ints, e)) (λ e. omega (arith, ints, e))

    high_is : (rho : ℤ) → int_le (pos 0) (pos 1769472 -ℤ rho) ≡ int_le rho (pos 1769472)
    high_is rho = same_test (pos 0) (pos 1769472 -ℤ rho) rho (pos 1769472) (λ e. omega (arith, ints, e)) (λ e. omega (arith, ints, e))

-- a lane of the row of a direction
pub held_is : (n : ℕ) (there : ℕ → ℕ → ℤ) (j i : ℕ) (x : ℤ) → (j < n → x ≡ there i j) → (n ≤ j → x ≡ pos 0) → x ≡ held n there j i
held_is n there j i x cell past = elim (cases_lt j n) [
  | inl within ↦ (let on : nat_lt j n ≡ true = lt-ltb j n within in rw on (cell within))
  | inr beyond ↦ (let off : nat_lt j n ≡ false = le-ltb j n beyond in rw off (past beyond))
]

-- a sum with a part of a velocity, as it is passed
pub step_is : (s a c d : ℤ) → unsigned_abs c ≤ 1 → s ≡ a +ℤ to_z w64 (of_z w64 c) *ℤ d → s ≡ a +ℤ c *ℤ d
step_is s a c d unit e = rw (to_z-of_z w64 c (omega (arith, ints, unit))) at e
