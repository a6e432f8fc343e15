use Rattle.std.proofs.Common.{◌≡◌, ◌<◌, ◌≤◌, ◌+◌, ◌-◌, ◌*◌, ◌^◌, ℕ, ℤ, ◌+ℤ◌, ◌-ℤ◌, true, false, eqb, length, unsigned_abs, FitsSigned, w64, arith, rules, to_z, refl, inl, inr, sym, ◌∙◌, ap, get_or-set_same, get_or-set_other}
use Rattle.std.proofs.lemmas.Int.{ints, to_z-of_z}
use Rattle.std.proofs.lemmas.Bool.{cases_eq, eq-eqb, ne_eqb}
use Rattle.lbm_space.specs.Sum.{sum_below, sum_from_one}
use Rattle.lbm_space.proofs.Sums.{sum_below_more}
use Rattle.lbm_cell.specs.Moments.{populations}
use Rattle.lbm_cell.proofs.Bounds.{sum_below_size}
use Rattle.lbm_cell.proofs.populations.Pops.with_rest.Goals as goal

-- the sum of the moving populations below i
moving_small : (f : ℕ → ℤ) (i n : ℕ) → n ≤ 27 → i ≤ n → ((k : ℕ) → 0 < k → k < n → unsigned_abs (f k) ≤ 782757789696) → unsigned_abs (sum_below (i - 1) (λ k. f (k + 1))) ≤ 26 * 782757789696
moving_small f i n few last small =
    let size : unsigned_abs (sum_below (i - 1) (λ k. f (k + 1))) ≤ (i - 1) * 782757789696 = sum_below_size (i - 1) 782757789696 (λ k. f (k + 1)) (λ k below. small (k + 1) (omega arith) (omega arith)) in
    omega (arith, size)

more_small : (sum x : ℤ) → unsigned_abs sum ≤ 26 * 782757789696 → unsigned_abs x ≤ 782757789696 → unsigned_abs (sum +ℤ x) < 2 ^ 62
more_small sum x small_sum small_x = omega (arith, ints)

rest_small : (rho sum : ℤ) → unsigned_abs rho ≤ 4194304 → unsigned_abs sum ≤ 26 * 782757789696 → unsigned_abs (rho -ℤ sum) < 2 ^ 62
rest_small rho sum small_rho small_sum = omega (arith, ints)

pub sum-moving-requires : goal.sum-moving-requires
sum-moving-requires g c =
    let v = g.V.VelocitySet.stencil in
    let f = populations c.args.self.f in
    let i = c.loop-i.i in
    let from_one : 1 ≤ i = c.loop-i.auto.i in
    let known : i < v.directions = omega (arith, g.met.V.VelocitySet.constants.0) in
    let fits : FitsSigned w64 (f i) = search rules in
    rw (c.loop-i.invariant, to_z-of_z w64 (f i) fits)
    (more_small (sum_below (i - 1) (λ k. f (k + 1))) (f i) (moving_small f i v.directions g.met.V.VelocitySet.laws.few_directions (omega arith) c.requires.moving) (c.requires.moving i from_one known))

pub loop-i-preserved : goal.loop-i-preserved
loop-i-preserved g c =
    let f = populations c.args.self.f in
    let i = c.loop-i.i in
    let from_one : 1 ≤ i = c.loop-i.auto.i in
    let fits_x : FitsSigned w64 (f i) = search rules in
    let fits : FitsSigned w64 c.sum-moving.result = search rules in
    let next : c.sum-moving.result ≡ to_z w64 c.loop-i.moving-bits +ℤ f i = rw (to_z-of_z w64 (f i) fits_x) at c.sum-moving.ensures.value in
    let one_more : i + 1 - 1 ≡ i - 1 + 1 = omega arith in
    let here : i - 1 + 1 ≡ i = omega arith in
    rw one_more (to_z-of_z w64 c.sum-moving.result fits ∙ next ∙ ap (λ (s : ℤ). s +ℤ f i) c.loop-i.invariant ∙ ap (λ (k : ℕ). sum_below (i - 1) (λ k. f (k + 1)) +ℤ f k) (sym here) ∙ sym (sum_below_more (i - 1) (λ k. f (k + 1))))

pub difference-rest-requires : goal.difference-rest-requires
difference-rest-requires g c =
    let v = g.V.VelocitySet.stencil in
    let f = populations c.args.self.f in
    let last : c.loop-i.i ≤ v.directions = omega (arith, g.met.V.VelocitySet.constants.0, g.met.V.VelocitySet.laws.some_direction) in
    rw (to_z-of_z w64 c.args.rho c.ranges.rho, c.loop-i.invariant)
    (rest_small c.args.rho (sum_below (c.loop-i.i - 1) (λ k. f (k + 1))) c.requires.density (moving_small f c.loop-i.i v.directions g.met.V.VelocitySet.laws.few_directions last c.requires.moving))

pub returns-clause-values : goal.returns-clause-values
returns-clause-values g c =
    let v = g.V.VelocitySet.stencil in
    let f = populations c.args.self.f in
    let all : c.loop-i.i ≡ v.directions = omega (arith, g.met.V.VelocitySet.constants.0, g.met.V.VelocitySet.laws.some_direction) in
    let within : 0 < length c.args.self.f = search rules in
    let fits : FitsSigned w64 c.difference-rest.result = search rules in
    let whole : to_z w64 c.loop-i.moving-bits ≡ sum_from_one v.directions f = c.loop-i.invariant ∙ ap (λ (n : ℕ). sum_below (n - 1) (λ k. f (k + 1))) all in
    let rest : c.difference-rest.result ≡ c.args.rho -ℤ sum_from_one v.directions f = rw (to_z-of_z w64 c.args.rho c.ranges.rho, whole) at c.difference-rest.ensures.value in
    λ i known. elim (cases_eq i 0) [
      | inl first ↦ (let on : eqb i 0 ≡ true = eq-eqb i 0 first in rw (on, first, get_or-set_same, to_z-of_z w64 c.difference-rest.result fits) rest)
      | inr ne ↦ (let off : eqb i 0 ≡ false = ne_eqb i 0 ne in rw (off, get_or-set_other) refl)
    ]
