use Rattle.std.proofs.Common.{◌≡◌, ◌≢◌, ◌<◌, ◌≤◌, ◌^◌, ◌*◌, ℕ, zero, suc, ℤ, pos, negsuc, ◌*ℤ◌, ◌<ℤ◌, ◌≤ℤ◌, unsigned_abs, FitsSigned, w64, to_z, of_z, length, lit<, arith, rules, refl, inl, inr, ◌∙◌, get_or-set_same, get_or-set_other, length-set}
use Rattle.std.proofs.lemmas.Int.{ints, to_z-of_z}
use Rattle.std.proofs.lemmas.Nat.{mul-le}
use Rattle.std.proofs.lemmas.Bool.{cases_lt}
use Rattle.lbm_cell.specs.Moments.{populations}
use Rattle.lbm_cell.specs.Collision.{equilibrium, first_population}
use Rattle.lbm_cell.proofs.Sizes.{clean, clean_product, product_size, room}
use Rattle.lbm_cell.proofs.Limits.{denominator_small, denominator_above}
use Rattle.lbm_cell.proofs.Conservation.{with_rest-same, density-same, density-first_population}
use Rattle.lbm_cell.proofs.FirstSizes.{bound_any, equilibrium_small, first_population_small}
use Rattle.lbm_cell.proofs.equilibrium.first_pops.Goals as goal

size_of_density : (rho : ℤ) → pos 1 ≤ℤ rho → rho ≤ℤ pos 4194304 → unsigned_abs rho ≤ 4194304
size_of_density rho above dense = omega (arith, ints)

some_density : (rho : ℤ) → pos 1 ≤ℤ rho → 1 ≤ unsigned_abs rho
some_density rho above = omega (arith, ints)

above_zero : (rho : ℤ) → pos 1 ≤ℤ rho → pos 0 <ℤ rho
above_zero rho above = omega (arith, ints)

fits_number : (n : ℤ) → unsigned_abs n < 16 → FitsSigned w64 n
fits_number n small = omega (arith, ints)

twice_above : (d rho : ℤ) → pos 0 <ℤ d → pos 0 <ℤ rho → pos 1 ≤ℤ (pos 2 *ℤ (d *ℤ rho))
twice_above (pos (suc d)) (pos (suc r)) above_d above_r = let some : 1 * 1 ≤ suc d * suc r = mul-le 1 1 (suc d) (suc r) (omega arith) (omega arith) in omega (arith, ints, some)
twice_above (negsuc d) rho above_d above_r = absurd (omega (arith, ints))
twice_above (pos zero) rho above_d above_r = absurd (omega (arith, ints))
twice_above d (negsuc r) above_d above_r = absurd (omega (arith, ints))
twice_above d (pos zero) above_d above_r = absurd (omega (arith, ints))

pub product-requires : goal.product-requires
product-requires g c =
    let v = g.V.VelocitySet.stencil in
    let fits_d : FitsSigned w64 c.DEN.result = search rules in
    room c.DEN.result c.args.rho v.denominator c.args.rho 216 4194304 (2 ^ 62) fits_d c.ranges.rho (c.DEN.ensures ∙ g.met.V.VelocitySet.constants.1) refl
    (denominator_small v g.met.V.VelocitySet.laws) (size_of_density c.args.rho c.requires.density_above c.requires.density_at_most) (lit< tt)

pub product-divisor-requires : goal.product-divisor-requires
product-divisor-requires g c =
    let v = g.V.VelocitySet.stencil in
    let fits_d : FitsSigned w64 c.DEN.result = search rules in
    let fits : FitsSigned w64 c.product.result = search rules in
    let scale : c.product.result ≡ v.denominator *ℤ c.args.rho = clean_product c.product.result c.DEN.result c.args.rho v.denominator c.args.rho fits_d c.ranges.rho (c.DEN.ensures ∙ g.met.V.VelocitySet.constants.1) refl c.product.ensures.value in
    let size : unsigned_abs (v.denominator *ℤ c.args.rho) ≤ 216 * 4194304 = product_size v.denominator c.args.rho 216 4194304 (denominator_small v g.met.V.VelocitySet.laws) (size_of_density c.args.rho c.requires.density_above c.requires.density_at_most) in
    rw (clean c.product.result (v.denominator *ℤ c.args.rho) fits scale)
    (omega (arith, product_size (pos 2) (v.denominator *ℤ c.args.rho) 2 (216 * 4194304) (omega arith) size))

pub equilibrium-requires-clause-divides : goal.equilibrium-requires-clause-divides
equilibrium-requires-clause-divides g c =
    let v = g.V.VelocitySet.stencil in
    let fits_d : FitsSigned w64 c.DEN.result = search rules in
    let fits_p : FitsSigned w64 c.product.result = search rules in
    let fits : FitsSigned w64 c.product-divisor.result = search rules in
    let scale : c.product.result ≡ v.denominator *ℤ c.args.rho = clean_product c.product.result c.DEN.result c.args.rho v.denominator c.args.rho fits_d c.ranges.rho (c.DEN.ensures ∙ g.met.V.VelocitySet.constants.1) refl c.product.ensures.value in
    let divisor : c.product-divisor.result ≡ pos 2 *ℤ (v.denominator *ℤ c.args.rho) = product_of_two c.product-divisor.result c.product.result (v.denominator *ℤ c.args.rho) fits_p scale c.product-divisor.ensures.value in
    rw (clean c.product-divisor.result (pos 2 *ℤ (v.denominator *ℤ c.args.rho)) fits divisor)
    (twice_above v.denominator c.args.rho (denominator_above v g.met.V.VelocitySet.laws) (above_zero c.args.rho c.requires.density_above))
  where
    product_of_two : (r a x : ℤ) → FitsSigned w64 a → a ≡ x → r ≡ pos 2 *ℤ to_z w64 (of_z w64 a) → r ≡ pos 2 *ℤ x
    product_of_two r a x fits is e = rw (clean a x fits is) at e

pub loop-i-preserved : goal.loop-i-preserved
loop-i-preserved g c =
    let i = c.loop-i.i in
    let invariant = c.loop-i.invariant in
    let few = g.met.V.VelocitySet.laws.few_directions in
    let within : i < length c.loop-i.moving.f = omega (arith, invariant.kept, g.met.V.VelocitySet.constants.0) in
    let fits : FitsSigned w64 c.equilibrium.result = search rules in
    record {
      done = λ k above below. elim (cases_lt k i) [
        | inl front ↦ (let ne : k ≢ i = omega arith in rw get_or-set_other (invariant.done k above front))
        | inr last ↦ (let same : k ≡ i = omega arith in rw (same, get_or-set_same, to_z-of_z w64 c.equilibrium.result fits) c.equilibrium.ensures)
      ];
      zeros = λ k past. let ne : k ≢ i = omega arith in rw get_or-set_other (invariant.zeros k (omega arith));
      kept = length-set _ _ _ ∙ invariant.kept;
    }

pub with_rest-requires-clause-moving : goal.with_rest-requires-clause-moving
with_rest-requires-clause-moving g c =
    let v = g.V.VelocitySet.stencil in
    let rho = c.args.rho in
    let bound = bound_any (unsigned_abs rho) (some_density rho c.requires.density_above) (size_of_density rho c.requires.density_above c.requires.density_at_most) in
    let all : c.loop-i.i ≡ v.directions = omega (arith, g.met.V.VelocitySet.constants.0, g.met.V.VelocitySet.laws.some_direction) in
    λ i above known. rw (c.loop-i.invariant.done i above (omega arith), to_z-of_z w64 rho c.ranges.rho)
    (equilibrium_small v rho c.args.j 884736 782757789696 i g.met.V.VelocitySet.laws (above_zero rho c.requires.density_above) c.requires.momentum bound above known)

pub returns-clause-first : goal.returns-clause-first
returns-clause-first g c =
    let v = g.V.VelocitySet.stencil in
    let rho = c.args.rho in
    let j = c.args.j in
    let moving = populations c.loop-i.moving.f in
    let all : c.loop-i.i ≡ v.directions = omega (arith, g.met.V.VelocitySet.constants.0, g.met.V.VelocitySet.laws.some_direction) in
    let done : (k : ℕ) → 0 < k → k < v.directions → moving k ≡ equilibrium v rho j k = λ k above below. rw (to_z-of_z w64 rho c.ranges.rho) at (c.loop-i.invariant.done k above (omega arith)) in
    λ i known. (rw (to_z-of_z w64 rho c.ranges.rho) at (c.with_rest.ensures.values i known)) ∙ with_rest-same v rho moving (equilibrium v rho j) done i known

pub returns-clause-density : goal.returns-clause-density
returns-clause-density g c =
    let v = g.V.VelocitySet.stencil in
    density-same v (populations c.with_rest.result.f) (first_population v c.args.rho c.args.j) c.args.rho (returns-clause-first g c) (density-first_population v c.args.rho c.args.j g.met.V.VelocitySet.laws.some_direction)

pub returns-clause-small : goal.returns-clause-small
returns-clause-small g c =
    let v = g.V.VelocitySet.stencil in
    λ thin i. elim (cases_lt i v.directions) [
      | inl known ↦ rw (returns-clause-first g c i known) (first_population_small v c.args.rho c.args.j i g.met.V.VelocitySet.laws thin c.requires.density_at_most c.requires.momentum known)
      | inr past ↦ rw (c.with_rest.ensures.zeros i past) (lit< tt)
    ]
