-- The size of a momentum.
use Rattle.std.proofs.Common.{ℕ, zero, suc, ◌*◌, ◌<◌, ◌≤◌, ◌^◌, ℤ, unsigned_abs, FitsSigned, arith, lit<}
use Rattle.std.specs.Prelude.{◌*ℤ◌}
use Rattle.std.specs.Int.{w32}
use Rattle.lbm_space.specs.Sum.{sum_below}
use Rattle.lbm_space.specs.Stencil.{Stencil, IsVelocitySet, part, velocity}
use Rattle.lbm_cell.specs.Moments.{momentum_part}
use Rattle.lbm_cell.proofs.Sizes.{unsigned_abs-add, product_size, size_of_32}
use Rattle.lbm_answer.specs.Reports.{IsSmallMoment, moment_of}

sum_below-small : (n b : ℕ) (g : ℕ → ℤ) → ((k : ℕ) → k < n → unsigned_abs (g k) ≤ b) → unsigned_abs (sum_below n g) ≤ b * n
sum_below-small zero b g small = omega arith
sum_below-small (suc n) b g small =
    let front : unsigned_abs (sum_below n g) ≤ b * n = sum_below-small n b g (λ k below. small k (omega arith)) in
    let last : unsigned_abs (g n) ≤ b = small n (omega arith) in
    omega (arith, unsigned_abs-add (sum_below n g) (g n))

momentum_part-small : (v : Stencil) (f : ℕ → ℤ) (a : ℕ) → IsVelocitySet v → a < 3 → ((i : ℕ) → i < v.directions → FitsSigned w32 (f i)) → unsigned_abs (momentum_part v f a) ≤ 2 ^ 36
momentum_part-small v f a laws axis fits =
    let each : (i : ℕ) → i < v.directions → unsigned_abs (part (velocity v i) a *ℤ f i) ≤ 2147483648 =
    λ i known. omega (arith, product_size (part (velocity v i) a) (f i) 1 2147483648 (laws.unit_parts i a known axis) (size_of_32 (f i) (fits i known))) in
    let few = laws.few_directions in
    omega (arith, sum_below-small v.directions 2147483648 (λ i. part (velocity v i) a *ℤ f i) each)

pub moment_of-small : (v : Stencil) (f : ℕ → ℤ) → IsVelocitySet v → ((i : ℕ) → i < v.directions → FitsSigned w32 (f i)) → IsSmallMoment (moment_of v f)
moment_of-small v f laws fits zero = momentum_part-small v f 0 laws (lit< tt) fits
moment_of-small v f laws fits (suc zero) = momentum_part-small v f 1 laws (lit< tt) fits
moment_of-small v f laws fits (suc (suc axis)) = momentum_part-small v f 2 laws (lit< tt) fits
