-- The amounts of a tracer that a cell holds are a function g from the directions to the numbers. Their sum is the cell's amount,
-- `density v g`. The flow has the density rho and the momentum j there.
use Rattle.std.specs.Prelude.{◌≡◌, ℕ, Bool, ◌&&◌, List, [], ◌∷◌, ℤ, pos, ◌+ℤ◌, ◌-ℤ◌, ◌*ℤ◌, ◌≤ℤ◌, ◌≤◌, int_le, unsigned_abs}
use Rattle.lbm_space.specs.Sum.{all_below}
use Rattle.lbm_space.specs.Stencil.{Stencil, dot, velocity, weight}
use Rattle.lbm_cell.specs.Limits.{least_density, greatest_density}
use Rattle.lbm_cell.specs.Moments.{density, momentum_part}
use Rattle.lbm_cell.specs.Collision.{RelaxationRates, floor_div, with_rest}
use Rattle.lbm_cell.specs.declared.populations.Moment.{Moment}
use Rattle.lbm_tracer.specs.Limits.{greatest_amount}
use Rattle.lbm_tracer.specs.Sets.{inverse_sound_squared}

-- the momentum of the flow; density and momentum where a cell has the populations f; and what is known of them where the cell is in limits
abbrev pub momentum_of : Moment → List ℤ
momentum_of flow = flow.jx ∷ flow.jy ∷ flow.jz ∷ []

pub record IsMomentOf (v : Stencil) (f : ℕ → ℤ) (flow : Moment) : Type 0 where
  pub rho : flow.rho ≡ density v f
  pub x : flow.jx ≡ momentum_part v f 0
  pub y : flow.jy ≡ momentum_part v f 1
  pub z : flow.jz ≡ momentum_part v f 2

pub record IsFlowMoment (flow : Moment) : Type 0 where
  pub not_thin : pos least_density ≤ℤ flow.rho
  pub not_dense : flow.rho ≤ℤ pos greatest_density
  pub x_small : unsigned_abs flow.jx ≤ greatest_density
  pub y_small : unsigned_abs flow.jy ≤ greatest_density
  pub z_small : unsigned_abs flow.jz ≤ greatest_density

-- how far an amount of direction k is below its equilibrium, times the denominator and rho: the equilibrium is the share of the
-- cell's amount, `total`, that the flow carries along in this direction, to first order in its velocity
abbrev pub departure_of : Stencil → ℤ → List ℤ → (total amount : ℤ) → ℕ → ℤ
departure_of v rho j total amount k =
    weight v k *ℤ (total *ℤ (rho +ℤ inverse_sound_squared v *ℤ dot (velocity v k) j)) -ℤ v.denominator *ℤ rho *ℤ amount

-- what relaxation adds to an amount of direction k
abbrev pub relaxation_of : Stencil → RelaxationRates → ℤ → List ℤ → (total amount : ℤ) → ℕ → ℤ
relaxation_of v r rho j total amount k = floor_div (r.p *ℤ departure_of v rho j total amount k) (v.denominator *ℤ rho *ℤ r.q)

-- amount k after a collision
abbrev pub tracer_collision : Stencil → RelaxationRates → ℤ → List ℤ → (ℕ → ℤ) → ℕ → ℤ
tracer_collision v r rho j g = with_rest v (density v g) (λ k. g k +ℤ relaxation_of v r rho j (density v g) (g k) k)

-- the first amount k of the cell in which the tracer begins
abbrev pub first_amount : Stencil → ℤ → ℕ → ℤ
first_amount v amount = with_rest v amount (λ k. floor_div (weight v k *ℤ amount) v.denominator)

-- no amount is negative, and the cell's is no greater than the limit
abbrev pub in_tracer_limits : Stencil → (ℕ → ℤ) → Bool
in_tracer_limits v g = all_below v.directions (λ k. int_le (pos 0) (g k)) && int_le (density v g) (pos greatest_amount)
