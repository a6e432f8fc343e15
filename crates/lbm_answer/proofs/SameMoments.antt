-- Moments of cells whose populations are the same.
use Rattle.std.proofs.Common.{◌≡◌, ◌∙◌, ℕ, ◌<◌, ℤ, ap}
use Rattle.lbm_space.specs.Stencil.{Stencil, part, velocity}
use Rattle.std.specs.Prelude.{◌*ℤ◌}
use Rattle.lbm_space.proofs.Sums.{sum_below-same}
use Rattle.lbm_cell.specs.Moments.{density, momentum_part}
use Rattle.lbm_cell.specs.declared.populations.Moment.{Moment}
use Rattle.lbm_answer.specs.Reports.{moment_of}

momentum_part-same : (v : Stencil) (f g : ℕ → ℤ) (a : ℕ) → ((i : ℕ) → i < v.directions → f i ≡ g i) → momentum_part v f a ≡ momentum_part v g a
momentum_part-same v f g a same =
    sum_below-same v.directions (λ i. part (velocity v i) a *ℤ f i) (λ i. part (velocity v i) a *ℤ g i) (λ i known. ap (λ (z : ℤ). part (velocity v i) a *ℤ z) (same i known))

abbrev with_parts : ℤ → ℤ → ℤ → ℤ → Moment
with_parts rho jx jy jz = record { rho = rho; jx = jx; jy = jy; jz = jz }

-- a moment by its four numbers
pub moment-parts : (m : Moment) (v : Stencil) (f : ℕ → ℤ) → m.rho ≡ density v f → m.jx ≡ momentum_part v f 0 → m.jy ≡ momentum_part v f 1 → m.jz ≡ momentum_part v f 2 → m ≡ moment_of v f
moment-parts m v f rho jx jy jz =
    ap (λ (n : ℤ). with_parts n m.jx m.jy m.jz) rho ∙ ap (λ (n : ℤ). with_parts (density v f) n m.jy m.jz) jx
    ∙ ap (λ (n : ℤ). with_parts (density v f) (momentum_part v f 0) n m.jz) jy ∙ ap (λ (n : ℤ). with_parts (density v f) (momentum_part v f 0) (momentum_part v f 1) n) jz

pub moment_of-same : (v : Stencil) (f g : ℕ → ℤ) → ((i : ℕ) → i < v.directions → f i ≡ g i) → moment_of v f ≡ moment_of v g
moment_of-same v f g same =
    moment-parts (moment_of v f) v g (sum_below-same v.directions f g same) (momentum_part-same v f g 0 same) (momentum_part-same v f g 1 same) (momentum_part-same v f g 2 same)
