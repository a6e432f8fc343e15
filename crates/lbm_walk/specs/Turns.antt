-- The turns at which the directions of a cell are put.
--     v, n            the velocity set, and how many cells there are
--     first, after    what each cell took from a direction at first, and what it is to send: cell, then direction
--     there, sent     what cell j takes from direction i, and what stands where it sends direction i: direction, then cell
use Rattle.std.specs.Prelude.{◌≡◌, ℕ, ◌<◌, ◌≤◌, ◌==◌, nat_lt, min, ℤ, pos, if◌then◌else◌}
use Rattle.lbm_space.specs.Limits.{most_directions}
use Rattle.lbm_space.specs.Sum.{sum_from_one}
use Rattle.lbm_space.specs.Stencil.{Stencil, opposite}

-- a pair is put at its lesser direction, and the rest direction behind all pairs
unfoldable pub turn : Stencil → ℕ → ℕ
turn v i = if i == 0 then most_directions else min i (opposite v i)

-- the directions whose turn is below m were put, and from all others the cells take what they took at first
pub record IsUnderway (v : Stencil) (n m : ℕ) (after first there sent : ℕ → ℕ → ℤ) : Type 0 where
  pub done : (i j : ℕ) → i < v.directions → j < n → turn v i < m → sent i j ≡ after j i
  pub left : (i j : ℕ) → i < v.directions → j < n → m ≤ turn v i → there i j ≡ first j i

-- the sum of what moves and whose turn is below m
abbrev pub sum_before : Stencil → ℕ → (ℕ → ℤ) → ℤ
sum_before v m f = sum_from_one v.directions (λ i. if nat_lt (turn v i) m then f i else pos 0)
