-- The collision of the cells of a slab.
--     t, q      the space, and how many populations a cell has
--     before    the populations of a cell, from what the ranges of a slab of some rows hold
use Rattle.std.specs.Prelude.{◌≡◌, ℕ, ◌-◌, ◌<◌, ◌≤◌, Bool, List, ℤ, slice_index, Option}
use Rattle.lbm_space.specs.Limits.{most_directions}
use Rattle.lbm_space.specs.Torus.{Torus, IsSpace, cells, rows as row_count}
use Rattle.lbm_space.specs.Padded.{row_start}
use Rattle.lbm_sweep.specs.Blocks.{slots, IsSized, IsTable}
use Rattle.lbm_sweep.specs.Sweep.{IsCollided}
use Rattle.lbm_walk.specs.Places.{InRows, local}

abbrev pub Ranges : Type 0
Ranges = List (List ℤ)

-- the rule of the cells and their source are of this space, and each population has an array to go to
pub record IsMatched (t : Torus) (q : ℕ) (rule_cells : ℕ) (source_space : Torus) (writes : List ℕ) : Type 0 where
  pub space : IsSpace t
  pub cells : rule_cells ≡ cells t
  pub same_space : source_space ≡ t
  pub few : q ≤ most_directions
  pub table : IsTable q writes

-- the ranges of a slab of these rows
pub record IsSlab (t : Torus) (q : ℕ) (rows : ℕ × ℕ) (ranges : Ranges) : Type 0 where
  pub some : rows.0 < rows.1
  pub inside : rows.1 ≤ row_count t
  pub sized : IsSized q (row_start t rows.1 - row_start t rows.0) ranges

-- no population of the slab's cells is too large
abbrev pub AreSmall : Torus → ℕ → (small : ℕ → ℤ → Type 0) → (before : ℕ × ℕ → Ranges → ℕ → ℕ → ℤ) → ℕ × ℕ → Ranges → Type 0
AreSmall t q small before rows ranges = (cell i : ℕ) → InRows t rows cell → i < q → small cell (before rows ranges cell i)

-- the cells from `from` up to, not including, `to` collide: each writes population i to its own place of the range of array `writes[i]`.
-- What they have taken is said of the populations that a cell has, and of no others.
abbrev pub InColumns : (sound : ℕ → (ℕ → ℤ) → Bool) (post : ℕ → (ℕ → ℤ) → ℕ → ℤ) (q : ℕ) (before : ℕ × ℕ → Ranges → ℕ → ℕ → ℤ) (writes : List ℕ) (t : Torus) (rows : ℕ × ℕ) (from to : ℕ) (old new : Ranges) (answer : Option ℕ) → Type 0
InColumns sound post q before writes t rows from to old new answer =
    (taken : ℕ → ℕ → ℤ) → ((x i : ℕ) → from ≤ x → x < to → i < q → before rows old x i ≡ taken x i)
    → IsCollided sound post q taken (λ x i. (slice_index writes i, local t rows x)) (λ x s. local t rows x ≡ s.1) from to (slots old) (slots new) answer
