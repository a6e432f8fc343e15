-- A region: arrays of one size, one behind the other. Each has a slot for every padded place of a space, and a margin.
use Rattle.std.specs.Prelude.{◌≡◌, ℕ, ◌+◌, ◌*◌, ◌≤◌, List, ℤ, pos, length, slice_index_or}
use Rattle.lbm_space.specs.Limits.{most_directions}
use Rattle.lbm_space.specs.Torus.{Torus, IsSpace, padded}

pub record Arrays : Type 0 where
  pub space : Torus
  pub count : ℕ
  pub margin : ℕ
  pub slots : List ℤ

-- how many slots an array has
abbrev pub array_size : Torus → ℕ → ℕ
array_size t margin = margin + padded t

-- slot `at` of array k
abbrev pub slot_at : Torus → ℕ → ℕ → ℕ → ℕ
slot_at t margin k at = k * array_size t margin + at

-- what a slot holds
abbrev pub held : List ℤ → ℕ → ℤ
held slots s = slice_index_or slots s (pos 0)

-- the sizes that a region has
pub record IsRegion (r : Arrays) : Type 0 where
  pub space : IsSpace r.space
  pub some : 1 ≤ r.count
  pub few : r.count ≤ most_directions
  pub margin : r.margin ≤ padded r.space
  pub whole : length r.slots ≡ r.count * array_size r.space r.margin
