-- How many rows a tile has.
use Rattle.std.specs.Prelude.{ℕ, ◌*◌, ◌≤◌}

-- a board takes so many tiles at most
abbrev pub most_tiles : ℕ
most_tiles = 4096

-- tiles of n rows are few enough for so many rows
abbrev pub AreFew : (rows n : ℕ) → Type 0
AreFew rows n = rows ≤ most_tiles * n

-- the least number of rows, of those from `asked` on, for which the tiles are few enough
pub record IsTileHeight (rows asked n : ℕ) : Type 0 where
  pub enough : asked ≤ n
  pub few : AreFew rows n
  pub least : (m : ℕ) → asked ≤ m → AreFew rows m → n ≤ m
