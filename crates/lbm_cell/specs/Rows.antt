-- Rows of numbers: the lanes of a block, direction by direction, and the ranges of a loan, array by array.
use Rattle.std.specs.Prelude.{ℕ, List, [], ℤ, pos, slice_index_or}

-- place p of row k
abbrev pub entry : List (List ℤ) → ℕ → ℕ → ℤ
entry rows k p = slice_index_or (slice_index_or rows k []) p (pos 0)
