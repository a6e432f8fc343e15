-- The limits of velocity sets and of boxes.
use Rattle.std.specs.Prelude.{ℕ}

-- a velocity set has at most so many directions
abbrev pub most_directions : ℕ
most_directions = 27

-- the greatest denominator of the weights of a velocity set
abbrev pub greatest_denominator : ℕ
greatest_denominator = 216

-- a box has at most so many cells on an axis
abbrev pub greatest_side : ℕ
greatest_side = 4096

-- a box has at most so many places, those of its layer of padding among them
abbrev pub most_places : ℕ
most_places = 4194304
