-- The limits of a tracer.
use Rattle.std.specs.Prelude.{ℕ, ◌^◌}

-- a tracer's set has at most so many directions
abbrev pub most_tracer_directions : ℕ
most_tracer_directions = 7

-- the greatest amount of a fluid cell in limits, and so the greatest one with which a tracer begins
abbrev pub greatest_amount : ℕ
greatest_amount = 16777216

-- what any cell holds for one direction, and for all of them, is at most this in size, also in a wall or out of limits
abbrev pub amount_bound : ℕ
amount_bound = 2 ^ 35

abbrev pub cell_bound : ℕ
cell_bound = 2 ^ 38
