-- The limits of runs and of what walls add.
use Rattle.std.specs.Prelude.{ℕ, ◌^◌}

-- a run has at most so many steps, and so the time of a state is no greater
abbrev pub most_steps : ℕ
most_steps = 1000000

-- what a moving wall adds to a population is below this in size
abbrev pub gain_bound : ℕ
gain_bound = 2 ^ 15
