-- The limits of what a cell holds: densities, populations, rates and forces.
use Rattle.std.specs.Prelude.{ℕ, ◌^◌}

-- the density of a fluid cell in limits is from half the unit, which is 884736, to twice the unit
abbrev pub least_density : ℕ
least_density = 442368

abbrev pub greatest_density : ℕ
greatest_density = 1769472

-- the greatest first density of a fluid cell
abbrev pub greatest_first_density : ℕ
greatest_first_density = 4194304

-- the greatest size of a part of the first momentum of a fluid cell: the unit of density
abbrev pub greatest_first_momentum : ℕ
greatest_first_momentum = 884736

-- the greatest number of which rates are made: of each of p, m and q
abbrev pub greatest_rate : ℕ
greatest_rate = 1024

-- the greatest size of a part of a force, and of the velocity of a wall
abbrev pub greatest_force : ℕ
greatest_force = 1024

-- the greatest size of a population of a first state, and of a population that a wall holds
abbrev pub greatest_population : ℕ
greatest_population = 2 ^ 28
