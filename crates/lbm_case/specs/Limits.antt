-- The limit of a case file that a case itself does not have.
use Rattle.std.specs.Prelude.{ℕ}

-- the greatest density that each step of a digit adds to the first density of a cell
abbrev pub greatest_digit : ℕ
greatest_digit = 200000
