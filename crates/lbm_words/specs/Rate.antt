-- The relaxation rate of a tracer.
use Rattle.std.specs.Prelude.{ℕ, ◌*◌, List, [], ◌∷◌, Bool, ◌&&◌, nat_le, nat_lt, pos, if◌then◌else◌, Option, Some, None, option_and_then}
use Rattle.std.specs.List.{slice_split}
use Rattle.lbm_cell.specs.Limits.{greatest_rate}
use Rattle.lbm_cell.specs.Collision.{RelaxationRates, rates}
use Rattle.lbm_number.specs.Number.{number_of}
use Rattle.lbm_words.specs.Numbers.{each, is_comma}

-- p over q is a rate: both are from 1 to the greatest number of which rates are made, and p is below twice q
abbrev pub is_rate : ℕ → ℕ → Bool
is_rate p q = nat_le 1 p && nat_le p greatest_rate && nat_le 1 q && nat_le q greatest_rate && nat_lt p (2 * q)

-- the rate p over q, where it is one
abbrev pub rate : ℕ → ℕ → Option RelaxationRates
rate p q = if is_rate p q then Some (rates (pos p) (pos p) (pos q)) else None

-- the rate of two numbers; no rate is made of fewer or more
abbrev pub rate_of_two : List ℕ → Option RelaxationRates
rate_of_two (p ∷ q ∷ []) = rate p q
rate_of_two numbers = None

-- the rate that a text spells: p,q
unfoldable pub rate_of : List ℕ → Option RelaxationRates
rate_of text = option_and_then rate_of_two (each number_of (slice_split is_comma text))
