-- The ranges of the numbers of a case file.
use Rattle.std.specs.Prelude.{ℕ, List, Bool, true, false, not, ◌&&◌, ◌||◌, ◌==◌, nat_le, if◌then◌else◌, ℤ, pos, ◌*ℤ◌, int_le, int_lt, unsigned_abs, Option, Some, None, find}
use Rattle.std.specs.List.{list_all}
use Rattle.std.specs.Ordering.{int_eq}
use Rattle.lbm_space.specs.Limits.{greatest_side}
use Rattle.lbm_space.specs.Stencil.{part}
use Rattle.lbm_cell.specs.Limits.{least_density, greatest_density, greatest_first_momentum, greatest_rate, greatest_force}
use Rattle.lbm_model.specs.declared.sets.SetKind.{SetKind}
use Rattle.lbm_model.specs.Sets.{stencil_of}
use Rattle.lbm_case.specs.declared.key.Key.{Key}
use Rattle.lbm_case.specs.declared.key.Key.TheVariants.{Set, Omega, Map, Layers, Density, Digit, Momentum, Force, OmegaMinus, Wall}
use Rattle.lbm_case.specs.Keys.{all_keys}
use Rattle.lbm_case.specs.Limits.{greatest_digit}
use Rattle.lbm_case.specs.Settings.{Settings}

-- whether the velocity set is one of the plane
abbrev pub is_plane : Option SetKind → Bool
is_plane (Some set) = (stencil_of set).dimension == 2
is_plane None = false

-- whether n is from low to high
abbrev pub is_between : ℤ → ℤ → ℤ → Bool
is_between low high n = int_le low n && int_le n high

-- whether n over q is a rate: from 1 to the greatest, and below twice q
abbrev pub is_rate : ℤ → ℤ → Bool
is_rate n q = is_between (pos 1) (pos greatest_rate) n && int_lt n (pos 2 *ℤ q)

-- whether each part of a vector has at most this size, and the third one is 0 in the plane
abbrev pub is_vector : Bool → ℕ → List ℤ → Bool
is_vector plane size u = list_all (λ n. nat_le (unsigned_abs n) size) u && (not plane || int_eq (part u 2) (pos 0))

-- whether the numbers at a key are in their range
abbrev pub is_in_range : Settings → Key → Bool
is_in_range s Set = true
is_in_range s Omega = is_between (pos 1) (pos greatest_rate) (part s.rate 1) && is_rate (part s.rate 0) (part s.rate 1)
is_in_range s Map = true
is_in_range s Layers = is_between (pos 1) (if is_plane s.set then pos 1 else pos greatest_side) s.layers
is_in_range s Density = is_between (pos least_density) (pos greatest_density) s.density
is_in_range s Digit = is_between (pos 0) (pos greatest_digit) s.digit
is_in_range s Momentum = is_vector (is_plane s.set) greatest_first_momentum s.momentum
is_in_range s Force = is_vector (is_plane s.set) greatest_force s.force
is_in_range s OmegaMinus = is_rate s.rate_minus (part s.rate 1)
is_in_range s Wall = is_vector (is_plane s.set) greatest_force s.wall

-- the first key whose numbers are out of their range
abbrev pub bad_number : Settings → Option Key
bad_number s = find (λ key. not (is_in_range s key)) all_keys
