-- The lattice that the rows of a case file draw. A row is the list of its characters.
use Rattle.std.specs.Prelude.{ℕ, ◌+◌, ◌-◌, ◌*◌, ◌/◌, ◌%◌, List, [], length, filter, position, slice_index, slice_index_or, Bool, not, ◌&&◌, ◌||◌, ◌==◌, nat_le, if◌then◌else◌, Option, Some, None, option_map, option_and_then}
use Rattle.std.specs.Option.{option_or}
use Rattle.std.specs.List.{list_any, range_with_len, flat_map}
use Rattle.lbm_space.specs.Limits.{greatest_side, most_places}
use Rattle.lbm_space.specs.Torus.{Torus, torus, padded}

-- the characters: walls at rest and in motion, and fluid
abbrev pub hash : ℕ
hash = 35

abbrev pub equals : ℕ
equals = 61

abbrev pub dot : ℕ
dot = 46

abbrev pub is_digit : ℕ → Bool
is_digit c = nat_le 48 c && nat_le c 57

-- whether a character stands for no cell
abbrev pub is_strange : ℕ → Bool
is_strange c = not (c == dot || c == hash || c == equals || is_digit c)

-- row r, and the length of row 0
abbrev pub row : List (List ℕ) → ℕ → List ℕ
row rows r = slice_index_or rows r []

abbrev pub width : List (List ℕ) → ℕ
width rows = length (row rows 0)

-- the first row that is not as long as row 0
unfoldable pub other_row : List (List ℕ) → Option ℕ
other_row rows = position (λ cs. not (length cs == width rows)) rows

-- the number of rows, where the layers do not divide it
abbrev pub undivided : ℕ → List (List ℕ) → Option ℕ
undivided layers rows = if length rows % layers == 0 then None else Some (length rows)

abbrev pub ragged : ℕ → List (List ℕ) → Option ℕ
ragged layers rows = option_or (other_row rows) (undivided layers rows)

-- the first row with a character that stands for no cell, and its first such column
abbrev pub strange_place : List (List ℕ) → Option (ℕ × ℕ)
strange_place rows = option_and_then (λ r. option_map (λ x. (r, x)) (position is_strange (row rows r))) (position (list_any is_strange) rows)

-- the box that the rows fill, in so many layers
abbrev pub box_of : ℕ → ℕ → List (List ℕ) → Torus
box_of dimension layers rows = torus dimension (width rows) (length rows / layers) layers

-- whether a box is allowed: each side is from 1 to the greatest, a plane has one layer, and the padded box is not too large
abbrev pub is_side : ℕ → Bool
is_side n = nat_le 1 n && nat_le n greatest_side

abbrev pub is_space : Torus → Bool
is_space t = is_side t.nx && is_side t.ny && is_side t.nz && (not (t.dimension == 2) || t.nz == 1) && nat_le (padded t) most_places

-- the first density of the cell that a character stands for, which is 0 in a wall
abbrev pub density_of : ℕ → ℕ → ℕ → ℕ
density_of density digit c =
    if c == dot then density
    else if is_digit c then density + (c - 48) * digit
    else 0

-- the characters of all cells, in order of their numbers
abbrev pub cells_of : List (List ℕ) → List ℕ
cells_of rows = flat_map (λ cs. cs) rows

-- the numbers of the cells that move
abbrev pub moving_in : List ℕ → List ℕ
moving_in cells = filter (λ x. slice_index cells x == equals) (range_with_len 0 (length cells))
