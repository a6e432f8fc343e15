-- The generated case of a size n: a channel of 128 by 32 n cells, with square blocks of two by two solid cells in it.
use Rattle.std.specs.Prelude.{ℕ, ◌+◌, ◌-◌, ◌*◌, ◌/◌, ◌%◌, List, ◌++◌, Bool, ◌&&◌, ◌||◌, ◌==◌, if◌then◌else◌, codes}
use Rattle.std.specs.List.{flat_map}
use Rattle.lbm_space.specs.Sum.{list_below}

abbrev pub gen_width : ℕ
gen_width = 128

abbrev pub gen_height : ℕ → ℕ
gen_height n = 32 * n

-- each square of 16 by 16 cells has one block; how far its corner is from that of the square, beside 4
abbrev pub block_x : ℕ → ℕ → ℕ → ℕ
block_x n a b = (5 * a + 3 * b + n) % 8

abbrev pub block_y : ℕ → ℕ → ℕ → ℕ
block_y n a b = (3 * a + 7 * b + n * n) % 8

-- a coordinate is the corner's or one more
abbrev pub is_beside : ℕ → ℕ → Bool
is_beside corner at = (at == corner) || (at == corner + 1)

abbrev pub is_in_block : ℕ → ℕ → ℕ → Bool
is_in_block n x y =
    let a = x / 16 in let b = y / 16 in
    is_beside (16 * a + 4 + block_x n a b) x && is_beside (16 * b + 4 + block_y n a b) y

-- the cells of the first and the last row are walls too
abbrev pub is_wall : ℕ → ℕ → ℕ → Bool
is_wall n x y = (y == 0) || (y == gen_height n - 1) || is_in_block n x y

-- the character of a cell
abbrev pub gen_cell : ℕ → ℕ → ℕ → ℕ
gen_cell n x y = if is_wall n x y then 35 else 46

-- a row of the map, in quotes and with a comma
abbrev pub gen_row : ℕ → ℕ → List ℕ
gen_row n y = codes "\"" ++ list_below gen_width (λ x. gen_cell n x y) ++ codes "\",\n"

-- the text of the case
unfoldable pub gen : ℕ → List ℕ
gen n =
    codes "set = \"D2Q9\"\nomega = [1, 1]\nforce = [1, 0, 0]\nmap = [\n"
    ++ flat_map (gen_row n) (list_below (gen_height n) (λ y. y))
    ++ codes "]\n"
