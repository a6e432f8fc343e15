-- Decimal numbers.
use Rattle.std.specs.Prelude.{ℕ, List, length, ◌&&◌, nat_le, if◌then◌else◌, Option, Some, None}
use Rattle.std.specs.Char.{is_ascii_digit}
use Rattle.std.specs.List.{list_all}
use Rattle.std.specs.Str.Parse.{digits_value}

-- a number is 1 to 9 decimal digits and nothing else
unfoldable pub number_of : List ℕ → Option ℕ
number_of word =
    if nat_le 1 (length word) && nat_le (length word) 9 && list_all is_ascii_digit word then Some (digits_value 10 word) else None
