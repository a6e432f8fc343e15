-- The text of a voxel file: its lines and its words.
use Rattle.std.specs.Prelude.{ℕ, ◌+◌, ◌-◌, List, length, take, drop, filter, position, slice_index, Bool, ◌||◌, ◌==◌, nat_lt, if◌then◌else◌, Option, option_map}
use Rattle.std.specs.List.{slice_split}

abbrev pub is_line_feed : ℕ → Bool
is_line_feed byte = byte == 10

-- a line without the byte 13 that may end it
abbrev pub without_return : List ℕ → List ℕ
without_return line = if slice_index line (length line - 1) == 13 then take (length line - 1) line else line

-- The first line of a text, which ends before the first byte 10, and what follows that byte. What no byte 10 follows is no line.
unfoldable pub first_line : List ℕ → Option (List ℕ × List ℕ)
first_line text = option_map (λ n. (without_return (take n text), drop (n + 1) text)) (position is_line_feed text)

abbrev pub is_blank : ℕ → Bool
is_blank byte = byte == 9 || byte == 10 || byte == 13 || byte == 32

-- the words of a text: the longest runs of bytes that are not blank
unfoldable pub words : List ℕ → List (List ℕ)
words text = filter (λ run. nat_lt 0 (length run)) (slice_split is_blank text)
