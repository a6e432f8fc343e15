-- The head of a voxel file: its first three lines, and the words before the values.
use Rattle.std.specs.Prelude.{ℕ, ◌+◌, List, [], ◌∷◌, ◌++◌, length, take, drop, max, find, slice_index, codes, Bool, true, false, ◌&&◌, ◌||◌, ◌==◌, nat_le, if◌then◌else◌, is_some, unwrap_or, Option, option_and_then, slice_get}
use Rattle.std.specs.Char.{is_ascii_digit}
use Rattle.std.specs.List.{fold, list_any, position_or_len}
use Rattle.std.specs.Str.{bytes_eq, str_eq_ignore_ascii_case}
use Rattle.lbm_voxel.specs.declared.head.WordKind.{WordKind}
use Rattle.lbm_voxel.specs.declared.head.WordKind.TheVariants.{Dataset, StructuredPoints, Dimensions, Origin, Spacing, PointData, Scalars, ScalarType, One, LookupTable, Number, Any}
use Rattle.lbm_number.specs.Number.{number_of}

-- ---- the lines

-- line 1 has 26 bytes: this text, and then a digit, a point and a digit
abbrev pub version_text : List ℕ
version_text = codes "# vtk DataFile Version "

abbrev pub is_version : List ℕ → Bool
is_version line =
    (length line == 26) && bytes_eq (take 23 line) version_text
    && is_ascii_digit (slice_index line 23) && (slice_index line 24 == 46) && is_ascii_digit (slice_index line 25)

-- line 2 is any title of at most 256 bytes
abbrev pub is_title : List ℕ → Bool
is_title line = nat_le (length line) 256

-- line 3 is the form of the values
abbrev pub is_ascii : List ℕ → Bool
is_ascii line = bytes_eq line (codes "ASCII")

-- ---- the words

-- a keyword, whose letters may be of either case
abbrev pub is_keyword : List ℕ → List ℕ → Bool
is_keyword keyword word = str_eq_ignore_ascii_case word keyword

-- the types of the values
abbrev pub types : List (List ℕ)
types = codes "unsigned_char" ∷ codes "char" ∷ codes "short" ∷ codes "int" ∷ []

-- whether a word is of a kind
unfoldable pub fits : WordKind → List ℕ → Bool
fits Dataset word = is_keyword (codes "DATASET") word
fits StructuredPoints word = is_keyword (codes "STRUCTURED_POINTS") word
fits Dimensions word = is_keyword (codes "DIMENSIONS") word
fits Origin word = is_keyword (codes "ORIGIN") word
fits Spacing word = is_keyword (codes "SPACING") word || is_keyword (codes "ASPECT_RATIO") word
fits PointData word = is_keyword (codes "POINT_DATA") word
fits Scalars word = is_keyword (codes "SCALARS") word
fits ScalarType word = list_any (λ type. is_keyword type word) types
fits One word = bytes_eq word (codes "1")
fits LookupTable word = is_keyword (codes "LOOKUP_TABLE") word
fits Number word = is_some (number_of word)
fits Any word = true

-- the three parts that stand in any order
abbrev pub dimensions : List WordKind
dimensions = Dimensions ∷ Number ∷ Number ∷ Number ∷ []

abbrev pub origin : List WordKind
origin = Origin ∷ Any ∷ Any ∷ Any ∷ []

abbrev pub spacing : List WordKind
spacing = Spacing ∷ Any ∷ Any ∷ Any ∷ []

-- the kinds of the words of a head with these parts, in which the number of values at a point is told, as a 1, or not
abbrev pub head_of : List WordKind → List WordKind → List WordKind → List WordKind → List WordKind
head_of first second third components =
    (Dataset ∷ StructuredPoints ∷ []) ++ first ++ second ++ third
    ++ (PointData ∷ Number ∷ Scalars ∷ Any ∷ ScalarType ∷ []) ++ components ++ (LookupTable ∷ Any ∷ [])

abbrev pub in_any_order : List WordKind → List (List WordKind)
in_any_order components =
    head_of dimensions origin spacing components ∷
    head_of dimensions spacing origin components ∷
    head_of origin dimensions spacing components ∷
    head_of origin spacing dimensions components ∷
    head_of spacing dimensions origin components ∷
    head_of spacing origin dimensions components ∷
    []

unfoldable pub heads : List (List WordKind)
heads = in_any_order [] ++ in_any_order (One ∷ [])

-- how many words in a row, from the first on, are of the kinds of a head
unfoldable pub fitting : List WordKind → List (List ℕ) → ℕ
fitting [] words = 0
fitting (kind ∷ head) [] = 0
fitting (kind ∷ head) (word ∷ words) = if fits kind word then 1 + fitting head words else 0

-- whether the first words are a whole head of these kinds
abbrev pub is_headed : List (List ℕ) → List WordKind → Bool
is_headed words head = fitting head words == length head

-- the head with which words begin
unfoldable pub head_in : List (List ℕ) → Option (List WordKind)
head_in words = find (is_headed words) heads

-- the first word with which no head goes on: those before it are as many as begin a head
unfoldable pub strange_word : List (List ℕ) → ℕ
strange_word words = fold (λ most head. max most (fitting head words)) 0 heads

-- ---- the numbers

abbrev pub is_dimensions : WordKind → Bool
is_dimensions Dimensions = true
is_dimensions _ = false

abbrev pub is_point_data : WordKind → Bool
is_point_data PointData = true
is_point_data _ = false

-- the number that word n is
unfoldable pub number_at : List (List ℕ) → ℕ → ℕ
number_at words n = unwrap_or (option_and_then number_of (slice_get words n)) 0

-- side a, from 1, is word a after DIMENSIONS
abbrev pub side : List WordKind → List (List ℕ) → ℕ → ℕ
side head words a = number_at words (position_or_len is_dimensions head + a)

-- how many values are told: the number after POINT_DATA
abbrev pub count_in : List WordKind → List (List ℕ) → ℕ
count_in head words = number_at words (position_or_len is_point_data head + 1)

-- the words after the head
abbrev pub values_in : List WordKind → List (List ℕ) → List (List ℕ)
values_in head words = drop (length head) words
