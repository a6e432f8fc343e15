-- The numbers of the command line.
use Rattle.std.specs.Prelude.{ℕ, List, [], ◌∷◌, length, Bool, ◌&&◌, ◌==◌, nat_le, if◌then◌else◌, Option, Some, None, option_and_then, option_map}
use Rattle.std.specs.List.{slice_split}
use Rattle.lbm_number.specs.Number.{number_of}

-- a number from low to high
abbrev pub number_between : ℕ → ℕ → List ℕ → Option ℕ
number_between low high text = option_and_then (λ n. if nat_le low n && nat_le n high then Some n else None) (number_of text)

-- what each of the texts says in a form, if each says something
abbrev pub each : {A : Type 0} → (List ℕ → Option A) → List (List ℕ) → Option (List A)
each form [] = Some []
each form (text ∷ texts) = option_and_then (λ x. option_map (λ xs. x ∷ xs) (each form texts)) (form text)

abbrev pub is_comma : ℕ → Bool
is_comma byte = byte == 44

-- 1 to 4095 numbers, joined by single commas
unfoldable pub numbers_of : List ℕ → Option (List ℕ)
numbers_of text = option_and_then (λ ns. if nat_le (length ns) 4095 then Some ns else None) (each number_of (slice_split is_comma text))
