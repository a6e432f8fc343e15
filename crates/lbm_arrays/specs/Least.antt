-- The least of some answers.
use Rattle.std.specs.Prelude.{ℕ, min, List, [], ◌∷◌, Option, Some, None}

-- the lesser of two answers
abbrev pub lesser : Option ℕ → Option ℕ → Option ℕ
lesser None b = b
lesser (Some x) None = Some x
lesser (Some x) (Some y) = Some (min x y)

-- the least of the answers, and None where there is none
abbrev pub least : List (Option ℕ) → Option ℕ
least [] = None
least (a ∷ rest) = lesser a (least rest)
