-- What holds of each element of a list, and sums over its elements.
use Rattle.std.specs.Prelude.{ℕ, ◌+◌, List, [], ◌∷◌}

module _ {A : Type 0} where
  -- P holds of each element
  abbrev pub Each : (A → Type 0) → List A → Type 0
  Each P [] = Unit {0}
  Each P (x ∷ xs) = P x × Each P xs

  -- f of each element, added up
  abbrev pub total : (A → ℕ) → List A → ℕ
  total f [] = 0
  total f (x ∷ xs) = f x + total f xs
