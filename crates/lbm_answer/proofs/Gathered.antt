-- What holds of each item that is made of an item of another list.
use Rattle.std.proofs.Common.{List, [], ◌∷◌}
use Rattle.std.specs.List.{All, AllZip}
use Rattle.std.proofs.lemmas.List.Elements.{All-cons, All-nil}

module _ {X Y : Type 0} (R : X → Y → Type 0) (P : Y → Type 0) (turn : (x : X) (y : Y) → R x y → P y) where
  pub AllZip-second : (xs : List X) (ys : List Y) → AllZip R xs ys → All P ys
  AllZip-second [] [] each = All-nil P
  AllZip-second [] (y ∷ ys) each = absurd each
  AllZip-second (x ∷ xs) [] each = absurd each
  AllZip-second (x ∷ xs) (y ∷ ys) each = All-cons P y ys (turn x y each.0) (AllZip-second xs ys each.1)
