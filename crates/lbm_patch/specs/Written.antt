-- A row with some of its values written over.
use Rattle.std.specs.Prelude.{ℕ, suc, List, [], ◌∷◌, slice_set}

-- xs with ys from place i on
abbrev pub written : {X : Type 0} → List X → ℕ → List X → List X
written xs i [] = xs
written xs i (y ∷ ys) = written (slice_set xs i y) (suc i) ys
