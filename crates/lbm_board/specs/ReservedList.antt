-- A list that lies in the one slot of a table. For private functions alone: no public contract rests on it.
use Rattle.std.specs.Prelude.{◌≡◌, ℕ, ◌≤◌, List, [], ◌∷◌, Option, vec_capacity}
use mathlib.Core.Option.{some}
use mathlib.Core.Option as maybe
use Rattle.std.specs.declared.vec.Vec.{Vec}

-- it is empty, and has room for so many elements
abbrev pub HoldsEmptyList : {T Z : Type 0} → ℕ → List (maybe.Option (Vec (Option T) Z)) → Type 0
HoldsEmptyList {T} {Z} room homes = (v : Vec (Option T) Z) × (homes ≡ some v ∷ []) × (v.items ≡ []) × (room ≤ vec_capacity v)
