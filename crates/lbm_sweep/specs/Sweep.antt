-- A sweep of cells over slots. Each cell takes its populations, and writes what it sends, direction by direction, to slots that no other cell touches.
--     before     the populations of cell x, as they stood before the sweep
--     writes     the slot to which cell x writes direction i
--     touches    the slots that cell x may change
use Rattle.std.specs.Prelude.{◌≡◌, ℕ, ◌<◌, ◌≤◌, ℤ, Bool, Option, None}
use Rattle.lbm_walk.specs.First.{IsFirst}

-- the cells from `from` up to, not including, `to` have written their result, and no slot that they do not touch has changed
pub record IsSwept {S : Type 0} (q : ℕ) (writes : ℕ → ℕ → S) (touches : ℕ → S → Type 0) (result : ℕ → ℕ → ℤ) (from to : ℕ) (old new : S → ℤ) : Type 0 where
  pub written : (x i : ℕ) → from ≤ x → x < to → i < q → new (writes x i) ≡ result x i
  pub others : (s : S) → ((x : ℕ) → from ≤ x → x < to → touches x s → ⊥) → new s ≡ old s

-- the least of these cells that is out of limits is answered; where there is none, each has written what it sends
pub record IsCollided {S : Type 0} (sound : ℕ → (ℕ → ℤ) → Bool) (post : ℕ → (ℕ → ℤ) → ℕ → ℤ) (q : ℕ) (before : ℕ → ℕ → ℤ) (writes : ℕ → ℕ → S) (touches : ℕ → S → Type 0) (from to : ℕ) (old new : S → ℤ) (answer : Option ℕ) : Type 0 where
  pub first : IsFirst (λ x. sound x (before x)) from to answer
  pub swept : answer ≡ None → IsSwept q writes touches (λ x i. post x (before x) i) from to old new
