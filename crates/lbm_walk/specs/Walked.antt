-- What a kernel leaves that has gone over cells.
--     q         how many populations a cell has
--     place     the place of a cell
--     f         the populations of each cell: cell, then direction
--     after     what stands where the cell of a place sends a direction: direction, then place
use Rattle.std.specs.Prelude.{◌≡◌, ℕ, ◌+◌, ◌<◌, ◌≤◌, ℤ, Bool, true, false, Option, None}
use Rattle.lbm_walk.specs.First.{IsFirst}

-- what cell j takes from direction i is population i of f j, for the first n cells
abbrev pub AreTaken : (q n : ℕ) (f there : ℕ → ℕ → ℤ) → Type 0
AreTaken q n f there = (i j : ℕ) → i < q → j < n → there i j ≡ f j i

-- the first of these cells that is out of limits is answered; where there is none, each has sent what it makes of its populations
pub record IsWalked (sound : ℕ → (ℕ → ℤ) → Bool) (post : ℕ → (ℕ → ℤ) → ℕ → ℤ) (q : ℕ) (place : ℕ → ℕ) (from to : ℕ) (f after : ℕ → ℕ → ℤ) (answer : Option ℕ) : Type 0 where
  pub first : IsFirst (λ x. sound x (f x)) from to answer
  pub sent : answer ≡ None → (i x : ℕ) → i < q → from ≤ x → x < to → after i (place x) ≡ post x (f x) i

-- the place p is still to come behind n cells at the places from `at` on, in a walk that rises or falls
abbrev pub IsPending : (rises : Bool) (at n p : ℕ) → Type 0
IsPending true at n p = at + n ≤ p
IsPending false at n p = p < at
