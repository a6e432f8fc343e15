-- Tables of directions, filled one direction after another.
use Rattle.std.proofs.Common.{◌≡◌, ℕ, ◌<◌, List, length, slice_index}

-- the first n numbers of a table are those of f, and there are no others
pub record IsFilled (f : ℕ → ℕ) (n : ℕ) (items : List ℕ) : Type 0 where
  pub count : length items ≡ n
  pub entries : (i : ℕ) → i < n → slice_index items i ≡ f i
