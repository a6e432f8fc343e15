use Rattle.std.specs.Prelude.{◌≡◌, ℕ, ◌+◌, ◌*◌, ◌/◌, ◌%◌, ◌<◌, ◌≤◌, List, length, ℤ, pos, ◌+ℤ◌, fold, slice_index_or}
use Rattle.lbm_space.specs.Limits.{most_directions, most_places}
use Rattle.lbm_space.specs.Sum.{list_below}

-- the populations of all cells, in order of cell and then direction
pub record FlowState : Type 0 where
  pub directions : ℕ
  pub numbers : List ℤ

abbrev pub flow_state : ℕ → List ℤ → FlowState
flow_state directions numbers = record { directions = directions; numbers = numbers }

-- population i of cell x
abbrev pub population : FlowState → ℕ → ℕ → ℤ
population s x i = slice_index_or s.numbers (x * s.directions + i) (pos 0)

-- the state in which population i of cell x is f x i
abbrev pub state_of : ℕ → ℕ → (ℕ → ℕ → ℤ) → FlowState
state_of directions cells f = record {
  directions = directions;
  numbers = list_below (cells * directions) (λ k. f (k / directions) (k % directions));
}

-- the sum of all populations of all cells
abbrev pub mass : FlowState → ℤ
mass s = fold (λ a b. a +ℤ b) (pos 0) s.numbers

-- the states that can be kept: whole cells, each with as many populations as a set has directions, and no more of them than a box has places
pub record IsState (s : FlowState) : Type 0 where
  pub some_direction : 0 < s.directions
  pub few_directions : s.directions ≤ most_directions
  pub whole_cells : length s.numbers % s.directions ≡ 0
  pub few_cells : length s.numbers ≤ most_places * s.directions
