-- What a fork is asked and gives, for the pieces from `from` up to, not including, `to`.
--     ready, does     the two meanings of the work: its condition, and its relation
--     fs, marks       where the ranges begin, and where each piece begins in them
use Rattle.std.specs.Prelude.{◌≡◌, ℕ, ℤ, ◌+◌, ◌-◌, ◌<◌, ◌≤◌, ◌^◌, false, List, length, map, slice_index, slice_index_or, Option, None}
use Rattle.lbm_space.specs.Torus.{Torus}
use Rattle.lbm_space.specs.Padded.{row_start}
use Rattle.lbm_space.specs.Cuttings.{first_row, end_row}
use Rattle.lbm_patch.specs.declared.Patch.{Patch}
use Rattle.lbm_patch.specs.Masks.{in_any, mask}
use Rattle.lbm_arrays.specs.Least.{least}
use Rattle.lbm_arrays.specs.Ranges.{ranges, IsApart}

abbrev pub Rows : Type 0
Rows = List (List ℤ)

-- how far behind the first row another one starts
abbrev pub mark : Torus → ℕ → ℕ
mark t row = row_start t row - row_start t 0

abbrev pub marks_of : Torus → List ℕ → List ℕ
marks_of t bounds = map (mark t) bounds

-- the marks rise, and no range passes the next
pub record IsLaid (fs marks : List ℕ) (n : ℕ) : Type 0 where
  pub rising : (a b : ℕ) → a ≤ b → b < length marks → slice_index marks a ≤ slice_index marks b
  pub apart : (b : ℕ) → b < length marks → IsApart fs (slice_index marks b) n
  pub few : length marks ≤ 2 ^ 32

module _ (ready : ℕ → Rows → Type 0) (does : ℕ → Rows → Option ℕ → Rows → Type 0) (fs marks : List ℕ) where
  -- what the ranges of piece k hold
  abbrev pub piece : ℕ → List ℤ → Rows
  piece k xs = ranges fs (slice_index marks k) (slice_index marks (k + 1)) xs

  abbrev pub AllReady : ℕ → ℕ → List ℤ → Type 0
  AllReady from to xs = (k : ℕ) → from ≤ k → k < to → ready k (piece k xs)

  -- each piece was done, and the answer is the least of all
  pub record AllDone (from to : ℕ) (xs ys : List ℤ) (answer : Option ℕ) : Type 0 where
    pub answers : List (Option ℕ)
    pub count : length answers ≡ to - from
    pub done : (k : ℕ) → k < to - from → does (from + k) (piece (from + k) xs) (slice_index_or answers k None) (piece (from + k) ys)
    pub is_least : answer ≡ least answers

  pub record Asks (from to : ℕ) (a : Patch ℤ) : Type 0 where
    pub laid : IsLaid fs marks a.len
    pub some : from < to
    pub within : to < length marks
    pub mine : a.mine ≡ mask fs (slice_index marks from) (slice_index marks to) a.len
    pub all : AllReady from to a.items

  pub record Gives (from to : ℕ) (a b : Patch ℤ) (answer : Option ℕ) : Type 0 where
    pub start : b.ptr ≡ a.ptr
    pub count : b.len ≡ a.len
    pub mine : b.mine ≡ a.mine
    pub did : AllDone from to a.items b.items answer

-- outside of the ranges ys is xs
abbrev pub SameOthers : List ℕ → ℕ → ℕ → List ℤ → List ℤ → Type 0
SameOthers fs lo hi xs ys = (i : ℕ) (d : ℤ) → in_any fs lo hi i ≡ false → slice_index_or ys i d ≡ slice_index_or xs i d

-- the work of a piece, told the rows of its slab
abbrev pub ready_in : List ℕ → (ℕ → ℕ × ℕ → Rows → Type 0) → ℕ → Rows → Type 0
ready_in bounds ready k = ready k (first_row bounds k, end_row bounds k)

abbrev pub does_in : List ℕ → (ℕ → ℕ × ℕ → Rows → Option ℕ → Rows → Type 0) → ℕ → Rows → Option ℕ → Rows → Type 0
does_in bounds does k = does k (first_row bounds k, end_row bounds k)
