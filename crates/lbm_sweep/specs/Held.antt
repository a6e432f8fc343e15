-- Rows of cells that stand in the ranges of a loan.
--     at, n     the place of the first cell in each range, and how many cells there are
use Rattle.std.specs.Prelude.{◌≡◌, ◌⊎◌, ℕ, ◌+◌, ◌<◌, ◌≤◌, ℤ, List, [], length, slice_index, slice_index_or}
use Rattle.lbm_space.specs.Limits.{most_directions}
use Rattle.lbm_space.specs.Stencil.{Stencil, opposite}
use Rattle.lbm_arrays.specs.Lent.{Lent, Place, first_slot}
use Rattle.lbm_cell.specs.Rows.{entry}
use Rattle.lbm_sweep.specs.Blocks.{IsSized, IsTable}

-- how long the ranges are
abbrev pub width : List (List ℤ) → ℕ
width ranges = length (slice_index_or ranges 0 [])

-- one to eight places within ranges of one length, one range for each of q directions
pub record IsWithin (q : ℕ) (ranges : List (List ℤ)) (at n : ℕ) : Type 0 where
  pub some : 1 ≤ n
  pub few : n ≤ 8
  pub directions : q ≤ most_directions
  pub sized : IsSized q (width ranges) ranges
  pub inner : 0 < at
  pub fits : at + n < width ranges

-- each direction is taken from an array of its own, and put where its opposite is taken from
pub record IsExchange (v : Stencil) (reads writes : List ℕ) : Type 0 where
  pub taken : IsTable v.directions reads
  pub put : IsTable v.directions writes
  pub back : (i : ℕ) → i < v.directions → slice_index writes i ≡ slice_index reads (opposite v i)

-- the range of the array of each of q directions begins at the slot of the direction
abbrev pub BeginAt : ℕ → Place → (arrays slots : List ℕ) → Type 0
BeginAt q place arrays slots = (i : ℕ) → i < q → slice_index slots i ≡ first_slot place (slice_index arrays i)

-- nothing has changed but at the places from `from` up to, not including, `to`
pub record IsSameBut (from to : ℕ) (old new : Lent) : Type 0 where
  pub rows : new.rows ≡ old.rows
  pub place : new.place ≡ old.place
  pub wide : width new.ranges ≡ width old.ranges
  pub sized : (q len : ℕ) → IsSized q len old.ranges → IsSized q len new.ranges
  pub others : (k p : ℕ) → (p < from) ⊎ (to ≤ p) → entry new.ranges k p ≡ entry old.ranges k p

-- they are of the same slab, at the same places
pub record IsAlike (old new : Lent) : Type 0 where
  pub rows : new.rows ≡ old.rows
  pub place : new.place ≡ old.place
