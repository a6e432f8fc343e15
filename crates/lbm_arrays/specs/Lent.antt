-- What contracts see of a loan.
use Rattle.std.specs.Prelude.{◌≡◌, ℕ, ◌+◌, ◌<◌, ◌≤◌, ℤ, List, [], length, slice_index, slice_index_or}
use denote.RawPtr.{Ptr}

-- where the ranges lie
pub record Place : Type 0 where
  pub start : Ptr
  pub count : ℕ
  pub firsts : List ℕ
  pub lo : ℕ
  pub hi : ℕ

-- the first row of the slab and the row past its end, where its ranges lie, and what they hold, array by array
pub record Lent : Type 0 where
  pub rows : ℕ × ℕ
  pub place : Place
  pub ranges : List (List ℤ)

-- the slot at which the range of array k begins
abbrev pub first_slot : Place → ℕ → ℕ
first_slot place k = slice_index place.firsts k + place.lo

-- slot `first` begins the range of array k, in which n places lie from place `at` on
pub record IsRun (lent : Lent) (first k at n : ℕ) : Type 0 where
  pub known : k < length lent.ranges
  pub begins : first ≡ first_slot lent.place k
  pub fits : at + n ≤ length (slice_index_or lent.ranges k [])
