-- What the fields of a board and of a turn keep. For the proofs of the calls alone: no public contract rests on it.
use Rattle.std.specs.Prelude.{◌≡◌, ℕ, ◌+◌, ◌<◌, ◌≤◌, Bool, true, false, List, [], ◌∷◌, ◌++◌, map, length, take, drop, Option, None, All}
use Rattle.atomic_table.specs.Table.{Me}
use Rattle.atomic_table.specs.Seated.{TableId}
use Rattle.lbm_board.specs.declared.record.View.{View}
use Rattle.lbm_board.specs.declared.rule.Start.{Start}
use Rattle.lbm_board.specs.Lists.{Each, total}
use Rattle.lbm_board.specs.Closing.{AreClaims}
use Rattle.lbm_board.specs.Entries.{one_if_same, draws, finishes, nones, DrawsBelow, only}

-- how often k stands in the list
abbrev pub times : ℕ → List ℕ → ℕ
times k ns = total (λ n. one_if_same n k) ns

-- the list with its first n elements behind the others
abbrev pub rotated : {A : Type 0} → ℕ → List A → List A
rotated n xs = drop n xs ++ take n xs

module _ {T : Type 0} where
  -- a slot that is out with a seat and empty
  abbrev pub empty_slot : ℕ → ℕ × Option T
  empty_slot k = (k, None)

  -- what the fields of a board keep: its table's words and slots, and room for what the close hands out
  pub record IsBoard (table : TableId) (start : Start T) (pieces room : ℕ) (drawn : List (Option ℕ)) (unfinished : List Bool) : Type 0 where
    pub words : table.words ≡ 2
    pub slots : table.slots ≡ pieces
    pub given : length start.given.value.items ≡ pieces
    pub some_turn : 0 < start.turns
    pub space : room ≡ pieces
    pub unclaimed : AreClaims {T = T} pieces [] drawn unfinished

  -- what the fields of a turn keep: its seat's view has its record alone, and its lists are of the numbers in that record
  pub record IsTurn (table : TableId) (me : Me (Option T) (View T)) (number : ℕ) (drawn : List ℕ) (drawn_room : ℕ) (held : List ℕ) (held_room : ℕ) (ended : Bool) : Type 0 where
    -- the seat's view has the record of this turn, and the slots of the numbers that the turn holds, empty
    pub alone : me.0.records ≡ only me.0.records ∷ []
    pub full : me.0.filled ≡ table.slots
    pub named : (only me.0.records).turn ≡ number
    pub carries : me.1 ≡ map empty_slot held
    -- a number is held where it was drawn and not finished, and drawn once at most
    pub counts : (k : ℕ) → total (draws k) (only me.0.records).entries ≡ total (finishes k) (only me.0.records).entries + times k held
    pub drawn_is : (k : ℕ) → times k drawn ≡ total (draws k) (only me.0.records).entries
    pub once : (k : ℕ) → times k drawn ≤ 1
    -- all of them are numbers of the board
    pub drawn_inside : All (λ k. k < table.slots) drawn
    pub held_inside : All (λ k. k < table.slots) held
    -- until the turn is told that none is left, it may be told so
    pub leaves : ended ≡ false → (0 < me.0.leave) × (total nones (only me.0.records).entries ≡ 0)
    pub told_so : ended ≡ true → 0 < total nones (only me.0.records).entries
    -- numbers rise, so there is room for all that are drawn
    pub few : (n : ℕ) → Each (DrawsBelow n) (only me.0.records).entries → length drawn ≤ n
    pub fewer : length held ≤ length drawn
    pub room : table.slots ≤ drawn_room
    pub room_to_hold : table.slots ≤ held_room

  -- a seat of this table, which has so many slots, with the view of one turn
  abbrev pub IsTurnSeat : TableId → ℕ → TableId → View T → Type 0
  IsTurnSeat table pieces at v =
      (table.words ≡ 2) × (table.slots ≡ pieces) × (at ≡ table) × (v.records ≡ only v.records ∷ []) × (v.filled ≡ table.slots)
