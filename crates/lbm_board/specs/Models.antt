-- What contracts see of a board and of a turn, and what a claim does to a turn.
use Rattle.std.specs.Prelude.{◌≡◌, ℕ, ◌<◌, List, [], Some, slice_get}
use Rattle.atomic_table.specs.Seated.{TableId}
use Rattle.lbm_board.specs.declared.record.Entry.TheVariants.{Draw, NoneLeft}
use Rattle.lbm_board.specs.declared.record.Record.{Record}
use Rattle.lbm_board.specs.declared.record.View.{View}
use Rattle.lbm_board.specs.declared.rule.Start.{Start}
use Rattle.lbm_board.specs.Lists.{Each, total}
use Rattle.lbm_board.specs.Entries.{nones, reported, DrawsBelow, record_of, only, with_entry}

-- what contracts see of a board: its table, the pieces with which it was started, and how many turns it has
pub record BoardModel (T : Type 0) : Type 0 where
  pub table : TableId
  pub given : List T
  pub turns : ℕ

-- what contracts see of a turn: the table and the first pieces of its board, and the record of its calls
pub record TurnModel (T : Type 0) : Type 0 where
  pub table : TableId
  pub given : List T
  pub log : Record T

module _ {T : Type 0} where
  -- a board with this table, which was started so
  abbrev pub board_model : TableId → Start T → BoardModel T
  board_model table start = record { table = table; given = start.given.value.items; turns = start.turns }

  -- a turn at this table with this view
  abbrev pub turn_model : TableId → View T → TurnModel T
  turn_model table v = record { table = table; given = v.given; log = only v.records }

  -- the record of a turn
  abbrev pub log_of : TurnModel T → Record T
  log_of t = t.log

  -- the turn is of this board
  abbrev pub IsTurnOf : BoardModel T → TurnModel T → Type 0
  IsTurnOf b t = (t.table ≡ b.table) × (t.given ≡ b.given)

  -- a turn of this number that has made no call
  abbrev pub fresh_turn : TableId → List T → ℕ → TurnModel T
  fresh_turn table given number = record { table = table; given = given; log = record_of number [] }

  -- a turn draws a number greater than each that it has drawn, with the piece as it was given; it has not been told that none is left
  pub record Draws (b : BoardModel T) (old : TurnModel T) (number : ℕ) (piece : T) (new : TurnModel T) : Type 0 where
    pub piece_is : slice_get b.given number ≡ Some piece
    pub greater : Each (DrawsBelow number) old.log.entries
    pub not_ended : total nones old.log.entries ≡ 0
    pub log_is : new.log ≡ with_entry old.log (Draw number (reported old.log.entries))

  -- a turn is told that no piece is left. Its record has that once
  pub record EndsTurn (old new : TurnModel T) : Type 0 where
    pub now : total nones old.log.entries ≡ 0 → new.log ≡ with_entry old.log NoneLeft
    pub before : 0 < total nones old.log.entries → new ≡ old
