-- What the records of all turns of a board agree on, and what a closed board hands out.
use Rattle.std.specs.Prelude.{◌≡◌, ◌≢◌, ℕ, ◌<◌, ◌≤◌, min, List, [], ◌∷◌, length, Option, Some, None, slice_get}
use Rattle.lbm_board.specs.declared.record.Entry.{Entry}
use Rattle.lbm_board.specs.declared.record.Entry.TheVariants.{Draw, Finish, Look, NoneLeft}
use Rattle.lbm_board.specs.declared.record.Record.{Record}
use Rattle.lbm_board.specs.Lists.{Each, total}
use Rattle.lbm_board.specs.Entries.{greatest, one_if_below, draws, finishes, reported, told, Holds}

module _ {T : Type 0} where
  -- the sum of f over the entries of a record
  abbrev pub in_record : (Entry T → ℕ) → Record T → ℕ
  in_record f r = total f r.entries

  -- how often number k is drawn in all records
  abbrev pub times_drawn : ℕ → List (Record T) → ℕ
  times_drawn k records = total (in_record (draws k)) records

  -- how often number k is finished in all records
  abbrev pub times_finished : ℕ → List (Record T) → ℕ
  times_finished k records = total (in_record (finishes k)) records

  -- the least of all reports, or the greatest u64
  abbrev pub least_report : List (Record T) → ℕ
  least_report [] = greatest
  least_report (r ∷ rs) = min (reported r.entries) (least_report rs)

  -- an entry says that no piece is left only where all are drawn
  abbrev pub EndsAt : ℕ → ℕ → Entry T → Type 0
  EndsAt pieces drawn NoneLeft = drawn ≡ pieces
  EndsAt pieces drawn _ = Unit {0}

  -- the record finishes no number more often than it draws it
  abbrev pub FinishesItsDraws : Record T → Type 0
  FinishesItsDraws r = (k : ℕ) → total (finishes k) r.entries ≤ total (draws k) r.entries

  -- an answer is at most the `own` of a draw whose number is below `last`
  abbrev pub AtMostOwn : ℕ → ℕ → Entry T → Type 0
  AtMostOwn answer last (Draw n own) = n < last → answer ≤ own
  AtMostOwn answer last _ = Unit {0}

  -- the same of the answer of an entry, if it has one
  abbrev pub AnswersAtMostOwn : Entry T → Entry T → Type 0
  AnswersAtMostOwn (Finish n piece report answer last) d = AtMostOwn answer last d
  AnswersAtMostOwn (Look answer last) d = AtMostOwn answer last d
  AnswersAtMostOwn _ d = Unit {0}

  -- the records of all turns of a board with so many pieces agree
  pub record BoardRecord (pieces : ℕ) (records : List (Record T)) : Type 0 where
    -- the numbers below `drawn` were drawn, each once
    pub drawn : ℕ
    pub within : drawn ≤ pieces
    pub once : (k : ℕ) → times_drawn k records ≡ one_if_below k drawn
    -- a turn was told that none is left only where all were drawn
    pub ends : Each (λ r. Each (EndsAt pieces drawn) r.entries) records
    -- each number was finished by the turn that drew it, and once
    pub finished : Each FinishesItsDraws records
    -- no turn was told less than what was reported
    pub least : Each (λ r. least_report records ≤ told r.entries) records
    -- each answer is at most what each turn had reported before it drew a number below one that the answered turn had drawn
    pub at_most_own : Each (λ r. Each (λ e. Each (λ q. Each (AnswersAtMostOwn e) q.entries) records) r.entries) records

  -- the records of two turns of one board, at any time: no piece is held by both
  pub record AreApart (one two : Record T) : Type 0 where
    pub turns : one.turn ≢ two.turn
    -- what one has drawn the other has not
    pub drawn : (k : ℕ) → 0 < total (draws k) one.entries → total (draws k) two.entries ≡ 0
    pub held : (k : ℕ) → Holds k one → ¬ Holds k two

  -- a piece that the entry finishes is in its place
  abbrev pub IsInPlace : List (Option T) → Entry T → Type 0
  IsInPlace pieces (Finish k piece report answer last) = slice_get pieces k ≡ Some (Some piece)
  IsInPlace pieces _ = Unit {0}

  -- a number that the entry draws has this turn
  abbrev pub HasTurn : List (Option ℕ) → ℕ → Entry T → Type 0
  HasTurn turns turn (Draw k own) = slice_get turns k ≡ Some (Some turn)
  HasTurn turns turn _ = Unit {0}

  -- what a board that was started with `given` hands out at its close, where its turns have these records
  pub record IsClosed (given : List T) (records : List (Record T)) (pieces : List (Option T)) (drawn : List (Option ℕ)) (least : ℕ) : Type 0 where
    pub agree : BoardRecord (length given) records
    pub least_is : least ≡ least_report records
    pub as_many : length pieces ≡ length given
    -- a finished piece is in its place, None where a piece was drawn and not finished, and the first piece where it was not drawn
    pub finished : Each (λ r. Each (IsInPlace pieces) r.entries) records
    pub unfinished : (k : ℕ) → times_finished k records < times_drawn k records → slice_get pieces k ≡ Some None
    pub untouched : (k : ℕ) (x : T) → times_drawn k records ≡ 0 → slice_get given k ≡ Some x → slice_get pieces k ≡ Some (Some x)
    pub as_many_turns : length drawn ≡ length given
    -- a number has the turn that drew it, or None where no turn did
    pub by_turn : Each (λ r. Each (HasTurn drawn r.turn) r.entries) records
    pub by_none : (k : ℕ) → k < length given → times_drawn k records ≡ 0 → slice_get drawn k ≡ Some None
