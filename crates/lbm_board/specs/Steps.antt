-- What each kind of step at a board's table tells the seat that makes it. For private functions alone: no public contract rests on it.
use Rattle.std.specs.Prelude.{◌≡◌, ℕ, ◌+◌, ◌-◌, ◌<◌, ◌≤◌, min, max, true, false, List, [], ◌∷◌, ◌++◌, drop, Option, Some, None}
use mathlib.Core.Option.{some}
use lib.ListN.{get_elem?}
use Rattle.atomic_table.specs.Table.{Me, Step}
use Rattle.lbm_board.specs.declared.record.Entry.{Entry}
use Rattle.lbm_board.specs.declared.record.Entry.TheVariants.{Draw, Finish, Look, NoneLeft}
use Rattle.lbm_board.specs.declared.record.Record.{Record}
use Rattle.lbm_board.specs.declared.record.View.{View}
use Rattle.lbm_board.specs.Lists.{Each, total}
use Rattle.lbm_board.specs.Entries.{nones, reported, told, latest, DrawsBelow, record_of, only, with_entry}
use Rattle.lbm_board.specs.BoardRecord.{AreApart}
use Rattle.lbm_board.specs.RunningRule.{opening_view}

-- a seat's view and the slots that it holds
abbrev SeatState : Type 0 → Type 0
SeatState T = Me (Option T) (View T)

module _ {T : Type 0} where
  -- the view after one more entry of its turn
  abbrev pub after_entry : View T → Record T → Entry T → View T
  after_entry v r e = record v { records = with_entry r e ∷ [] }

  -- the view after its turn was told that no piece is left
  abbrev pub after_none : View T → Record T → View T
  after_none v r = record v { records = with_entry r NoneLeft ∷ []; leave = v.leave - 1 }

  -- the view of a turn after it draws a number
  abbrev pub view_after_draw : View T → ℕ → View T
  view_after_draw v n = after_entry v (only v.records) (Draw n (reported (only v.records).entries))

  -- the view of a turn after it finishes a number, on a board with so many pieces
  abbrev pub view_after_finish : ℕ → View T → ℕ → T → ℕ → ℕ → View T
  view_after_finish pieces v n piece report answer =
      after_entry v (only v.records) (Finish n piece report answer (latest pieces (only v.records).entries))

  -- the view of a turn after it looks
  abbrev pub view_after_look : ℕ → View T → ℕ → View T
  view_after_look pieces v answer = after_entry v (only v.records) (Look answer (latest pieces (only v.records).entries))

  -- a claim: the number found is drawn and its slot taken, with its first piece; or no piece is left
  abbrev pub IsClaim : ℕ → SeatState T → ℕ → SeatState T → Record T → Type 0
  IsClaim pieces me n me' r =
      (n < pieces → (x : T) × (get_elem? me.0.given n ≡ some x)
      × (me' ≡ (after_entry me.0 r (Draw n (reported r.entries)), (n, Some x) ∷ me.1)) × Each (DrawsBelow n) r.entries)
      × (pieces ≤ n → me' ≡ (after_none me.0 r, me.1))

  -- what a claim tells a seat with one record
  abbrev pub Claimed : Step (Option T) → SeatState T → ℕ → SeatState T → Type 0
  Claimed st me n me' = (r : Record T) → me.0.records ≡ r ∷ [] → IsClaim st.slots me n me' r

  -- a finish: the slot that was taken last is given back with its piece, and the report counts
  abbrev pub IsFinish : ℕ → ℕ → SeatState T → ℕ → SeatState T → Record T → Type 0
  IsFinish pieces report me least me' r =
      (k : ℕ) (x : T) (rest : List (ℕ × Option T)) → me.1 ≡ (k, Some x) ∷ rest
      → (me' ≡ (after_entry me.0 r (Finish k x report (min least report) (latest pieces r.entries)), rest)) × (least ≤ told r.entries)

  -- what a finish tells a seat with one record
  abbrev pub Finished : Step (Option T) → SeatState T → ℕ → SeatState T → Type 0
  Finished st me least me' = (r : Record T) → me.0.records ≡ r ∷ [] → IsFinish st.slots st.first me least me' r

  -- a look: the least report so far is the answer
  abbrev pub IsLook : ℕ → SeatState T → ℕ → SeatState T → Record T → Type 0
  IsLook pieces me least me' r = (me' ≡ (after_entry me.0 r (Look least (latest pieces r.entries)), me.1)) × (least ≤ told r.entries)

  -- what a look tells a seat with one record
  abbrev pub Looked : Step (Option T) → SeatState T → ℕ → SeatState T → Type 0
  Looked st me least me' = (r : Record T) → me.0.records ≡ r ∷ [] → IsLook st.slots me least me' r

  -- a filling takes the next slot, which is empty
  abbrev pub TookToFill : Step (Option T) → SeatState T → ℕ → SeatState T → Type 0
  TookToFill st me n me' =
      me' ≡ (opening_view me.0.leave me.0.given me.0.filled true, (me.0.filled, None) ∷ me.1)

  -- a filling gives the slot back with its first piece
  abbrev pub GaveFilled : Step (Option T) → SeatState T → ℕ → SeatState T → Type 0
  GaveFilled st me n me' =
      (x : Option T) (rest : List (ℕ × Option T)) → me.1 ≡ (me.0.filled, x) ∷ rest
      → me' ≡ (opening_view me.0.leave me.0.given (me.0.filled + 1) false, rest)

  -- a view once it has made one more turn
  abbrev pub after_split : View T → View T
  after_split v = record v { leave = v.leave - 1; made = v.made + 1 }

  -- the view of the turn that it makes, which has an empty record
  abbrev pub new_view : View T → View T
  new_view v = record { records = record_of v.made [] ∷ []; leave = 1; filled = v.filled; made = 0; filling = false; given = v.given }

  -- two views as one, the records of the second first
  abbrev pub joined : View T → View T → View T
  joined v w = record v { records = w.records ++ v.records; leave = v.leave + w.leave; made = max v.made w.made }

  -- what a view leaves behind where another has taken all of it
  abbrev pub spent : View T
  spent = record { records = []; leave = 0; filled = 0; made = 0; filling = false; given = [] }

  -- a comparison: the records of the two turns that the seat stands for are apart, and nothing changes
  abbrev pub Compared : Step (Option T) → SeatState T → ℕ → SeatState T → Type 0
  Compared st me n me' = (me' ≡ me) × ((one two : Record T) → me.0.records ≡ two ∷ one ∷ [] → AreApart one two)

  -- how often the turn of this record may still be told that no piece is left
  abbrev pub may_end : Record T → ℕ
  may_end r = 1 - total nones r.entries

  -- a view without its first turn
  abbrev pub without_first : View T → View T
  without_first v = record v { records = drop 1 v.records; leave = v.leave - may_end (only v.records) }

  -- the view of its first turn
  abbrev pub first_alone : View T → View T
  first_alone v = record v { records = only v.records ∷ []; leave = may_end (only v.records) }

  -- a view of one turn, which may be told that no piece is left unless it was
  pub record IsLive (slots : ℕ) (v : View T) : Type 0 where
    pub alone : v.records ≡ only v.records ∷ []
    pub filled : v.filled ≡ slots
    pub leaves : total nones (only v.records).entries ≡ 0 → 0 < v.leave

  -- a view of the same turn
  pub record IsSameTurn (old new : View T) : Type 0 where
    pub records : new.records ≡ old.records
    pub filled : new.filled ≡ old.filled
    pub given : new.given ≡ old.given
    pub leaves : total nones (only old.records).entries ≡ 0 → 0 < new.leave
