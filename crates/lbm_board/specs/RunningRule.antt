-- The running rule of a board: what holds of its table between any two steps. The proofs rest on it, and no public contract does.
-- Word 0 counts the claims and word 1 is the least report. Slot k is at home, or out with the turn that holds piece k.
use Rattle.std.specs.Prelude.{◌≡◌, ◌⊎◌, ℕ, ◌+◌, ◌<◌, ◌≤◌, min, max, Bool, true, false, List, [], ◌∷◌, length, slice_index, Option, Some, None}
use mathlib.Core.Option.{some, none}
use mathlib.Core.Option as maybe
use lib.ListN.{get_elem?}
use Rattle.atomic_table.specs.Table.{State}
use Rattle.lbm_board.specs.declared.record.Entry.{Entry}
use Rattle.lbm_board.specs.declared.record.Entry.TheVariants.{Draw, Finish, Look, NoneLeft}
use Rattle.lbm_board.specs.declared.record.Record.{Record}
use Rattle.lbm_board.specs.declared.record.View.{View}
use Rattle.lbm_board.specs.Lists.{Each, total}
use Rattle.lbm_board.specs.Entries.{greatest, one_if_same, one_if_below, draws, finishes, reports, record_of}
use Rattle.lbm_board.specs.BoardRecord.{in_record, AnswersAtMostOwn, FinishesItsDraws}

module _ {T : Type 0} where
  -- P holds of each record in the views
  abbrev pub EachRecord : (Record T → Type 0) → List (View T) → Type 0
  EachRecord P views = Each (λ v. Each P v.records) views

  -- P holds of each entry of each record in the views
  abbrev pub EachEntry : (Entry T → Type 0) → List (View T) → Type 0
  EachEntry P views = EachRecord (λ r. Each P r.entries) views

  -- the sum of f over the records of a view
  abbrev pub in_view : (Record T → ℕ) → View T → ℕ
  in_view f v = total f v.records

  -- the sum of f over the records in all views
  abbrev pub in_views : (Record T → ℕ) → List (View T) → ℕ
  in_views f views = total (in_view f) views

  -- the sum of f over the entries of all records in all views
  abbrev pub count : (Entry T → ℕ) → List (View T) → ℕ
  count f views = in_views (in_record f) views

  -- 1 for a record of this turn
  abbrev pub of_turn : ℕ → Record T → ℕ
  of_turn turn r = one_if_same r.turn turn

  -- 1 for each record
  abbrev pub each_one : Record T → ℕ
  each_one r = 1

  -- how often the view may still be told that no piece is left
  abbrev pub leave_of : View T → ℕ
  leave_of v = v.leave

  -- what an entry says of the claims, the least report and the slots
  abbrev pub EntryHolds : ℕ → ℕ → ℕ → List (maybe.Option (Option T)) → Entry T → Type 0
  EntryHolds claims least pieces homes (Draw k own) = (k < claims) × (k < pieces) × (least ≤ own)
  EntryHolds claims least pieces homes (Finish k piece report answer last) =
      (k < claims) × (least ≤ report) × (least ≤ answer) × (last ≤ claims) × (last ≤ pieces)
      × (get_elem? homes k ≡ some (some (Some piece)))
  EntryHolds claims least pieces homes (Look answer last) = (least ≤ answer) × (last ≤ claims) × (last ≤ pieces)
  EntryHolds claims least pieces homes NoneLeft = pieces ≤ claims

  -- a view, unless a join has left it spent, has filled all slots
  abbrev pub HasFilled : List T → View T → Type 0
  HasFilled given v = 0 < length v.records → (v.given ≡ given) × (v.filled ≡ length given) × (v.filling ≡ false)

  -- a view with the record of turn 0 counts the turns that were made
  abbrev pub CountsTurns : List (View T) → View T → Type 0
  CountsTurns views v =
      0 < in_view (of_turn 0) v → EachRecord (λ r. r.turn < v.made) views × (in_views each_one views ≤ v.made)

  -- all slots have had their first pieces, and the turns make their calls
  pub record Running (turns : ℕ) (given : List T) (claims least : ℕ) (homes : List (maybe.Option (Option T))) (views : List (View T)) : Type 0 where
    pub slots : length homes ≡ length given
    -- each number below the claims was drawn once, and no other
    pub drawn : (k : ℕ) → count (draws k) views ≡ one_if_below k (min claims (length given))
    -- the claims past the last piece, and those that may still come, are no more than the turns
    pub room : max claims (length given) + total leave_of views ≤ length given + turns
    -- what each entry says holds of the words and the slots
    pub entries : EachEntry (EntryHolds claims least (length given) homes) views
    -- each finished number was drawn in the same record
    pub finished : EachRecord FinishesItsDraws views
    -- word 1 is the least of all reports, or the greatest u64
    pub bound : least ≤ greatest
    pub reported : (least ≡ greatest) ⊎ (0 < count (reports least) views)
    -- an answer is at most the own of each draw of a lower number than its turn had drawn
    pub at_most_own : EachEntry (λ e. EachEntry (AnswersAtMostOwn e) views) views
    -- a slot has its first piece until its number is drawn, and is out until that is finished
    pub first : (k : ℕ) (x : T) → claims ≤ k → get_elem? given k ≡ some x → get_elem? homes k ≡ some (some (Some x))
    pub out : (k : ℕ) → k < claims → k < length given → count (finishes k) views ≡ 0 → get_elem? homes k ≡ some none
    -- each view has filled all slots, and no two records are of one turn
    pub filled : Each (HasFilled given) views
    pub apart : (turn : ℕ) → in_views (of_turn turn) views ≤ 1
    -- there are no more records than turns, and the view with turn 0 counts them
    pub few : in_views each_one views ≤ turns
    pub made : Each (CountsTurns views) views
    -- no view has made more turns than there are
    pub most_made : Each (λ v. v.made ≤ turns) views
    pub small : length given + turns < greatest

  -- the one view while the slots get their first pieces
  abbrev pub opening_view : ℕ → List T → ℕ → Bool → View T
  opening_view turns given filled filling =
      record { records = record_of 0 [] ∷ []; leave = turns; filled = filled; made = 1; filling = filling; given = given }

  -- the view of the first seat
  abbrev pub first_view : ℕ → List T → View T
  first_view turns given = opening_view turns given 0 false

  -- some slots have had their first pieces, and there is one view
  pub record Opening (turns : ℕ) (given : List T) (claims least : ℕ) (homes : List (maybe.Option (Option T))) (views : List (View T)) : Type 0 where
    pub filled : ℕ
    pub filling : Bool
    -- there is one view, which has filled so many slots and may be filling the next
    pub alone : views ≡ opening_view turns given filled filling ∷ []
    pub some_left : filled < length given
    pub slots : length homes ≡ length given
    -- nothing was claimed or reported
    pub none_claimed : claims ≡ 0
    pub none_reported : least ≡ greatest
    -- the slots before the next have their first pieces, those after it nothing, and the next is out while it is filled
    pub full : (k : ℕ) (x : T) → k < filled → get_elem? given k ≡ some x → get_elem? homes k ≡ some (some (Some x))
    pub empty : (k : ℕ) → filled < k → k < length given → get_elem? homes k ≡ some (some None)
    pub next : filling ≡ false → get_elem? homes filled ≡ some (some None)
    pub taken : filling ≡ true → get_elem? homes filled ≡ some none
    pub some_turn : 0 < turns
    pub small : length given + turns < greatest

  -- the board is being filled, or it runs
  abbrev pub Phase : ℕ → List T → ℕ → ℕ → List (maybe.Option (Option T)) → List (View T) → Type 0
  Phase turns given claims least homes views =
      Opening turns given claims least homes views ⊎ Running turns given claims least homes views

  -- the rule, for a table of two words
  abbrev pub RunningRule : ℕ → List T → State (Option T) (View T) → Type 0
  RunningRule turns given s =
      (length s.words ≡ 2) × Phase turns given (slice_index s.words 0) (slice_index s.words 1) s.homes s.views
