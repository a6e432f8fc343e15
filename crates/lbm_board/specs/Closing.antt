-- What is known on the way from the last call to what a closed board hands out. For private functions alone: no public contract rests on it.
use Rattle.std.specs.Prelude.{◌≡◌, ℕ, ◌<◌, ltb, cond, Bool, List, [], ◌∷◌, length, Option, Some, None, slice_get}
use Rattle.lbm_board.specs.declared.record.Record.{Record}
use Rattle.lbm_board.specs.Lists.{Each, total}
use Rattle.lbm_board.specs.Entries.{draws}
use Rattle.lbm_board.specs.BoardRecord.{times_drawn, times_finished, least_report, FinishesItsDraws, BoardRecord, IsInPlace}

module _ {T : Type 0} where
  -- the slots of a closed table: a finished piece is in its place, and so is one that was not drawn
  pub record IsClosedTable (given : List T) (records : List (Record T)) (least : ℕ) (slots : List (Option T)) : Type 0 where
    pub agree : BoardRecord (length given) records
    pub least_is : least ≡ least_report records
    pub long : length slots ≡ length given
    pub finished : Each (λ r. Each (IsInPlace slots) r.entries) records
    pub first : (k : ℕ) (x : T) → times_drawn k records ≡ 0 → slice_get given k ≡ Some x → slice_get slots k ≡ Some (Some x)

  -- the turn of the first record that draws k
  abbrev pub turn_of : ℕ → List (Record T) → Option ℕ
  turn_of k [] = None
  turn_of k (r ∷ rs) = cond (ltb 0 (total (draws k) r.entries)) (Some r.turn) (turn_of k rs)

  -- whether k is drawn more often than it is finished
  abbrev pub is_unfinished : ℕ → List (Record T) → Bool
  is_unfinished k records = ltb (times_finished k records) (times_drawn k records)

  -- for each of so many numbers the turn that drew it, and whether it was drawn and not finished
  pub record AreClaims (pieces : ℕ) (records : List (Record T)) (drawn : List (Option ℕ)) (unfinished : List Bool) : Type 0 where
    pub finished : Each FinishesItsDraws records
    pub turns : (k : ℕ) → k < pieces → slice_get drawn k ≡ Some (turn_of k records)
    pub flags : (k : ℕ) → k < pieces → slice_get unfinished k ≡ Some (is_unfinished k records)
    pub as_many : (length drawn ≡ pieces) × (length unfinished ≡ pieces)

  -- the slots, with nothing where the flag is set
  abbrev pub without : List Bool → List (Option T) → List (Option T)
  without (b ∷ bs) (x ∷ xs) = cond b None x ∷ without bs xs
  without _ _ = []
