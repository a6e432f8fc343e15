-- The record of a turn as it serves.
use Rattle.std.proofs.Common.{◌≡◌, ℕ, ◌+◌, ◌<◌, List, [], ◌∷◌, ◌++◌, length, append_assoc, append-nil, refl, ap, sym, ◌∙◌, subst, arith, Some, slice_get, inl, inr}
use Rattle.std.proofs.lemmas.Bool.{cases_eq}
use Rattle.lbm_board.specs.declared.record.Entry.{Entry}
use Rattle.lbm_board.specs.declared.record.Entry.TheVariants.{Draw, Finish, Look, NoneLeft}
use Rattle.lbm_board.specs.declared.record.Record.{Record}
use Rattle.lbm_board.specs.Lists.{total}
use Rattle.lbm_board.specs.Entries.{draws, finishes, nones, told, with_entry, Holds}
use Rattle.lbm_board.specs.Models.{TurnModel, EndsTurn}
use Rattle.lbm_board.proofs.Ends.{next_number, left_to_draw}
use Rattle.lbm_board.proofs.Lists.{total_append}
use Rattle.lbm_board.proofs.Counts.{other_counts_not}
use Rattle.lbm_model.specs.Case.{FlowCase}
use Rattle.lbm_rows.specs.Lending.{TileModel}
use Rattle.lbm_rows.specs.Serving.{IsFinished, FinishesWell, AllFinishWell, HasServed}

module _ (case : FlowCase) (time : ℕ) (given : List TileModel) where
  -- one entry more
  well_more : (before es : List (Entry TileModel)) (e : Entry TileModel) → AllFinishWell case time given before es → FinishesWell case time given (before ++ es) e → AllFinishWell case time given before (es ++ e ∷ [])
  well_more before [] e all this = (subst (λ (l : List (Entry TileModel)). FinishesWell case time given l e) (append-nil before) this, tt)
  well_more before (x ∷ es) e all this =
      (all.0, well_more (before ++ x ∷ []) es e all.1 (subst (λ (l : List (Entry TileModel)). FinishesWell case time given l e) (sym (append_assoc before (x ∷ []) es)) this))

  count_more : (f : Entry TileModel → ℕ) (r r' : Record TileModel) (e : Entry TileModel) → r' ≡ with_entry r e → total f r'.entries ≡ total f r.entries + f e
  count_more f r r' e is = let a = total_append f r.entries (e ∷ []) in ap (λ (x : Record TileModel). total f x.entries) is ∙ omega arith

  -- what is said of its calls, but that it holds none
  abbrev Calls : Record TileModel → Record TileModel → Type 0
  Calls old new = (new.turn ≡ old.turn) × (more : List (Entry TileModel)) × (new.entries ≡ old.entries ++ more) × AllFinishWell case time given old.entries more

  calls_more : (old now new : Record TileModel) (e : Entry TileModel) → Calls old now → new ≡ with_entry now e → FinishesWell case time given now.entries e → Calls old new
  calls_more old now new e so is well = (
    ap (λ (r : Record TileModel). r.turn) is ∙ so.0,
    so.1 ++ e ∷ [],
    ap (λ (r : Record TileModel). r.entries) is ∙ ap (λ (l : List (Entry TileModel)). l ++ e ∷ []) so.2 ∙ append_assoc old.entries so.1 (e ∷ []),
    well_more old.entries so.1 e so.3 (subst (λ (l : List (Entry TileModel)). FinishesWell case time given l e) so.2 well),
  )

  -- before the first call
  pub served_none : (r : Record TileModel) → ((k : ℕ) → Holds k r → ⊥) → HasServed case time given r r
  served_none r free = record { turn = refl; more = []; grown = sym (append-nil r.entries); well = tt; none_held = free }

  -- a tile more, from its claim to its finish
  pub served_more : (old now drawn looked finished : Record TileModel) (number own told_so last report answer late : ℕ) (tile piece : TileModel) → HasServed case time given old now
      → drawn ≡ with_entry now (Draw number own) → looked ≡ with_entry drawn (Look told_so last) → finished ≡ with_entry looked (Finish number piece report answer late)
      → slice_get given number ≡ Some tile → told looked.entries ≡ told_so → IsFinished case time tile piece report told_so → (Holds number finished → ⊥) → HasServed case time given old finished
  served_more old now drawn looked finished number own told_so last report answer late tile piece so draw look finish is knows well over =
      let calls : Calls old finished =
      calls_more old looked finished (Finish number piece report answer late)
      (calls_more old drawn looked (Look told_so last) (calls_more old now drawn (Draw number own) (so.turn, so.more, so.grown, so.well) draw tt) look tt)
      finish (tile, is, subst (λ (m : ℕ). IsFinished case time tile piece report m) (sym knows) well) in
      record {
        turn = calls.0;
        more = calls.1;
        grown = calls.2;
        well = calls.3;
        none_held = λ k holds. elim (cases_eq number k) [
          | inl same ↦ over (subst (λ (m : ℕ). Holds m finished) (sym same) holds)
          | inr ne ↦ so.none_held k (
              let zero_draw = other_counts_not number k ne in
              let d1 = count_more (draws k) now drawn (Draw number own) draw in let d2 = count_more (draws k) drawn looked (Look told_so last) look in let d3 = count_more (draws k) looked finished (Finish number piece report answer late) finish in
              let f1 = count_more (finishes k) now drawn (Draw number own) draw in let f2 = count_more (finishes k) drawn looked (Look told_so last) look in let f3 = count_more (finishes k) looked finished (Finish number piece report answer late) finish in
              omega arith)
        ];
      }

  -- the end: the turn is told that none is left, or was told so before
  pub none_more : (old : Record TileModel) (now new : TurnModel TileModel) → HasServed case time given old now.log → EndsTurn now new → HasServed case time given old new.log
  none_more old now new so ends = elim (cases_eq (total nones now.log.entries) 0) [
    | inr some ↦ subst (λ (t : TurnModel TileModel). HasServed case time given old t.log) (sym (ends.before (omega arith))) so
    | inl none ↦ (let is = ends.now none in let calls = calls_more old now.log new.log NoneLeft (so.turn, so.more, so.grown, so.well) is tt in record {
      turn = calls.0;
      more = calls.1;
      grown = calls.2;
      well = calls.3;
      none_held = λ k holds. so.none_held k (
          let d = count_more (draws k) now.log new.log NoneLeft is in let f = count_more (finishes k) now.log new.log NoneLeft is in
          omega arith);
    })
  ]

pub ended_now : (now new : TurnModel TileModel) → EndsTurn now new → 0 < total nones new.log.entries
ended_now now new ends = elim (cases_eq (total nones now.log.entries) 0) [
  | inr some ↦ subst (λ (t : TurnModel TileModel). 0 < total nones t.log.entries) (sym (ends.before (omega arith))) (omega arith)
  | inl none ↦ (let c = total_append nones now.log.entries (NoneLeft ∷ []) in let e = ap (λ (r : Record TileModel). total nones r.entries) (ends.now none) in omega arith)
]

-- a look leaves as many to draw
next_after_look : (answer last : ℕ) (es : List (Entry TileModel)) → next_number (es ++ Look answer last ∷ []) ≡ next_number es
next_after_look answer last [] = refl
next_after_look answer last (Draw n own ∷ es) = let rest = next_after_look answer last es in omega arith
next_after_look answer last (Finish n piece before other late ∷ es) = next_after_look answer last es
next_after_look answer last (Look before late ∷ es) = next_after_look answer last es
next_after_look answer last (NoneLeft ∷ es) = next_after_look answer last es

pub look_leaves_as_many : (old new : TurnModel TileModel) (answer last : ℕ) → new.given ≡ old.given → new.log ≡ with_entry old.log (Look answer last) → left_to_draw new ≡ left_to_draw old
look_leaves_as_many old new answer last same is =
    let next = ap (λ (r : Record TileModel). next_number r.entries) is ∙ next_after_look answer last old.log.entries in
    let many : length new.given ≡ length old.given = ap length same in
    omega arith
