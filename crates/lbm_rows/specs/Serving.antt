-- How a worker finishes the tiles that it has claimed at a board, in a step from a time.
use Rattle.std.specs.Prelude.{◌≡◌, ◌⊎◌, ℕ, ◌*◌, ◌<◌, ◌≤◌, true, List, [], ◌∷◌, ◌++◌, Option, Some, length, slice_get}
use Rattle.lbm_walk.specs.First.{IsFirst}
use Rattle.lbm_board.specs.declared.record.Entry.{Entry}
use Rattle.lbm_board.specs.declared.record.Entry.TheVariants.{Finish}
use Rattle.lbm_board.specs.declared.record.Record.{Record}
use Rattle.lbm_board.specs.Lists.{total}
use Rattle.lbm_board.specs.Entries.{greatest, nones, told, Holds}
use Rattle.lbm_board.specs.Models.{BoardModel, TurnModel, IsTurnOf}
use Rattle.lbm_model.specs.Case.{FlowCase}
use Rattle.lbm_model.specs.Flow.{is_sound, post}
use Rattle.lbm_rows.specs.Lending.{TileModel, InTile, IsReady, IsSameShape, taken, sent}

-- Stepped: all cells are in limits, and what each sends stands where it sends it.
pub record IsStepped (case : FlowCase) (time : ℕ) (given piece : TileModel) (report : ℕ) : Type 0 where
  pub quiet : report ≡ greatest
  pub sound : (x : ℕ) → InTile case given x → is_sound case x (taken case time given x) ≡ true
  pub sent : (x i : ℕ) → InTile case given x → i < case.stencil.directions → sent case time piece x i ≡ post case x (taken case time given x) i

-- Bad: the report is the least cell out of limits.
abbrev pub IsBad : FlowCase → ℕ → (given : TileModel) → (report : ℕ) → Type 0
IsBad case time given report = IsFirst (λ x. is_sound case x (taken case time given x)) (given.first * case.torus.nx) (given.end * case.torus.nx) (Some report)

-- Passed over: the turn had been told of a cell before the first one, and the tile is as it was given.
pub record IsPassedOver (case : FlowCase) (given piece : TileModel) (report told : ℕ) : Type 0 where
  pub quiet : report ≡ greatest
  pub same : piece ≡ given
  pub before : told < given.first * case.torus.nx

-- a tile is finished in one of the three ways
pub record IsFinished (case : FlowCase) (time : ℕ) (given piece : TileModel) (report told : ℕ) : Type 0 where
  pub shape : IsSameShape given piece
  pub way : IsStepped case time given piece report ⊎ IsBad case time given report ⊎ IsPassedOver case given piece report told

-- an entry of a turn's record, behind others, if it is a finish, finishes a tile of those that were given to the board
abbrev pub FinishesWell : FlowCase → ℕ → (given : List TileModel) → (before : List (Entry TileModel)) → Entry TileModel → Type 0
FinishesWell case time given before (Finish number piece report answer last) =
    (tile : TileModel) × (slice_get given number ≡ Some tile) × IsFinished case time tile piece report (told before)
FinishesWell case time given before _ = Unit {0}

-- the same of each of these entries behind others
abbrev pub AllFinishWell : FlowCase → ℕ → (given : List TileModel) → (before more : List (Entry TileModel)) → Type 0
AllFinishWell case time given before [] = Unit {0}
AllFinishWell case time given before (e ∷ es) = FinishesWell case time given before e × AllFinishWell case time given (before ++ e ∷ []) es

-- the calls of a turn that serves: it has finished well each piece that it has drawn in them
pub record HasServed (case : FlowCase) (time : ℕ) (given : List TileModel) (old new : Record TileModel) : Type 0 where
  pub turn : new.turn ≡ old.turn
  pub more : List (Entry TileModel)
  pub grown : new.entries ≡ old.entries ++ more
  pub well : AllFinishWell case time given old.entries more
  pub none_held : (k : ℕ) → Holds k new → ⊥

-- a turn may serve: it is of the board and holds nothing, and the board was started with tiles of the case
pub record CanServe (case : FlowCase) (time : ℕ) (board : BoardModel TileModel) (turn : TurnModel TileModel) : Type 0 where
  pub of_board : IsTurnOf board turn
  pub free : (k : ℕ) → Holds k turn.log → ⊥
  pub tiles : (k : ℕ) (tile : TileModel) → slice_get board.given k ≡ Some tile → IsReady case time tile

-- it has served until it was told that no tile is left
pub record HasWorkedOff (case : FlowCase) (time : ℕ) (board : BoardModel TileModel) (old new : TurnModel TileModel) : Type 0 where
  pub of_board : IsTurnOf board new
  pub served : HasServed case time board.given old.log new.log
  pub ended : 0 < total nones new.log.entries

-- tile k was finished at a board whose turns have all served: no report is below `least`, and the turn had been told no less than `bound`
pub record IsDone (case : FlowCase) (time : ℕ) (given : List TileModel) (pieces : List (Option TileModel)) (bound least k : ℕ) : Type 0 where
  pub tile : TileModel
  pub piece : TileModel
  pub report : ℕ
  pub knew : ℕ
  pub is : slice_get given k ≡ Some tile
  pub in_place : slice_get pieces k ≡ Some (Some piece)
  pub well : IsFinished case time tile piece report knew
  pub above : least ≤ report
  pub told_more : bound ≤ knew

-- the close of such a board: each tile was finished, and the least report is the least cell out of limits of one of them, where there is one
pub record IsWorkedOff (case : FlowCase) (time : ℕ) (given : List TileModel) (pieces : List (Option TileModel)) (least : ℕ) : Type 0 where
  pub as_many : length pieces ≡ length given
  pub done : (k : ℕ) → k < length given → IsDone case time given pieces least least k
  pub bad : (least ≡ greatest) ⊎ ((k : ℕ) × (tile : TileModel) × (slice_get given k ≡ Some tile) × IsBad case time tile least)
