-- What a step answers, and what its kept rows have then, by what has become of each tile.
use Rattle.std.proofs.Common.{◌≡◌, ℕ, ◌+◌, ◌*◌, ◌<◌, ◌≤◌, true, false, List, [], ℤ, length, slice_get, Some, refl, sym, ◌∙◌, subst, arith, inl, inr}
use Rattle.std.specs.Prelude.{Option, None, slice_index_or}
use Rattle.std.proofs.lemmas.Option.{slice_get_within}
use Rattle.lbm_space.specs.Torus.{cells}
use Rattle.lbm_cell.proofs.Agreement.{Agree}
use Rattle.lbm_walk.specs.First.{IsFirst}
use Rattle.lbm_board.specs.Entries.{greatest}
use Rattle.lbm_model.specs.Case.{FlowCase, IsCase, target}
use Rattle.lbm_model.specs.Flow.{is_sound}
use Rattle.lbm_model.proofs.Local.{is_sound-agree, post-agree}
use Rattle.lbm_sweep.specs.Steps.{AreMade}
use Rattle.lbm_sweep.proofs.Places.{cells_between}
use Rattle.lbm_rows.specs.Kept.{population_kept}
use Rattle.lbm_rows.specs.Lending.{TileModel, height, entry_number, IsLent, IsReady, InTile, taken}
use Rattle.lbm_rows.specs.Serving.{IsStepped, IsBad, IsFinished, IsDone}
use Rattle.lbm_rows.proofs.TileCells.{in_tile, known_cells, few_of_tile}
use Rattle.lbm_rows.proofs.KeptSteps.{taken_kept, sent_kept}

-- kept, new    the kept rows before the step, and with all rows back
module _ (case : FlowCase) (allowed : IsCase case) (time : ℕ) (kept new : List (List ℤ)) (given : List TileModel) (pieces : List (Option TileModel)) (least : ℕ)
    (ready : (k : ℕ) (tile : TileModel) → slice_get given k ≡ Some tile → IsReady case time tile)
    (lent : (k : ℕ) (tile : TileModel) → slice_get given k ≡ Some tile → IsLent case time kept tile)
    (covers : (x : ℕ) → x < cells case.torus → (k : ℕ) × (tile : TileModel) × (slice_get given k ≡ Some tile) × InTile case tile x)
    (done : (k : ℕ) → k < length given → IsDone case time given pieces least least k) where
  abbrev before : ℕ → ℕ → ℤ
  before = population_kept case time kept

  -- a cell, its tile and what has become of it
  record IsCell (x : ℕ) : Type 0 where
    k : ℕ
    tile : TileModel
    piece : TileModel
    report : ℕ
    knew : ℕ
    is : slice_get given k ≡ Some tile
    in_place : slice_get pieces k ≡ Some (Some piece)
    at : InTile case tile x
    well : IsFinished case time tile piece report knew
    low : least ≤ report
    knows : least ≤ knew

  cell_of : (x : ℕ) → x < cells case.torus → IsCell x
  cell_of x here =
      let at = covers x here in let d = done at.0 (slice_get_within given at.0 at.1 at.2) in
      let same : d.tile ≡ at.1 = (let e : Some d.tile ≡ Some at.1 = sym d.is ∙ at.2 in cc) in record {
        k = at.0;
        tile = at.1;
        piece = d.piece;
        report = d.report;
        knew = d.knew;
        is = at.2;
        in_place = d.in_place;
        at = at.3;
        well = subst (λ (t : TileModel). IsFinished case time t d.piece d.report d.knew) same d.well;
        low = d.above;
        knows = d.told_more;
      }

  agree : (x k : ℕ) (tile : TileModel) → slice_get given k ≡ Some tile → InTile case tile x → Agree case.stencil (taken case time tile x) (before x)
  agree x k tile is at = record { same = λ i known. taken_kept case allowed time tile kept (lent k tile is) x i at known }

  sound_as : (x k : ℕ) (tile : TileModel) → slice_get given k ≡ Some tile → InTile case tile x → is_sound case x (taken case time tile x) ≡ is_sound case x (before x)
  sound_as x k tile is at = is_sound-agree case x (taken case time tile x) (before x) (agree x k tile is at)

  -- a cell below the least report is in limits
  below_sound : (x : ℕ) (c : IsCell x) → x < least → is_sound case x (taken case time c.tile x) ≡ true
  below_sound x c less =
      let between = cells_between case.torus allowed.space (c.tile.first, c.tile.end) x c.at in let low = c.low in let knows = c.knows in
      elim c.well.way [
        | inl stepped ↦ stepped.sound x c.at
        | inr rest ↦ elim rest [
          | inl bad ↦ bad.passed x between.0 (omega arith)
          | inr passed ↦ (let over = passed.before in let first = between.0 in absurd (omega arith))
        ]
      ]

  -- where nothing was reported, each tile was stepped
  stepped_all : least ≡ greatest → (x : ℕ) (c : IsCell x) → IsStepped case time c.tile c.piece c.report
  stepped_all quiet x c =
      let low = c.low in let knows = c.knows in let few = few_of_tile case allowed time c.tile (ready c.k c.tile c.is) in
      let between = cells_between case.torus allowed.space (c.tile.first, c.tile.end) x c.at in
      elim c.well.way [
        | inl stepped ↦ stepped
        | inr rest ↦ elim rest [
          | inl bad ↦ (let found = bad.failed c.report refl in let high = found.1 in absurd (omega arith))
          | inr passed ↦ (let over = passed.before in let first = between.0 in let last = between.1 in absurd (omega arith))
        ]
      ]

  pub none_first : least ≡ greatest → IsFirst (λ x. is_sound case x (before x)) 0 (cells case.torus) None
  none_first quiet = record {
    failed = λ k e. absurd cc;
    passed = λ x low here. (let c = cell_of x here in sym (sound_as x c.k c.tile c.is c.at) ∙ (stepped_all quiet x c).sound x c.at);
  }

  -- and what each cell sends is read of the cells to which it goes
  pub all_made : least ≡ greatest
      → ((k : ℕ) (piece : TileModel) → slice_get pieces k ≡ Some (Some piece) → (j : ℕ) → j < case.stencil.directions * height piece → slice_index_or new (entry_number case time (piece.first, piece.end) j) [] ≡ slice_index_or piece.kept j [])
      → AreMade case before (λ x i. population_kept case (time + 1) new (target case x i) i)
  all_made quiet back x i here known =
      let c = cell_of x here in let shape = c.well.shape in
      let at : InTile case c.piece x = subst (λ (b : ℕ × ℕ). InTile case (record { first = b.0; end = b.1; kept = c.piece.kept }) x) (λ j. (sym shape.first j, sym shape.end j)) c.at in
      sent_kept case allowed time c.piece new (back c.k c.piece c.in_place) x i here at known
      ∙ (stepped_all quiet x c).sent x i c.at known
      ∙ post-agree case x i (taken case time c.tile x) (before x) allowed.set (agree x c.k c.tile c.is c.at) known

  -- where a cell was reported, it is the first one
  pub bad_first : (k : ℕ) (tile : TileModel) → slice_get given k ≡ Some tile → IsBad case time tile least → IsFirst (λ x. is_sound case x (before x)) 0 (cells case.torus) (Some least)
  bad_first k tile is bad =
      let found = bad.failed least refl in let known = known_cells case allowed time tile (ready k tile is) in let low = found.0 in let high = found.1 in
      let at = in_tile case allowed time tile (ready k tile is) least low high in record {
        failed = λ x e. (let same : least ≡ x = cc in subst (λ (y : ℕ). (0 ≤ y) × (y < cells case.torus) × (is_sound case y (before y) ≡ false)) same (omega arith, omega arith, sym (sound_as least k tile is at) ∙ found.2));
        passed = λ x above less. (let inside : x < cells case.torus = omega arith in let c = cell_of x inside in sym (sound_as x c.k c.tile c.is c.at) ∙ below_sound x c less);
      }
