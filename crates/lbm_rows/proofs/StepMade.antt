-- A step by tiles: that they are ready, and what it comes to.
use Rattle.std.proofs.Common.{◌≡◌, ◌⊎◌, ℕ, suc, ◌+◌, ◌-◌, ◌*◌, ◌/◌, ◌%◌, ◌<◌, ◌≤◌, ◌^◌, nat_eq, true, false, Bool, List, [], ◌∷◌, ℤ, length, map, slice_get, Some, refl, ap, sym, ◌∙◌, subst, arith, inl, inr, unsigned_abs}
use Rattle.std.specs.Prelude.{Option, None, slice_index_or, if◌then◌else◌}
use Rattle.std.proofs.lemmas.Bool.Decides.{nat_tests}
use Rattle.std.specs.Int.{div_ceil}
use Rattle.std.proofs.lemmas.Bool.{cases_eq, cases_lt}
use Rattle.std.proofs.lemmas.Nat.{div_below, mod_below, mul-add-lt, mul-le}
use Rattle.std.proofs.lemmas.Option.{slice_get-get_or, slice_get_within, get_or_from_slice_get}
use Rattle.lbm_space.specs.Torus.{cells, rows}
use Rattle.lbm_walk.proofs.Places.{row_known}
use Rattle.lbm_board.specs.declared.record.Entry.{Entry}
use Rattle.lbm_board.specs.Lists.{Each}
use Rattle.lbm_board.specs.Entries.{greatest, Holds}
use Rattle.lbm_board.specs.Models.{BoardModel, TurnModel, IsTurnOf, log_of, fresh_turn}
use Rattle.lbm_board.specs.BoardRecord.{IsClosed}
use Rattle.lbm_model.specs.Case.{FlowCase, IsCase, target}
use Rattle.lbm_model.specs.Small.{IsSmall, size_limit}
use Rattle.lbm_model.proofs.States.{population-state_by}
use Rattle.lbm_sweep.specs.Steps.{IsStepTo}
use Rattle.lbm_sweep.proofs.Steps.{swept_is_step}
use Rattle.lbm_rows.specs.Division.{AreFew, most_tiles}
use Rattle.lbm_rows.specs.Kept.{AreKept, population_kept, state_kept}
use Rattle.lbm_rows.specs.Lending.{TileModel, height, lent_row, lent_number, IsLent, IsTile, IsReady, InTile}
use Rattle.lbm_rows.specs.Serving.{AllFinishWell, CanServe, HasWorkedOff, IsWorkedOff}
use Rattle.lbm_rows.specs.Tiles.{AreLent, AreTiles, ArePieces, IsBack, IsCut}
use Rattle.lbm_rows.proofs.LentRows.{lent_known}
use Rattle.lbm_rows.proofs.KeptSteps.{taken_kept}
use Rattle.lbm_rows.proofs.TileCells.{few_of_tile}
use Rattle.lbm_rows.proofs.Cuts.{tile_of_row, all_back}
use Rattle.lbm_rows.proofs.Finished.{HasServedAll, all_done, least_is_bad}
use Rattle.lbm_rows.proofs.Results.{none_first, all_made, bad_first}

module _ (case : FlowCase) (allowed : IsCase case) (time : ℕ) (kept : List (List ℤ)) (whole : AreKept case kept) where
  -- a lent tile has whole rows
  pub lent_whole : (tile : TileModel) → IsLent case time kept tile → IsTile case tile
  lent_whole tile lent = record {
    some = lent.some;
    inside = lent.inside;
    sized = record {
      count = lent.count;
      lengths = λ j below. (
          let some = lent.some in let inside = lent.inside in let h : ℕ = height tile in
          let k_known = div_below j h case.stencil.directions (omega arith) below in let n_known = mod_below j h (omega arith) in
          let same : j / h * h + j % h ≡ j = omega arith in
          let row = lent_known case allowed time (j / h) (tile.first + j % h) k_known (omega arith) in
          ap (λ (m : ℕ). length (slice_index_or tile.kept m [])) (sym same) ∙ ap (λ (r : List ℤ). length r) (lent.lent (j / h) (j % h) k_known n_known)
          ∙ whole.lengths (lent_number case time (j / h) (tile.first + j % h)) (let e = mul-add-lt (j / h) (rows case.torus) (lent_row case time (j / h) (tile.first + j % h)) case.stencil.directions k_known row in omega (arith, e)));
    };
  }

  -- and is ready
  pub lent_ready : IsSmall case (state_kept case time kept) → (tile : TileModel) → IsLent case time kept tile → IsReady case time tile
  lent_ready small tile lent = record {
    whole = lent_whole tile lent;
    small = λ x i at known.
        subst (λ (z : ℤ). unsigned_abs z ≤ size_limit case x)
        (population-state_by case (population_kept case time kept) x i at.known known ∙ sym (taken_kept case allowed time tile kept lent x i at known))
        (small.within x i at.known known);
  }

  -- the tiles that are lent are those of the case
  module _ (n : ℕ) (tiles : List TileModel) (lent : AreLent case time n kept tiles) where
    pub tiles_are : AreTiles case tiles
    tiles_are = record { n = n; cut = lent.cut; at = λ k tile is. record { whole = lent_whole tile (lent.lent k tile is); bounds = lent.bounds k tile is } }

    -- and they are no more than a board takes
    pub few_tiles : AreFew (rows case.torus) n → length tiles ≤ most_tiles
    few_tiles few = elim (cases_lt most_tiles (length tiles)) [
      | inl more ↦ (let last = lent.cut.each most_tiles more in absurd (omega (arith, last, few)))
      | inr less ↦ omega arith
    ]

    -- and where they are brought back untouched, all is as before
    pub tiles_back : (new : List (List ℤ)) → length new ≡ case.stencil.directions * rows case.torus → ((k : ℕ) (tile : TileModel) → slice_get tiles k ≡ Some tile → IsBack case time tile new) → new ≡ kept
    tiles_back new long back =
        let d : TileModel = record { first = 0; end = 0; kept = [] } in
        let is : (k : ℕ) → k < length tiles → slice_get tiles k ≡ Some (slice_index_or tiles k d) = λ k below. slice_get-get_or tiles k d below in
        all_back case allowed time n (length tiles) lent.cut new long
        (λ k below. let tile : TileModel = slice_index_or tiles k d in (tile, record { whole = lent_whole tile (lent.lent k tile (is k below)); bounds = lent.bounds k tile (is k below) }, back k tile (is k below)))
        kept whole.count (λ k below. lent.lent k (slice_index_or tiles k d) (is k below))

  -- a new turn of a board that was started with lent tiles may serve
  pub fresh_serves : (n : ℕ) (board : BoardModel TileModel) → AreLent case time n kept board.given → IsSmall case (state_kept case time kept) → (turns : List (TurnModel TileModel))
      → ((k : ℕ) (d : TurnModel TileModel) → k < length turns → IsTurnOf board (slice_index_or turns k d))
      → ((k : ℕ) → k < length turns → slice_get turns k ≡ Some (fresh_turn board.table board.given k))
      → (k : ℕ) (d : TurnModel TileModel) → k < length turns → CanServe case time board (slice_index_or turns k d)
  fresh_serves n board lent small turns of_board fresh k d below = record {
    of_board = of_board k d below;
    free = λ m holds. (let none : 0 < 0 = subst (λ (t : TurnModel TileModel). Holds m t.log) (get_or_from_slice_get turns k (fresh_turn board.table board.given k) d (fresh k below)) holds in absurd (omega arith));
    tiles = λ m tile is. lent_ready small tile (lent.lent m tile is);
  }

  module _ (n : ℕ) (tiles : List TileModel) (lent : AreLent case time n kept tiles) (small : IsSmall case (state_kept case time kept)) where
    ready : (k : ℕ) (tile : TileModel) → slice_get tiles k ≡ Some tile → IsReady case time tile
    ready k tile is = lent_ready small tile (lent.lent k tile is)

    -- each cell is in a tile
    covered : (x : ℕ) → x < cells case.torus → (k : ℕ) × (tile : TileModel) × (slice_get tiles k ≡ Some tile) × InTile case tile x
    covered x here =
        let at = tile_of_row case allowed time n (length tiles) lent.cut (x / case.torus.nx) (row_known case.torus allowed.space x here) in
        let d : TileModel = record { first = 0; end = 0; kept = [] } in let tile : TileModel = slice_index_or tiles at.k d in
        let is : slice_get tiles at.k ≡ Some tile = slice_get-get_or tiles at.k d at.known in let same = lent.bounds at.k tile is in (
          at.k,
          tile,
          is,
          record {
            known = here;
            low = subst (λ (b : ℕ × ℕ). b.0 ≤ x / case.torus.nx) (sym same) at.low;
            high = subst (λ (b : ℕ × ℕ). x / case.torus.nx < b.1) (sym same) at.high;
          },
        )

    module _ (pieces : List (Option TileModel)) (least : ℕ) (off : IsWorkedOff case time tiles pieces least) where
      -- the pieces are tiles of the same rows
      pub pieces_whole : ArePieces case pieces
      pieces_whole = record {
        n = n;
        cut = subst (IsCut (rows case.torus) n) (sym off.as_many) lent.cut;
        at = λ k below. (
            let d = off.done k (subst (λ (m : ℕ). k < m) off.as_many below) in let shape = d.well.shape in let was = lent_whole d.tile (lent.lent k d.tile d.is) in
            let bounds : (d.piece.first, d.piece.end) ≡ (d.tile.first, d.tile.end) = (λ j. (shape.first j, shape.end j)) in
            let tall : height d.piece ≡ height d.tile = ap (λ (b : ℕ × ℕ). b.1 - b.0) bounds in
            let many : case.stencil.directions * height d.piece ≡ case.stencil.directions * height d.tile = ap (λ (h : ℕ). case.stencil.directions * h) tall in (
              d.piece,
              d.in_place,
              record {
                whole = record {
                  some = subst (λ (b : ℕ × ℕ). b.0 < b.1) (sym bounds) was.some;
                  inside = subst (λ (m : ℕ). m ≤ rows case.torus) (sym shape.end) was.inside;
                  sized = record {
                    count = shape.count ∙ was.sized.count ∙ sym many;
                    lengths = λ j within. (let inside : j < case.stencil.directions * height d.tile = subst (λ (m : ℕ). j < m) many within in
                        shape.lengths j (subst (λ (m : ℕ). j < m) (sym was.sized.count) inside) ∙ was.sized.lengths j inside);
                  };
                };
                bounds = bounds ∙ lent.bounds k d.tile d.is;
              },
            ));
      }

      -- a report is the number of a cell
      pub report_fits : (least ≡ greatest) ⊎ (least < 2 ^ 32)
      report_fits = elim off.bad [
        | inl quiet ↦ inl quiet
        | inr bad ↦ inr (let found = bad.3.failed least refl in let high = found.1 in let few = few_of_tile case allowed time bad.1 (ready bad.0 bad.1 bad.2) in omega arith)
      ]

      abbrev answer_of : Bool → Option ℕ
      answer_of none = if none then None else Some least

      -- once they are back the step is made
      pub step_made : (new : List (List ℤ)) → ((k : ℕ) (tile : TileModel) → slice_get pieces k ≡ Some (Some tile) → IsBack case time tile new)
          → IsStepTo case (state_kept case time kept) (population_kept case (time + 1) new) (if nat_eq least greatest then None else Some least)
      step_made new back = elim off.bad [
        | inl quiet ↦ subst (λ (e : Bool). IsStepTo case (state_kept case time kept) (population_kept case (time + 1) new) (answer_of e)) (let e : true ≡ nat_eq least greatest = grind (arith, nat_tests) in e)
            (swept_is_step case (state_kept case time kept) (population_kept case time kept) (λ x i. population_kept case (time + 1) new (target case x i) i) (population_kept case (time + 1) new) None
            allowed (λ x i here known. sym (population-state_by case (population_kept case time kept) x i here known))
            (none_first case allowed time kept new tiles pieces least ready lent.lent covered off.done quiet)
            (λ none. all_made case allowed time kept new tiles pieces least ready lent.lent covered off.done quiet back)
            (λ none x i here known. refl))
        | inr bad ↦ (
            let found = bad.3.failed least refl in let high = found.1 in let few = few_of_tile case allowed time bad.1 (ready bad.0 bad.1 bad.2) in
            let ne : (least ≡ greatest → ⊥) = λ e. absurd (omega arith) in
            subst (λ (e : Bool). IsStepTo case (state_kept case time kept) (population_kept case (time + 1) new) (answer_of e)) (let e : false ≡ nat_eq least greatest = grind (arith, nat_tests) in e)
            (swept_is_step case (state_kept case time kept) (population_kept case time kept) (λ x i. population_kept case (time + 1) new (target case x i) i) (population_kept case (time + 1) new) (Some least)
            allowed (λ x i here known. sym (population-state_by case (population_kept case time kept) x i here known))
            (bad_first case allowed time kept new tiles pieces least ready lent.lent covered off.done bad.0 bad.1 bad.2 bad.3)
            (λ none. absurd cc)
            (λ none. absurd cc)))
      ]

-- where all turns have served, the close is that of a board that was worked off
module _ (case : FlowCase) (time : ℕ) (board : BoardModel TileModel) where
  served_whole : (k : ℕ) (new : TurnModel TileModel) → HasWorkedOff case time board (fresh_turn board.table board.given k) new → HasServedAll case time board.given new.log
  served_whole k new off = record {
    well = subst (λ (es : List (Entry TileModel)). AllFinishWell case time board.given [] es) (sym off.served.grown) off.served.well;
    none_held = off.served.none_held;
    ended = off.ended;
  }

  each_served : (ts : List (TurnModel TileModel)) → ((k : ℕ) (t : TurnModel TileModel) → slice_get ts k ≡ Some t → HasServedAll case time board.given t.log) → Each (HasServedAll case time board.given) (map log_of ts)
  each_served [] served = tt
  each_served (t ∷ ts) served = (served 0 t refl, each_served ts (λ k u is. served (suc k) u is))

  pub all_served : (old new : List (TurnModel TileModel)) → length new ≡ length old
      → ((k : ℕ) → k < length old → slice_get old k ≡ Some (fresh_turn board.table board.given k))
      → ((k : ℕ) (d : TurnModel TileModel) → k < length old → HasWorkedOff case time board (slice_index_or old k d) (slice_index_or new k d))
      → Each (HasServedAll case time board.given) (map log_of new)
  all_served old new many fresh worked = each_served new (λ k t is.
      let below : k < length old = subst (λ (m : ℕ). k < m) many (slice_get_within new k t is) in
      let first = get_or_from_slice_get old k (fresh_turn board.table board.given k) t (fresh k below) in
      let last = get_or_from_slice_get new k t t is in
      served_whole k t (subst (λ (p : TurnModel TileModel × TurnModel TileModel). HasWorkedOff case time board p.0 p.1) (λ j. (first j, last j)) (worked k t below)))

  pub worked_off : (ts : List (TurnModel TileModel)) (pieces : List (Option TileModel)) (drawn : List (Option ℕ)) (least : ℕ) → 0 < length ts
      → Each (HasServedAll case time board.given) (map log_of ts) → IsClosed board.given (map log_of ts) pieces drawn least → IsWorkedOff case time board.given pieces least
  worked_off [] pieces drawn least some served closed = absurd (omega arith)
  worked_off (t ∷ ts) pieces drawn least some served closed = record {
    as_many = closed.as_many;
    done = all_done case time board.given t.log (map log_of ts) pieces drawn least served closed;
    bad = least_is_bad case time board.given (map log_of (t ∷ ts)) pieces drawn least served closed;
  }

  pub closed_off : (old ts : List (TurnModel TileModel)) (pieces : List (Option TileModel)) (drawn : List (Option ℕ)) (least : ℕ) → IsClosed board.given (map log_of ts) pieces drawn least → 0 < length ts → length ts ≡ length old
      → ((k : ℕ) → k < length old → slice_get old k ≡ Some (fresh_turn board.table board.given k))
      → ((k : ℕ) (d : TurnModel TileModel) → k < length old → HasWorkedOff case time board (slice_index_or old k d) (slice_index_or ts k d))
      → IsWorkedOff case time board.given pieces least
  closed_off old ts pieces drawn least closed some many fresh worked = worked_off ts pieces drawn least some (all_served old ts many fresh worked) closed

-- so many tiles as rows by rows a tile, rounded up, have all rows
pub cut_by : (all n : ℕ) → 1 ≤ n → IsCut all n (div_ceil all n)
cut_by all n some =
    let whole : all / n * n + all % n ≡ all = omega arith in let rest = mod_below all n (omega arith) in
    elim (cases_eq (all % n) 0) [
      | inl even ↦ (let is : div_ceil all n ≡ all / n = omega (arith, even) in subst (IsCut all n) (sym is) (record {
        all = omega (arith, whole, even);
        each = λ k below. (let e = mul-add-lt k n (n - 1) (all / n) below (omega arith) in omega (arith, e, whole, some));
      }))
      | inr odd ↦ (let is : div_ceil all n ≡ all / n + 1 = omega (arith, odd) in subst (IsCut all n) (sym is) (record {
        all = omega (arith, whole, rest);
        each = λ k below. (let e = mul-le k n (all / n) n (omega arith) (omega arith) in omega (arith, e, whole, odd));
      }))
    ]
