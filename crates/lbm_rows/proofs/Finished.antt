-- What a closed board has whose turns have all served.
use Rattle.std.proofs.Common.{◌≡◌, ◌⊎◌, ℕ, ◌<◌, ◌≤◌, min, List, [], ◌∷◌, ◌++◌, length, append_assoc, refl, ap, sym, ◌∙◌, subst, arith, Some, slice_get, inl, inr}
use Rattle.std.specs.Prelude.{Option}
use Rattle.std.proofs.lemmas.Bool.{cases_eq, cases_lt}
use Rattle.std.proofs.lemmas.Bool.Decides.{nat_tests}
use Rattle.lbm_board.specs.declared.record.Entry.{Entry}
use Rattle.lbm_board.specs.declared.record.Entry.TheVariants.{Draw, Finish, Look, NoneLeft}
use Rattle.lbm_board.specs.declared.record.Record.{Record}
use Rattle.lbm_board.specs.Lists.{Each, total}
use Rattle.lbm_board.specs.Entries.{greatest, one_if_below, draws, finishes, nones, reported, told, Holds}
use Rattle.lbm_board.specs.BoardRecord.{in_record, least_report, EndsAt, IsInPlace, IsClosed}
use Rattle.lbm_board.proofs.Counts.{other_counts_not}
use Rattle.lbm_model.specs.Case.{FlowCase}
use Rattle.lbm_rows.specs.Lending.{TileModel}
use Rattle.lbm_rows.specs.Serving.{IsBad, IsFinished, AllFinishWell, IsDone}

told_most : (es : List (Entry TileModel)) → told es ≤ greatest
told_most [] = omega arith
told_most (Draw n own ∷ es) = told_most es
told_most (Finish n piece report answer last ∷ es) = let rest = told_most es in omega arith
told_most (Look answer last ∷ es) = let rest = told_most es in omega arith
told_most (NoneLeft ∷ es) = told_most es

-- a turn is told no more as it goes on
told_front : (xs ys : List (Entry TileModel)) → told (xs ++ ys) ≤ told xs
told_front [] ys = told_most ys
told_front (Draw n own ∷ xs) ys = told_front xs ys
told_front (Finish n piece report answer last ∷ xs) ys = let rest = told_front xs ys in omega arith
told_front (Look answer last ∷ xs) ys = let rest = told_front xs ys in omega arith
told_front (NoneLeft ∷ xs) ys = told_front xs ys

one_below : (k n : ℕ) → k < n → one_if_below k n ≡ 1
one_below k n below = grind (arith, nat_tests)

module _ (case : FlowCase) (time : ℕ) (given : List TileModel) where
  -- number k was finished among some entries, behind others: its tile, and the finish
  pub record IsFound (pieces : List (Option TileModel)) (k : ℕ) (before es : List (Entry TileModel)) : Type 0 where
    pub tile : TileModel
    pub piece : TileModel
    pub report : ℕ
    pub knew : ℕ
    pub is : slice_get given k ≡ Some tile
    pub in_place : slice_get pieces k ≡ Some (Some piece)
    pub well : IsFinished case time tile piece report knew
    pub least : reported es ≤ report
    pub told_more : told (before ++ es) ≤ knew

  found_behind : (pieces : List (Option TileModel)) (k : ℕ) (before : List (Entry TileModel)) (e : Entry TileModel) (es : List (Entry TileModel)) → reported (e ∷ es) ≤ reported es → IsFound pieces k (before ++ e ∷ []) es → IsFound pieces k before (e ∷ es)
  found_behind pieces k before e es less found = record {
    tile = found.tile;
    piece = found.piece;
    report = found.report;
    knew = found.knew;
    is = found.is;
    in_place = found.in_place;
    well = found.well;
    least = let h = found.least in omega arith;
    told_more = subst (λ (l : List (Entry TileModel)). told l ≤ found.knew) (append_assoc before (e ∷ []) es) found.told_more;
  }

  found_in : (pieces : List (Option TileModel)) (k : ℕ) (before es : List (Entry TileModel)) → AllFinishWell case time given before es → Each (IsInPlace pieces) es → 0 < total (finishes k) es → IsFound pieces k before es
  found_in pieces k before [] well placed some = absurd (omega arith)
  found_in pieces k before (Draw n own ∷ es) well placed some = found_behind pieces k before (Draw n own) es (omega arith) (found_in pieces k (before ++ Draw n own ∷ []) es well.1 placed.1 (omega arith))
  found_in pieces k before (Look answer last ∷ es) well placed some = found_behind pieces k before (Look answer last) es (omega arith) (found_in pieces k (before ++ Look answer last ∷ []) es well.1 placed.1 (omega arith))
  found_in pieces k before (NoneLeft ∷ es) well placed some = found_behind pieces k before NoneLeft es (omega arith) (found_in pieces k (before ++ NoneLeft ∷ []) es well.1 placed.1 (omega arith))
  found_in pieces k before (Finish n piece report answer last ∷ es) well placed some = elim (cases_eq n k) [
    | inr ne ↦ (let not = other_counts_not n k ne in
        found_behind pieces k before (Finish n piece report answer last) es (omega arith) (found_in pieces k (before ++ Finish n piece report answer last ∷ []) es well.1 placed.1 (omega arith)))
    | inl same ↦ record {
      tile = well.0.0;
      piece = piece;
      report = report;
      knew = told before;
      is = subst (λ (m : ℕ). slice_get given m ≡ Some well.0.0) same well.0.1;
      in_place = subst (λ (m : ℕ). slice_get pieces m ≡ Some (Some piece)) same placed.0;
      well = well.0.2;
      least = omega arith;
      told_more = told_front before (Finish n piece report answer last ∷ es);
    }
  ]

  -- a turn that has served from its first call on
  pub record HasServedAll (r : Record TileModel) : Type 0 where
    pub well : AllFinishWell case time given [] r.entries
    pub none_held : (k : ℕ) → Holds k r → ⊥
    pub ended : 0 < total nones r.entries

  -- a number that was drawn was finished
  done_in : (k bound : ℕ) (pieces : List (Option TileModel)) (rs : List (Record TileModel)) → Each HasServedAll rs → Each (λ r. Each (IsInPlace pieces) r.entries) rs → Each (λ r. bound ≤ told r.entries) rs
      → 0 < total (in_record (draws k)) rs → IsDone case time given pieces bound (least_report rs) k
  done_in k bound pieces [] served placed bounded some = absurd (omega arith)
  done_in k bound pieces (r ∷ rs) served placed bounded some = elim (cases_lt 0 (total (draws k) r.entries)) [
    | inl here ↦ (let free = served.0.none_held k in
        let finished : 0 < total (finishes k) r.entries = elim (cases_lt (total (finishes k) r.entries) (total (draws k) r.entries)) [ inl holds ↦ absurd (free holds) | inr all ↦ omega arith ] in
        let found = found_in pieces k [] r.entries served.0.well placed.0 finished in let low = bounded.0 in let knows = found.told_more in let reports = found.least in record {
          tile = found.tile;
          piece = found.piece;
          report = found.report;
          knew = found.knew;
          is = found.is;
          in_place = found.in_place;
          well = found.well;
          above = omega arith;
          told_more = omega arith;
        })
    | inr none ↦ (let done = done_in k bound pieces rs served.1 placed.1 bounded.1 (omega arith) in let reports = done.above in record {
      tile = done.tile;
      piece = done.piece;
      report = done.report;
      knew = done.knew;
      is = done.is;
      in_place = done.in_place;
      well = done.well;
      above = omega arith;
      told_more = done.told_more;
    })
  ]

  ends_at : (pieces drawn : ℕ) (es : List (Entry TileModel)) → Each (EndsAt pieces drawn) es → 0 < total nones es → drawn ≡ pieces
  ends_at pieces drawn [] ends some = absurd (omega arith)
  ends_at pieces drawn (Draw n own ∷ es) ends some = ends_at pieces drawn es ends.1 (omega arith)
  ends_at pieces drawn (Finish n piece report answer last ∷ es) ends some = ends_at pieces drawn es ends.1 (omega arith)
  ends_at pieces drawn (Look answer last ∷ es) ends some = ends_at pieces drawn es ends.1 (omega arith)
  ends_at pieces drawn (NoneLeft ∷ es) ends some = ends.0

  -- where all turns have served, each tile is finished
  pub all_done : (r : Record TileModel) (rs : List (Record TileModel)) (pieces : List (Option TileModel)) (drawn : List (Option ℕ)) (least : ℕ) → Each HasServedAll (r ∷ rs) → IsClosed given (r ∷ rs) pieces drawn least
      → (k : ℕ) → k < length given → IsDone case time given pieces least least k
  all_done r rs pieces drawn least served closed k below =
      let agree = closed.agree in
      let all : agree.drawn ≡ length given = ends_at (length given) agree.drawn r.entries agree.ends.0 served.0.ended in
      let once = agree.once k in let one : one_if_below k agree.drawn ≡ 1 = ap (one_if_below k) all ∙ one_below k (length given) below in
      let some : 0 < total (in_record (draws k)) (r ∷ rs) = omega arith in
      subst (λ (m : ℕ). IsDone case time given pieces m m k) (sym closed.least_is) (done_in k (least_report (r ∷ rs)) pieces (r ∷ rs) served closed.finished agree.least some)

  -- a finish whose report is r
  pub record IsReported (r : ℕ) : Type 0 where
    pub k : ℕ
    pub tile : TileModel
    pub piece : TileModel
    pub knew : ℕ
    pub is : slice_get given k ≡ Some tile
    pub well : IsFinished case time tile piece r knew

  reported_as : (r s : ℕ) → r ≡ s → IsReported r → IsReported s
  reported_as r s e is = subst IsReported e is

  least_in : (before es : List (Entry TileModel)) → AllFinishWell case time given before es → (reported es ≡ greatest) ⊎ IsReported (reported es)
  least_in before [] well = inl refl
  least_in before (Draw n own ∷ es) well = least_in (before ++ Draw n own ∷ []) es well.1
  least_in before (Look answer last ∷ es) well = least_in (before ++ Look answer last ∷ []) es well.1
  least_in before (NoneLeft ∷ es) well = least_in (before ++ NoneLeft ∷ []) es well.1
  least_in before (Finish n piece report answer last ∷ es) well = elim (cases_lt report (reported es)) [
    | inl less ↦ inr (reported_as report (min report (reported es)) (omega arith) (record { k = n; tile = well.0.0; piece = piece; knew = told before; is = well.0.1; well = well.0.2 }))
    | inr more ↦ (let e : reported es ≡ min report (reported es) = omega arith in elim (least_in (before ++ Finish n piece report answer last ∷ []) es well.1) [
      | inl none ↦ inl (sym e ∙ none)
      | inr one ↦ inr (reported_as (reported es) (min report (reported es)) e one)
    ])
  ]

  least_of : (rs : List (Record TileModel)) → Each HasServedAll rs → (least_report rs ≡ greatest) ⊎ IsReported (least_report rs)
  least_of [] served = inl refl
  least_of (r ∷ rs) served = elim (cases_lt (reported r.entries) (least_report rs)) [
    | inl less ↦ (let e : reported r.entries ≡ min (reported r.entries) (least_report rs) = omega arith in elim (least_in [] r.entries served.0.well) [
      | inl none ↦ inl (sym e ∙ none)
      | inr one ↦ inr (reported_as (reported r.entries) (min (reported r.entries) (least_report rs)) e one)
    ])
    | inr more ↦ (let e : least_report rs ≡ min (reported r.entries) (least_report rs) = omega arith in elim (least_of rs served.1) [
      | inl none ↦ inl (sym e ∙ none)
      | inr one ↦ inr (reported_as (least_report rs) (min (reported r.entries) (least_report rs)) e one)
    ])
  ]

  -- the least report is the least cell out of limits of a tile, unless nothing was reported
  pub least_is_bad : (rs : List (Record TileModel)) (pieces : List (Option TileModel)) (drawn : List (Option ℕ)) (least : ℕ) → Each HasServedAll rs → IsClosed given rs pieces drawn least
      → (least ≡ greatest) ⊎ ((k : ℕ) × (tile : TileModel) × (slice_get given k ≡ Some tile) × IsBad case time tile least)
  least_is_bad rs pieces drawn least served closed = elim (least_of rs served) [
    | inl none ↦ inl (closed.least_is ∙ none)
    | inr one ↦ elim one.well.way [
      | inl stepped ↦ inl (closed.least_is ∙ stepped.quiet)
      | inr rest ↦ elim rest [
        | inl bad ↦ inr (one.k, one.tile, one.is, subst (IsBad case time one.tile) (sym closed.least_is) bad)
        | inr passed ↦ inl (closed.least_is ∙ passed.quiet)
      ]
    ]
  ]
