-- What the entries of a turn's record say.
use Rattle.std.specs.Prelude.{ℕ, ◌<◌, eqb, ltb, cond, min, max, List, [], ◌∷◌, ◌++◌}
use Rattle.lbm_board.specs.declared.record.Entry.{Entry}
use Rattle.lbm_board.specs.declared.record.Entry.TheVariants.{Draw, Finish, Look, NoneLeft}
use Rattle.lbm_board.specs.declared.record.Record.{Record}
use Rattle.lbm_board.specs.Lists.{total}

-- the greatest u64
abbrev pub greatest : ℕ
greatest = 18446744073709551615

-- 1 where the numbers are the same, and else 0
abbrev pub one_if_same : ℕ → ℕ → ℕ
one_if_same n k = cond (eqb n k) 1 0

-- 1 where k is below n, and else 0
abbrev pub one_if_below : ℕ → ℕ → ℕ
one_if_below k n = cond (ltb k n) 1 0

module _ {T : Type 0} where
  -- how often the entry draws number k
  abbrev pub draws : ℕ → Entry T → ℕ
  draws k (Draw n own) = one_if_same n k
  draws k _ = 0

  -- how often it finishes number k
  abbrev pub finishes : ℕ → Entry T → ℕ
  finishes k (Finish n piece report answer last) = one_if_same n k
  finishes k _ = 0

  -- how often it reports m
  abbrev pub reports : ℕ → Entry T → ℕ
  reports m (Finish n piece report answer last) = one_if_same report m
  reports m _ = 0

  -- how often it says that no piece is left
  abbrev pub nones : Entry T → ℕ
  nones NoneLeft = 1
  nones _ = 0

  -- the least that these entries report, or the greatest u64
  abbrev pub reported : List (Entry T) → ℕ
  reported [] = greatest
  reported (Finish n piece report answer last ∷ es) = min report (reported es)
  reported (_ ∷ es) = reported es

  -- the least that these entries report or are answered, or the greatest u64
  abbrev pub told : List (Entry T) → ℕ
  told [] = greatest
  told (Finish n piece report answer last ∷ es) = min (min report answer) (told es)
  told (Look answer last ∷ es) = min answer (told es)
  told (_ ∷ es) = told es

  -- the greatest number that these entries draw, 0 where they draw none, and the number of pieces where they say that none is left
  abbrev pub latest : ℕ → List (Entry T) → ℕ
  latest pieces [] = 0
  latest pieces (Draw n own ∷ es) = max n (latest pieces es)
  latest pieces (NoneLeft ∷ es) = max pieces (latest pieces es)
  latest pieces (_ ∷ es) = latest pieces es

  -- the number that the entry draws, if it draws one, is below n
  abbrev pub DrawsBelow : ℕ → Entry T → Type 0
  DrawsBelow n (Draw k own) = k < n
  DrawsBelow n _ = Unit {0}

  -- a record
  abbrev pub record_of : ℕ → List (Entry T) → Record T
  record_of turn entries = record { turn = turn; entries = entries }

  -- the record of a view that stands for one turn
  abbrev pub only : List (Record T) → Record T
  only [] = record_of 0 []
  only (r ∷ rs) = r

  -- the record with one more entry
  abbrev pub with_entry : Record T → Entry T → Record T
  with_entry r e = record { turn = r.turn; entries = r.entries ++ e ∷ [] }

  -- the turn holds the piece of number k: it has drawn k and not finished it
  abbrev pub Holds : ℕ → Record T → Type 0
  Holds k r = total (finishes k) r.entries < total (draws k) r.entries
